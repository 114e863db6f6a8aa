-- Each way out of the reader is the command that the definition gives.
use Prim.Native.Nat.{ℕ, ◌+◌, ◌-◌, ◌≤◌, ◌<◌}
use native.Mathlib.Omega.{arith}
use mathlib.Core.Bool.{Bool, true, false, ◌&&◌, cond}
use lib.Dec.{eqb}
use lib.Pointwise.{pointwise}
use borrow.Author.Tests.{eqb-true, eqb-false, eq-eqb, ne_eqb}
use Rattle.std.specs.List.{starts_with}
use mathlib.Core.List.{List, [], ◌∷◌}
use mathlib.Core.Path.{◌≡◌, refl, sym, ap, ap₂, ◌∙◌}
use lib.ListN.{length, take, drop, length-drop, drop_of_length-le}
use lib.Seq.{take_all}
use Rattle.std.specs.Prelude.{Option, Some, None}
use Rattle.std.specs.Option.{option_map_or}
use Rattle.model.specs.Lists.{length_before, bytes, same}
use Rattle.model.specs.Number.{number_of}
use Rattle.numbers.specs.NumberTo.{next_place, number_to}
use Rattle.numbers.proofs.Ends.{number_failed, number_read, number_within}
use Rattle.conversation.specs.Script.{begins, before_blank, after_blank, argument, redeclare_of, file_in, run_of, command_of}
use Rattle.conversation.specs.Script as Script
use Rattle.conversation.proofs.Front.{no_code}
use Rattle.command.specs.Said.{said, word_length}
use Rattle.command.specs.declared.Command.{Command}
use Rattle.command.specs.declared.Command.TheVariants.{Redeclare, Nothing}

-- The library's test of two lists is the definition's, from either side.
pointwise_same : (s t : List ℕ) → pointwise eqb s t ≡ same s t
pointwise_same [] [] = refl
pointwise_same [] (b ∷ t) = refl
pointwise_same (a ∷ s) [] = refl
pointwise_same (a ∷ s) (b ∷ t) = ap (λ (r : Bool). eqb a b && r) (pointwise_same s t)

turned : (a b : ℕ) → eqb a b ≡ eqb b a
turned a b = by (eqb b a) refl
  where
    by : (t : Bool) → eqb b a ≡ t → eqb a b ≡ t
    by true e = eq-eqb a b (sym (eqb-true b a e))
    by false e = ne_eqb a b (λ p. eqb-false b a e (sym p))

same_turned : (s t : List ℕ) → same s t ≡ same t s
same_turned [] [] = refl
same_turned [] (b ∷ t) = refl
same_turned (a ∷ s) [] = refl
same_turned (a ∷ s) (b ∷ t) = ap₂ ◌&&◌ (turned a b) (same_turned s t)

-- Whether the bytes begin with a word, by the library's two tests of that.
module _ (word s : List ℕ) where
  pub begins_by : (r t : Bool) → r ≡ starts_with eqb s word → r ≡ t → begins word s ≡ t
  begins_by r t e is = sym (e ∙ pointwise_same word (take (length word) s) ∙ same_turned word (take (length word) s)) ∙ is

  pub begins_stripped : (t : Bool) → pointwise eqb (take (length word) s) word ≡ t → begins word s ≡ t
  begins_stripped t e = sym (pointwise_same (take (length word) s) word) ∙ e

no_second : (p code : Option ℕ) (t : List ℕ) → code ≡ None → said Nothing t ≡ redeclare_of p code
unfolding said
no_second p code t e = simp e (sym (no_code p))

no_number : argument [] ≡ None
unfolding number_of
no_number = refl

-- The part of a slice from a place to its end, as a call is lent it.
abbrev rest : ℕ → List ℕ → List ℕ
rest n s = take (length s - n) (drop n s)

pub rest-is : (n : ℕ) (s : List ℕ) → rest n s ≡ drop n s
rest-is n s = take_all (length s - n) (drop n s) (omega (arith, length-drop n s))

-- Two numbers, parted by the first blank: the first one was read up to it.
module _ (s : List ℕ) (first : Option (ℕ × ℕ)) (read : first ≡ number_to 32 4294967295 s 0) where
  pub no_first : first ≡ None → (t : List ℕ) → said Nothing t ≡ redeclare_of (argument (before_blank s)) (argument (after_blank s))
  unfolding said
  no_first none t = simp (number_failed 32 4294967295 s 0 first read none)

  module _ (p end : ℕ) (is : first ≡ Some (p, end)) where
    first-is : (argument (before_blank s) ≡ Some p) × (next_place 32 s 0 ≡ end)
    first-is = number_read 32 4294967295 s 0 first read p end is

    pub blank_within : end ≤ length s
    blank_within = number_within 32 4294967295 s 0 first read p end is (omega arith)

    -- without a blank no second number stands
    pub no_blank : length s < end + 1 → (t : List ℕ) → said Nothing t ≡ redeclare_of (argument (before_blank s)) (argument (after_blank s))
    no_blank h t =
        let past : length s ≤ length_before 32 s + 1 = omega (arith, first-is.1) in
        no_second (argument (before_blank s)) (argument (after_blank s)) t (ap argument (drop_of_length-le s past) ∙ no_number)

    module _ (code : Option ℕ) (e : code ≡ number_of 4294967295 (rest (end + 1) s)) where
      code_is : argument (after_blank s) ≡ code
      code_is = let place : length_before 32 s ≡ end = omega (arith, first-is.1) in sym (e ∙ rw (rest-is (end + 1) s, place))

      both_numbers : (n : ℕ) → code ≡ Some n → (t : List ℕ) → said (Redeclare p n) t ≡ redeclare_of (argument (before_blank s)) (argument (after_blank s))
      unfolding said
      both_numbers n v t = simp (first-is.0, code_is ∙ v)

      first_only : code ≡ None → (t : List ℕ) → said Nothing t ≡ redeclare_of (argument (before_blank s)) (argument (after_blank s))
      first_only v t = no_second (argument (before_blank s)) (argument (after_blank s)) t (code_is ∙ v)

      -- What is made of the second number, where it is one.
      pub second_number : (r : Command) → r ≡ option_map_or (λ n. Redeclare p n) code Nothing →
          ((t : List ℕ) → said r t ≡ redeclare_of (argument (before_blank s)) (argument (after_blank s))) × (word_length r ≡ 0)
      second_number r e = by code refl e
        where
          by : (o : Option ℕ) → code ≡ o → r ≡ option_map_or (λ n. Redeclare p n) o Nothing → ((t : List ℕ) → said r t ≡ redeclare_of (argument (before_blank s)) (argument (after_blank s))) × (word_length r ≡ 0)
          by (Some n) v made = (rw made (both_numbers n v), ap word_length made)
          by None v made = (rw made (first_only v), ap word_length made)

-- A test came out as t.
module _ (test : Bool) (a b c : Script.Command) where
  passed : test ≡ true → c ≡ a → c ≡ cond test a b
  passed v p = simp v p

  failed : test ≡ false → c ≡ b → c ≡ cond test a b
  failed v p = simp v p

-- The commands are tried in turn.
module _ (s : List ℕ) (c : Script.Command) where
  pub is_add : begins (bytes "add ") s ≡ true → c ≡ Script.add (drop 4 s) → c ≡ command_of s
  unfolding command_of
  is_add e is = passed _ _ _ c e is

  module _ (no-add : begins (bytes "add ") s ≡ false) where
    pub is_redeclare : begins (bytes "redeclare ") s ≡ true → c ≡ redeclare_of (argument (before_blank (drop 10 s))) (argument (after_blank (drop 10 s))) → c ≡ command_of s
    unfolding command_of
    is_redeclare e is = failed _ _ _ c no-add (passed _ _ _ c e is)

    module _ (no-redeclare : begins (bytes "redeclare ") s ≡ false) where
      pub is_take_back : same s (bytes "take-back") ≡ true → c ≡ Script.take_back → c ≡ command_of s
      unfolding command_of
      is_take_back e is = failed _ _ _ c no-add (failed _ _ _ c no-redeclare (passed _ _ _ c e is))

      module _ (no-take-back : same s (bytes "take-back") ≡ false) where
        pub is_infer : same s (bytes "infer") ≡ true → c ≡ Script.infer → c ≡ command_of s
        unfolding command_of
        is_infer e is = failed _ _ _ c no-add (failed _ _ _ c no-redeclare (failed _ _ _ c no-take-back (passed _ _ _ c e is)))

        module _ (no-infer : same s (bytes "infer") ≡ false) where
          pub is_schemes : begins (bytes "schemes ") s ≡ true → c ≡ Script.schemes (file_in (drop 8 s)) → c ≡ command_of s
          unfolding command_of
          is_schemes e is = failed _ _ _ c no-add (failed _ _ _ c no-redeclare (failed _ _ _ c no-take-back (failed _ _ _ c no-infer (passed _ _ _ c e is))))

          module _ (no-schemes : begins (bytes "schemes ") s ≡ false) where
            pub is_run : begins (bytes "run ") s ≡ true → c ≡ run_of (drop 4 s) → c ≡ command_of s
            unfolding command_of
            is_run e is = failed _ _ _ c no-add (failed _ _ _ c no-redeclare (failed _ _ _ c no-take-back (failed _ _ _ c no-infer (failed _ _ _ c no-schemes (passed _ _ _ c e is)))))

            pub is_nothing : begins (bytes "run ") s ≡ false → c ≡ Script.no_command → c ≡ command_of s
            unfolding command_of
            is_nothing e is = failed _ _ _ c no-add (failed _ _ _ c no-redeclare (failed _ _ _ c no-take-back (failed _ _ _ c no-infer (failed _ _ _ c no-schemes (failed _ _ _ c e is)))))

pub ruleset parted = (no_first, no_blank)
