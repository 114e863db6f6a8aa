-- The chains that compare bytes and look a word up, and a named variable by its first byte and its number.
use Prim.Native.Nat.{ℕ, suc, ◌+◌, ◌≤◌, ◌<◌}
use native.Mathlib.Omega.{arith}
use native.Mathlib.Decide.{dec_lt}
use mathlib.Core.Bool.{Bool, true, false, false≢true, ◌&&◌, cond}
use mathlib.Core.List.{List, [], ◌∷◌}
use mathlib.Core.Path.{◌≡◌, refl, sym, ap, ap₂, ◌∙◌}
use lib.Dec.{eqb}
use native.Mathlib.Numerals.{add-one}
use lib.ListN.{length, get_or, take, drop, drop_of_length-le}
use lib.Seq.{drop-cons}
use mir.Syntax.{w32}
use mir.Val.{Fits}
use borrow.Author.Tests.{lt-ltb, le-ltb}
use Rattle.std.specs.Prelude.{Option, Some, None, Result, Ok, Err, nat_eq}
use lib.Pointwise.{pointwise}
use Rattle.std.specs.List.{list_all, zip}
use Rattle.std.specs.Result.{result_ok}
use Rattle.std.proofs.lemmas.Option.{none-some, same_Some}
use Rattle.std.specs.Char.{to_ascii_uppercase}
use Rattle.model.specs.Lists.{same, bytes}
use Rattle.model.specs.Number.{number_of}
use Rattle.model.specs.Word.{qualifier_words, capital, capitals, spells, place_in, word_of, variable_code, variable_of, qualifier_of}
use Rattle.model.proofs.Lists.{same_length}
use Rattle.model.proofs.Capitals.{capital_before, capital_small, capital_after, capitals_length}
use Rattle.tokens.specs.Look.{look_from, look_up}
use Rattle.tokens.proofs.Bounds.{number_at_most}

-- The library's capital is the definition's.
pub capital_is : (b : ℕ) → to_ascii_uppercase b ≡ capital b
unfolding capital
capital_is b = by (dec_lt b 97) (dec_lt b 123)
  where
    by : Dec (b < 97) → Dec (b < 123) → to_ascii_uppercase b ≡ capital b
    by (yes low) high = simp (lt-ltb b 97 low) (capital_before b low)
    by (no low) (yes high) = simp (le-ltb b 97 (omega arith), lt-ltb b 123 high) (capital_small b (omega arith) (omega arith))
    by (no low) (no high) = simp (le-ltb b 97 (omega arith), le-ltb b 123 (omega arith)) (capital_after b (omega arith))

-- Bytes of one length are compared pair by pair, the first of each with its capital.
pairs_alike : (s word : List ℕ) → length s ≡ length word → list_all (λ (p : ℕ × ℕ). nat_eq (to_ascii_uppercase p.0) p.1) (zip s word) ≡ same (capitals s) word
pairs_alike [] [] e = refl
pairs_alike [] (c ∷ word) e = absurd (omega arith)
pairs_alike (b ∷ s) [] e = absurd (omega arith)
pairs_alike (b ∷ s) (c ∷ word) e = ap₂ ◌&&◌ (ap (λ (n : ℕ). eqb n c) (capital_is b)) (pairs_alike s word (omega arith))

module _ (s word : List ℕ) where
  pub spells_length : (length s ≡ length word → ⊥) → false ≡ spells s word
  unfolding spells
  spells_length h = same_length (capitals s) word (λ e. h (sym (capitals_length s) ∙ e))

  pub spells_pairs : length s ≡ length word → (r : Bool) → r ≡ list_all (λ (p : ℕ × ℕ). nat_eq (to_ascii_uppercase p.0) p.1) (zip s word) → r ≡ spells s word
  unfolding spells
  spells_pairs e r is = is ∙ pairs_alike s word e

-- The place is, at each turn, that among the words not yet compared.
pub look_first : (words : List (List ℕ)) (s : List ℕ) → look_up words s ≡ look_from 0 words s
unfolding look_up
look_first words s = refl

module _ (words : List (List ℕ)) (s : List ℕ) (at : ℕ) (e : look_up words s ≡ look_from at (drop at words) s) where
  pub look_end : length words ≤ at → Err at ≡ look_up words s
  look_end h = sym (e ∙ simp (drop_of_length-le words h))

  module _ (n : ℕ) (count : at ≡ n) (word : List ℕ) (turn : (n < length words) × (word ≡ get_or words n word)) where
    word_first : drop at words ≡ word ∷ drop (at + 1) words
    word_first = rw (count, drop-cons words n word turn.0, ← turn.1, add-one) refl

    module _ (r : Bool) (spelled : r ≡ spells s word) where
      pub look_here : r ≡ true → Ok at ≡ look_up words s
      look_here t = sym (e ∙ simp (word_first, sym spelled ∙ t))

      pub look_next : r ≡ false → look_up words s ≡ look_from (at + 1) (drop (at + 1) words) s
      look_next t = e ∙ simp (word_first, sym spelled ∙ t)

ok_found : (p : Result ℕ ℕ) (at : ℕ) → result_ok p ≡ Some at → p ≡ Ok at
ok_found (Ok k) at e = ap Ok (same_Some k at e)
ok_found (Err n) at e = absurd (none-some at e)

-- A place as a code, counted from `first`.
abbrev coded : ℕ → Result ℕ ℕ → Option ℕ
coded first (Ok at) = Some (first + at)
coded first (Err count) = None

look_coded : (first at : ℕ) (words : List (List ℕ)) (s : List ℕ) → coded first (look_from at words s) ≡ place_in (first + at) words s
look_coded first at [] s = refl
look_coded first at (word ∷ words) s = by (spells s word) (let next : first + (at + 1) ≡ first + at + 1 = omega arith in rw next at (look_coded first (at + 1) words s))
  where
    by : (t : Bool) → coded first (look_from (at + 1) words s) ≡ place_in (first + at + 1) words s
        → coded first (cond t (Ok at) (look_from (at + 1) words s)) ≡ cond t (Some (first + at)) (place_in (first + at + 1) words s)
    by true later = refl
    by false later = later

-- How many words there are is above each place, and is told where a word is not among them.
abbrev Bounded : ℕ → Result ℕ ℕ → Type 0
Bounded n (Ok at) = at < n
Bounded n (Err count) = count ≡ n

look_bounded : (at : ℕ) (words : List (List ℕ)) (s : List ℕ) → Bounded (at + length words) (look_from at words s)
look_bounded at [] s = omega arith
look_bounded at (word ∷ words) s = by (spells s word) (let next : at + 1 + length words ≡ at + suc (length words) = omega arith in rw next at (look_bounded (at + 1) words s))
  where
    by : (t : Bool) → Bounded (at + suc (length words)) (look_from (at + 1) words s) → Bounded (at + suc (length words)) (cond t (Ok at) (look_from (at + 1) words s))
    by true later = omega arith
    by false later = later

module _ (words : List (List ℕ)) (s : List ℕ) (p : Result ℕ ℕ) (e : p ≡ look_up words s) where
  place_coded : (first : ℕ) → coded first p ≡ place_in first words s
  unfolding look_up
  place_coded first = let same : first + 0 ≡ first = omega arith in rw same at (ap (coded first) e ∙ look_coded first 0 words s)

  bounded : Bounded (length words) p
  unfolding look_up
  bounded = let none : 0 + length words ≡ length words = omega arith in rw (e, ← none) (look_bounded 0 words s)

  pub place_found : (first at : ℕ) → p ≡ Ok at → Some (first + at) ≡ place_in first words s
  place_found first at is = rw is at (place_coded first)

  pub place_none : (first count : ℕ) → p ≡ Err count → None ≡ place_in first words s
  place_none first count is = rw is at (place_coded first)

  pub place_below : (at : ℕ) → p ≡ Ok at → at < length words
  place_below at is = rw is at bounded

  pub place_counts : (count : ℕ) → p ≡ Err count → count ≡ length words
  place_counts count is = rw is at bounded

  -- The same of the place alone.
  module _ (o : Option ℕ) (found : o ≡ result_ok p) where
    pub ok_place : (first at : ℕ) → o ≡ Some at → Some (first + at) ≡ place_in first words s
    ok_place first at is = place_found first at (ok_found p at (sym found ∙ is))

    pub ok_below : (at : ℕ) → o ≡ Some at → at < length words
    ok_below at is = place_below at (ok_found p at (sym found ∙ is))

    pub ok_none : (first : ℕ) → o ≡ None → None ≡ place_in first words s
    ok_none first is = by p (sym found ∙ is) (place_coded first)
      where
        by : (p : Result ℕ ℕ) → result_ok p ≡ None → coded first p ≡ place_in first words s → None ≡ place_in first words s
        by (Ok at) e code = absurd (none-some at (sym e))
        by (Err count) e code = code

-- A named variable: its first byte, then its number.
starts : (t : Bool) → (t && true) ≡ t
starts true = refl
starts false = refl

pub variable_other : (n : ℕ) (s : List ℕ) → pointwise eqb (take 1 s) (bytes "g") ≡ false → None ≡ variable_of n s
variable_other n [] h = refl
variable_other n (b ∷ bs) h = simp (sym (starts (eqb b 103)) ∙ h)

module _ (n : ℕ) (s : List ℕ) (g : pointwise eqb (take 1 s) (bytes "g") ≡ true) (digits : List ℕ) (rest : digits ≡ drop 1 s) (r : Option ℕ) (e : r ≡ number_of 63 digits) where
  variable_number : variable_code n r ≡ variable_of n s
  variable_number = ap (variable_code n) (e ∙ ap (number_of 63) rest) ∙ by s g
    where
      by : (s : List ℕ) → pointwise eqb (take 1 s) (bytes "g") ≡ true → variable_code n (number_of 63 (drop 1 s)) ≡ variable_of n s
      by [] h = absurd (false≢true h)
      by (b ∷ bs) h = simp (sym (starts (eqb b 103)) ∙ h)

  pub variable_value : (k : ℕ) → r ≡ Some k → Some (k + n) ≡ variable_of n s
  variable_value k v = ap (variable_code n) (sym v) ∙ variable_number

  pub variable_no_value : r ≡ None → None ≡ variable_of n s
  variable_no_value v = ap (variable_code n) (sym v) ∙ variable_number

pub variable_fits : (n : ℕ) (s : List ℕ) (r : Option ℕ) (k : ℕ) → n ≤ 49 → r ≡ number_of 63 s → r ≡ Some k → Fits w32 (k + n)
variable_fits n s r k few e v = omega (arith, number_at_most 63 s k (sym e ∙ v))

pub ruleset variables = (variable_other, variable_value, variable_no_value, variable_fits)

-- A word: PLAIN, else a scheme's name.
module _ (names : List (List ℕ)) (s : List ℕ) (r : Bool) (e : r ≡ spells s (bytes "PLAIN")) where
  pub word_plain : r ≡ true → Some 0 ≡ word_of names s
  unfolding word_of
  word_plain t = simp (sym e ∙ t)

  pub word_named : (v : Option ℕ) → r ≡ false → v ≡ place_in 1 names s → v ≡ word_of names s
  unfolding word_of
  word_named v t p = simp (sym e ∙ t) p

-- A qualifier: a word, else a named variable.
pub qualifier_word_lem : (names : List (List ℕ)) (s : List ℕ) (n : ℕ) → Some n ≡ word_of names s → Some n ≡ qualifier_of names s
unfolding qualifier_of
qualifier_word_lem names s n e = simp (sym e)

module _ (names : List (List ℕ)) (s : List ℕ) (r : Bool) (e : r ≡ spells s (bytes "PLAIN")) where
  pub qualifier_plain : r ≡ true → Some 0 ≡ qualifier_of names s
  qualifier_plain t = qualifier_word_lem names s 0 (word_plain names s r e t)

  module _ (p : Result ℕ ℕ) (at : p ≡ look_up names s) (t : r ≡ false) where
    pub qualifier_named : (k : ℕ) → p ≡ Ok k → Some (1 + k) ≡ qualifier_of names s
    qualifier_named k is = qualifier_word_lem names s (1 + k) (word_named names s r e (Some (1 + k)) t (place_found names s p at 1 k is))

    pub qualifier_variable : (l : Option ℕ) (count : ℕ) → p ≡ Err count → l ≡ variable_of (count + 1) s → l ≡ qualifier_of names s
    unfolding qualifier_of
    qualifier_variable l count is v =
        let words : count + 1 ≡ length (qualifier_words names) = omega (arith, place_counts names s p at count is) in
        simp (sym (word_named names s r e None t (place_none names s p at 1 count is))) (v ∙ ap (λ (w : ℕ). variable_of w s) words)

pub ruleset qualifiers = (qualifier_plain, qualifier_named, qualifier_variable)
