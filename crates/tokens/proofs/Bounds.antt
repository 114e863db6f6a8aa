-- How large the values are that the definitions of a number, a qualifier, a floor, a scheme and an operation give.
use Prim.Native.Nat.{ℕ, suc, ◌+◌, ◌≤◌, ◌<◌}
use native.Mathlib.Omega.{arith}
use mathlib.Core.Bool.{Bool, true, false, cond}
use mathlib.Core.List.{List, [], ◌∷◌}
use mathlib.Core.Path.{◌≡◌, refl, sym, ap, ◌∙◌}
use lib.Dec.{eqb}
use lib.ListN.{length}
use mir.Syntax.{w8, w16}
use mir.Val.{Fits}
use borrow.Author.Tests.{eqb-true, ne_eqb}
use Rattle.std.specs.Prelude.{Option, Some, None}
use Rattle.model.specs.Number.{number_of}
use Rattle.model.specs.Word.{spells, place_in, qualifier_words, operation_words, or_else, variable_code, word_of, variable_of, qualifier_of, scheme_of, operation_of}
use Rattle.model.specs.Line.{fields, field, floor}
use Rattle.model.proofs.Numerals.{number_numeral}
use Rattle.numbers.specs.NumberTo.{next_place, bytes_to}
use Rattle.numbers.proofs.Ends.{next_within, up_to, failed_to}
use Rattle.tokens.specs.Names.{Few}
use Rattle.tokens.specs.Form.{is_floor, word_in, value_of, value_at}

-- No value is none.
pub none_is_none : {A : Type 0} (n : ℕ) → None ≡ Some n → A
none_is_none n e = let z : ◌≡◌ {A = ℕ} 0 1 = cc in absurd (omega arith)

pub number_at_most : (most : ℕ) (s : List ℕ) (n : ℕ) → number_of most s ≡ Some n → n ≤ most
number_at_most most s n e = (number_numeral most s n e).1

-- A place among words, counted from c.
pub place_between : (c : ℕ) (words : List (List ℕ)) (s : List ℕ) (n : ℕ) → place_in c words s ≡ Some n → (c ≤ n) × (n < c + length words)
place_between c [] s n e = none_is_none n e
place_between c (word ∷ words) s n e = by (spells s word) e (place_between (c + 1) words s n)
  where
    by : (t : Bool) → cond t (Some c) (place_in (c + 1) words s) ≡ Some n
        → (place_in (c + 1) words s ≡ Some n → (c + 1 ≤ n) × (n < c + 1 + length words)) → (c ≤ n) × (n < c + length (word ∷ words))
    by true p q = let v : c ≡ n = cc in (omega arith, omega arith)
    by false p q = let r : (c + 1 ≤ n) × (n < c + 1 + length words) = q p in (omega arith, omega arith)

pub word_below : (names : List (List ℕ)) (s : List ℕ) (c : ℕ) → word_of names s ≡ Some c → c < suc (length names)
unfolding word_of
word_below names s c e = omega (arith, (place_between 0 (qualifier_words names) s c e).1)

pub scheme_between : (names : List (List ℕ)) (s : List ℕ) (c : ℕ) → scheme_of names s ≡ Some c → (1 ≤ c) × (c < suc (length names))
unfolding scheme_of
scheme_between names s c e = let r = place_between 1 names s c e in (r.0, omega (arith, r.1))

pub operation_below : (s : List ℕ) (c : ℕ) → operation_of s ≡ Some c → c < 5
unfolding operation_of
operation_below s c e = (place_between 0 operation_words s c e).1

-- A variable begins with `g`, and its number follows.
pub variable_cases : {P : Type 0} (n : ℕ) (s : List ℕ) (c : ℕ) → variable_of n s ≡ Some c →
    ((digits : List ℕ) (k : ℕ) → s ≡ 103 ∷ digits → number_of 63 digits ≡ Some k → k + n ≡ c → P) → P
variable_cases n [] c e found = none_is_none c e
variable_cases {P} n (b ∷ bs) c e found = go (eqb b 103) (number_of 63 bs) refl refl e
  where
    go : (t : Bool) (f : Option ℕ) → eqb b 103 ≡ t → number_of 63 bs ≡ f → cond t (variable_code n f) None ≡ Some c → P
    go true (Some k) g p q = found bs k (ap (λ (b : ℕ). b ∷ bs) (eqb-true b 103 g)) p (cc)
    go true None g p q = none_is_none c q
    go false f g p q = none_is_none c q

-- A qualifier is a word, or else a variable.
pub qualifier_cases : {P : Type 0} (names : List (List ℕ)) (s : List ℕ) (c : ℕ) → qualifier_of names s ≡ Some c →
    (word_of names s ≡ Some c → P) → (variable_of (suc (length names)) s ≡ Some c → P) → P
unfolding qualifier_of
qualifier_cases {P} names s c e word variable = go (word_of names s) refl e
  where
    go : (f : Option ℕ) → word_of names s ≡ f → or_else f (variable_of (suc (length names)) s) ≡ Some c → P
    go (Some n) p q = word (p ∙ q)
    go None p q = variable q

pub qualifier_below : (names : List (List ℕ)) (s : List ℕ) (c : ℕ) → qualifier_of names s ≡ Some c → c < suc (length names) + 64
qualifier_below names s c e =
    qualifier_cases names s c e
    (λ word. omega (arith, word_below names s c word))
    (λ variable. variable_cases (suc (length names)) s c variable (λ digits k begins number code. omega (arith, number_at_most 63 digits k number, code)))

-- A floor is PLAIN in a line of four fields, or the word that stands last of five.
pub floor_cases : {P : Type 0} (names : List (List ℕ)) (s : List ℕ) (c : ℕ) → floor names s ≡ Some c →
    (length (fields s) ≡ 4 → 0 ≡ c → P) → (length (fields s) ≡ 5 → word_of names (field s 4) ≡ Some c → P) → P
unfolding floor
floor_cases {P} names s c e left_out word = go (eqb (length (fields s)) 4) (eqb (length (fields s)) 5) refl refl e
  where
    go : (four five : Bool) → eqb (length (fields s)) 4 ≡ four → eqb (length (fields s)) 5 ≡ five →
        cond four (Some 0) (cond five (word_of names (field s 4)) None) ≡ Some c → P
    go true five p p' q = left_out (eqb-true (length (fields s)) 4 p) (cc)
    go false true p p' q = word (eqb-true (length (fields s)) 5 p') q
    go false false p p' q = none_is_none c q

pub floor_below : (names : List (List ℕ)) (s : List ℕ) (c : ℕ) → floor names s ≡ Some c → c < suc (length names)
floor_below names s c e = floor_cases names s c e (λ four plain. omega arith) (λ five word. word_below names (field s 4) c word)

-- What was read of a field at a place: its value, with the field's end, or that there is none.
module _ (names : List (List ℕ)) (kind : ℕ) (s : List ℕ) (from : ℕ) (r : Option (ℕ × ℕ)) (e : r ≡ value_at names kind s from) where
  pub value_read : (n to : ℕ) → r ≡ Some (n, to) → (value_of names kind (bytes_to 44 s from) ≡ Some n) × (next_place 44 s from ≡ to)
  unfolding value_at
  value_read n to is = up_to (value_of names kind (bytes_to 44 s from)) (next_place 44 s from) n to (sym e ∙ is)

  pub value_missing : r ≡ None → value_of names kind (bytes_to 44 s from) ≡ None
  unfolding value_at
  value_missing is = failed_to (value_of names kind (bytes_to 44 s from)) (next_place 44 s from) (sym e ∙ is)

-- So what was read fits where it is stored.
module _ (names : List ℕ) (kind : ℕ) (s : List ℕ) (from : ℕ) (r : Option (ℕ × ℕ)) (n to : ℕ) (e : r ≡ value_at (fields names) kind s from) (is : r ≡ Some (n, to)) where
  read : value_of (fields names) kind (bytes_to 44 s from) ≡ Some n
  read = (value_read (fields names) kind s from r e n to is).0

  pub value_within : from ≤ length s → to ≤ length s
  value_within h = omega (arith, (value_read (fields names) kind s from r e n to is).1, next_within 44 s from h)

  pub field_fits : kind ≡ 110 → Fits w16 n
  unfolding value_of
  field_fits kind-is = omega (arith, number_at_most 65535 (bytes_to 44 s from) n (simp kind-is at read))

  pub code_fits : Few names → (kind ≡ 110 → ⊥) → (kind ≡ 108 → ⊥) → Fits w8 n
  unfolding value_of word_in
  code_fits few number literal = omega (arith, most (eqb kind 113) (is_floor kind) (eqb kind 115) (simp (ne_eqb kind 110 number, ne_eqb kind 108 literal) at read))
    where
      word : List ℕ
      word = bytes_to 44 s from

      most : (q w m : Bool) → cond q (qualifier_of (fields names) word) (cond w (word_of (fields names) word) (cond m (scheme_of (fields names) word) (operation_of word))) ≡ Some n → n ≤ 112
      most true w m p = omega (arith, qualifier_below (fields names) word n p)
      most false true m p = omega (arith, word_below (fields names) word n p)
      most false false true p = omega (arith, (scheme_between (fields names) word n p).1)
      most false false false p = omega (arith, operation_below word n p)
