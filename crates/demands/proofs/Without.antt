-- Bytes among which one byte does not stand: digits, what is put together of such bytes, and what is parted into them; and where that byte stands after them.
use Prim.Native.Nat.{ℕ, suc, ◌<◌}
use native.Mathlib.Omega.{arith}
use mathlib.Core.Bool.{Bool, true, false, ◌||◌, cond, or_assoc, or-false, false≢true}
use mathlib.Core.List.{List, [], ◌∷◌, ◌++◌}
use mathlib.Core.Path.{◌≡◌, refl, sym, ap, ◌∙◌}
use lib.Dec.{eqb}
use lib.ListN.{length, get_or}
use borrow.Author.Tests.{eq-eqb, ne_eqb, eqb-true, eqb-false}
use Rattle.scheme.proofs.Every.{and_left, and_right}
use Rattle.model.specs.Lists.{any_of, all_of, contains, length_before}
use Rattle.model.specs.Number.{is_digit, decimal}
use Rattle.model.specs.Line.{onto, fields, lines_of}
use Rattle.demands.proofs.Decimal.{decimal-digits}

or_right : (a b : Bool) → (a || b) ≡ false → b ≡ false
or_right true b h = absurd (false≢true (sym h))
or_right false b h = h

-- Bytes among which one does not stand.
module _ (b : ℕ) where
  pub first_other : (c : ℕ) (cs : List ℕ) → contains b (c ∷ cs) ≡ false → eqb c b ≡ false
  first_other c cs h = ne_eqb c b (λ e. false≢true (sym h ∙ ap (λ (t : Bool). t || contains b cs) (eq-eqb b c (sym e))))

  pub rest_without : (c : ℕ) (cs : List ℕ) → contains b (c ∷ cs) ≡ false → contains b cs ≡ false
  rest_without c cs h = or_right (eqb b c) (contains b cs) h

  pub without_both : (xs ys : List ℕ) → contains b xs ≡ false → contains b ys ≡ false → contains b (xs ++ ys) ≡ false
  without_both [] ys h k = k
  without_both (x ∷ xs) ys h k = simp (ne_eqb b x (λ e. eqb-false x b (first_other x xs h) (sym e))) (without_both xs ys (rest_without x xs h) k)

  -- All are of a kind that it is not of.
  pub kind_without : (kind : ℕ → Bool) → kind b ≡ false → (s : List ℕ) → all_of kind s ≡ true → contains b s ≡ false
  kind_without kind other [] h = refl
  kind_without kind other (c ∷ cs) h =
      let differ : ¬ (b ≡ c) = λ e. false≢true (sym other ∙ ap kind e ∙ and_left (kind c) (all_of kind cs) h) in
      simp (ne_eqb b c differ) (kind_without kind other cs (and_right (kind c) (all_of kind cs) h))

  -- The byte stands after all of them.
  pub before_all : (s rest : List ℕ) → contains b s ≡ false → length_before b (s ++ (b ∷ rest)) ≡ length s
  before_all [] rest h = simp (eq-eqb b b refl)
  before_all (c ∷ cs) rest h = simp (first_other c cs h) (ap suc (before_all cs rest (rest_without c cs h)))

  -- The byte stands in bytes that are parted at another one just where it stands in one of the parts.
  onto_contains : (c : ℕ) (parts : List (List ℕ)) → any_of (contains b) (onto c parts) ≡ (eqb b c || any_of (contains b) parts)
  onto_contains c [] = or-false (eqb b c || false)
  onto_contains c (part ∷ parts) = or_assoc (eqb b c) (contains b part) (any_of (contains b) parts)

  parted_contains : (at c : ℕ) (cs : List ℕ) (parts : List (List ℕ)) → eqb b at ≡ false → any_of (contains b) parts ≡ contains b cs →
      any_of (contains b) (cond (eqb c at) ([] ∷ parts) (onto c parts)) ≡ contains b (c ∷ cs)
  parted_contains at c cs parts other later = by (eqb c at) refl
    where
      by : (t : Bool) → eqb c at ≡ t → any_of (contains b) (cond t ([] ∷ parts) (onto c parts)) ≡ (eqb b c || contains b cs)
      by true h = rw (eqb-true c at h, other) later
      by false h = onto_contains c parts ∙ ap (λ (t : Bool). eqb b c || t) later

  pub fields_contain : eqb b 44 ≡ false → (s : List ℕ) → any_of (contains b) (fields s) ≡ contains b s
  fields_contain other [] = refl
  fields_contain other (c ∷ cs) = parted_contains 44 c cs (fields cs) other (fields_contain other cs)

  pub lines_contain : eqb b 10 ≡ false → (s : List ℕ) → any_of (contains b) (lines_of s) ≡ contains b s
  lines_contain other [] = refl
  lines_contain other (c ∷ cs) = parted_contains 10 c cs (lines_of cs) other (lines_contain other cs)

  pub parts_without : (parts : List (List ℕ)) → ((k : ℕ) → k < length parts → contains b (get_or parts k []) ≡ false) → any_of (contains b) parts ≡ false
  parts_without [] each = refl
  parts_without (part ∷ parts) each = rw (each 0 (omega arith)) (parts_without parts (λ k h. each (suc k) (omega arith)))

pub decimal_without : (b n : ℕ) → is_digit b ≡ false → contains b (decimal n) ≡ false
decimal_without b n other = kind_without b is_digit other (decimal n) (decimal-digits n)
