-- Bytes that are the same, and others, of another count among them, which are not; how many stand before the first of a kind; and what follows in a front.
use Prim.Native.Nat.compare
use Prim.Native.Nat.{ℕ, zero, suc, ◌-◌, ◌≤◌, min}
use native.Mathlib.Omega.{arith}
use native.Mathlib.Decide.{ℕ_discrete}
use mathlib.Core.Bool.{Bool, true, false, ◌||◌, cond, false≢true}
use mathlib.Core.List.{List, [], ◌∷◌}
use mathlib.Core.Path.{◌≡◌, refl, sym, ap, ap₂}
use lib.Dec.{eqb, ltb}
use lib.ListN.{length, take, drop}
use lib.Seq.{take-nil}
use borrow.Author.Tests.{eqb-true, lt-ltb, eq-eqb, ne_eqb}
use Rattle.scheme.proofs.Every.{and_left, and_right, and_both}
use Rattle.model.specs.Lists.{contains, same, length_before}

pub same_bytes : (s t : List ℕ) → same s t ≡ true → s ≡ t
same_bytes [] [] h = refl
same_bytes [] (b ∷ bs) h = absurd (false≢true h)
same_bytes (a ∷ as') [] h = absurd (false≢true h)
same_bytes (a ∷ as') (b ∷ bs) h = ap₂ ◌∷◌ (eqb-true a b (and_left (eqb a b) (same as' bs) h)) (same_bytes as' bs (and_right (eqb a b) (same as' bs) h))

pub same_self : (s : List ℕ) → same s s ≡ true
same_self [] = refl
same_self (b ∷ bs) = and_both (eqb b b) (same bs bs) (eq-eqb b b refl) (same_self bs)

pub same_other : (s t : List ℕ) → (s ≡ t → ⊥) → false ≡ same s t
same_other s t differ = by (same s t) refl
  where
    by : (b : Bool) → same s t ≡ b → false ≡ b
    by true e = absurd (differ (same_bytes s t e))
    by false e = refl

pub same_length : (s t : List ℕ) → (length s ≡ length t → ⊥) → false ≡ same s t
same_length s t h = same_other s t (λ e. h (ap length e))

pub before_most : (b : ℕ) (s : List ℕ) → length_before b s ≤ length s
before_most b [] = omega arith
before_most b (c ∷ cs) = by (eqb c b) (before_most b cs)
  where
    by : (t : Bool) → length_before b cs ≤ length cs → cond t 0 (suc (length_before b cs)) ≤ suc (length cs)
    by true h = omega arith
    by false h = omega arith

pub before_front : (b n : ℕ) (s : List ℕ) → length_before b (take n s) ≡ min (length_before b s) n
before_front b zero s = omega arith
before_front b (suc n) [] = omega arith
before_front b (suc n) (c ∷ cs) = by (eqb c b) (before_front b n cs)
  where
    by : (t : Bool) → length_before b (take n cs) ≡ min (length_before b cs) n → cond t 0 (suc (length_before b (take n cs))) ≡ min (cond t 0 (suc (length_before b cs))) (suc n)
    by true h = omega arith
    by false h = omega arith

-- One stands in the bytes just where fewer than all stand before it.
pub contains_before : (b : ℕ) (s : List ℕ) → contains b s ≡ ltb (length_before b s) (length s)
contains_before b [] = refl
contains_before b (c ∷ cs) = by (ℕ_discrete b c) (contains_before b cs)
  where
    by : Dec (b ≡ c) → contains b cs ≡ ltb (length_before b cs) (length cs) → (eqb b c || contains b cs) ≡ ltb (cond (eqb c b) 0 (suc (length_before b cs))) (suc (length cs))
    by (yes e) later = simp (eq-eqb b c e, eq-eqb c b (sym e)) (sym (lt-ltb 0 (suc (length cs)) (omega arith)))
    by (no z) later = simp (ne_eqb b c z, ne_eqb c b (λ e. z (sym e)), compare.suc-suc) later

pub drop-take : (n k : ℕ) (s : List ℕ) → drop n (take k s) ≡ take (k - n) (drop n s)
drop-take zero k s = let all : k - 0 ≡ k = omega arith in rw all
drop-take (suc n) zero s = let none : 0 - suc n ≡ 0 = omega arith in rw none
drop-take (suc n) (suc k) [] = sym (take-nil (suc k - suc n))
drop-take (suc n) (suc k) (b ∷ bs) = let less : suc k - suc n ≡ k - n = omega arith in rw less (drop-take n k bs)
