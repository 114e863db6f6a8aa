-- The turns of a loop that fills in an array: a place is written, or holds already what belongs there.
use Prim.Native.Nat.{ℕ, ◌+◌, ◌≤◌, ◌<◌}
use native.Mathlib.Nat.{not-suc-le-zero}
use native.Mathlib.Decide.{ℕ_discrete}
use native.Mathlib.Omega.{arith}
use mathlib.Core.List.{List}
use mathlib.Core.Path.{◌≡◌, sym, subst, ◌∙◌}
use lib.ListN.{length, get_or, set, length-set}
use lib.Seq.{get_or-set_same, get_or-set_other}
use Rattle.scheme.specs.Filled.{Filled}

-- The last of the first n + 1 numbers, and the others.
by_last : {P : ℕ → Type 0} (n : ℕ) → P n → ((i : ℕ) → i < n → P i) → (i : ℕ) → i < n + 1 → P i
by_last {P} n last before i below = go (ℕ_discrete i n)
  where
    go : Dec (i ≡ n) → P i
    go (yes e) = subst P (sym e) last
    go (no other) = before i (omega arith)

module _ {A : Type 0} {d : A} {size : ℕ} {Right : ℕ → A → Type 0} where
  pub filled_none : {l : List A} → length l ≡ size → Filled d size Right 0 l
  filled_none e = record { sized = e; held = λ i h. absurd (not-suc-le-zero h) }

  pub filled_more : {n : ℕ} {l : List A} {a : A} → Filled d size Right n l → n < size → Right n a → Filled d size Right (n + 1) (set l n a)
  filled_more {n} {l} {a} f room right =
      record {
        sized = length-set l n a ∙ f.sized;
        held =
            by_last {P = λ i. Right i (get_or (set l n a) i d)} n
            (subst (Right n) (sym (get_or-set_same l n a d (omega (arith, f.sized)))) right)
            (λ i before. subst (Right i) (sym (get_or-set_other l n i a d (λ e. omega arith))) (f.held i before));
      }

  pub filled_skip : {n : ℕ} {l : List A} → Filled d size Right n l → Right n (get_or l n d) → Filled d size Right (n + 1) l
  filled_skip {n} {l} f right = record { sized = f.sized; held = by_last {P = λ i. Right i (get_or l i d)} n right f.held }

  pub filled_all : {n k : ℕ} {l : List A} → k ≤ n → Filled d size Right n l → Filled d size Right k l
  filled_all few f = record { sized = f.sized; held = λ i h. f.held i (omega arith) }
