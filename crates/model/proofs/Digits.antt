-- The value of digits grows with each digit, so that more than ten of them are no number up to 4294967295.
use Prim.Native.Nat.{ℕ, zero, suc, ◌+◌, ◌-◌, ◌*◌, ◌≤◌, ◌<◌}
use native.Mathlib.Omega.{arith}
use mathlib.Core.Bool.{Bool, true, false, ◌&&◌, not, cond}
use mathlib.Core.List.{List, [], ◌∷◌}
use mathlib.Core.Path.{◌≡◌, refl}
use lib.Dec.{eqb, leb}
use lib.ListN.{length}
use borrow.Author.Tests.{eqb-false, leb-true, lt-leb, not-true}
use Rattle.std.specs.Prelude.{Some, None}
use Rattle.scheme.proofs.Every.{and_left}
use Rattle.model.specs.Lists.{all_of}
use Rattle.model.specs.Number.{is_digit, value_from, number_of}

pub value_grows : (n : ℕ) (s : List ℕ) → n ≤ value_from n s
value_grows n [] = omega arith
value_grows n (b ∷ bs) = omega (arith, value_grows (n * 10 + (b - 48)) bs)

-- The number with k zeros after it.
tenfold : ℕ → ℕ → ℕ
tenfold zero n = n
tenfold (suc k) n = tenfold k (n * 10)

-- After k digits more the value is at least that.
tenfold_value : (k n n' : ℕ) (s : List ℕ) → n ≤ n' → k ≤ length s → tenfold k n ≤ value_from n' s
unfolding tenfold
tenfold_value zero n n' s h l = omega (arith, value_grows n' s)
tenfold_value (suc k) n n' [] h l = absurd (omega arith)
tenfold_value (suc k) n n' (b ∷ bs) h l = tenfold_value k (n * 10) (n' * 10 + (b - 48)) bs (omega arith) (omega arith)

ten_digits : tenfold 10 1 ≡ 10000000000
unfolding tenfold
ten_digits = refl

-- A first digit that is no 0, with ten digits or more after it.
large_value : (b : ℕ) (bs : List ℕ) → 48 < b → 10 ≤ length bs → 4294967295 < value_from 0 (b ∷ bs)
large_value b bs h l = omega (arith, tenfold_value 10 1 (0 * 10 + (b - 48)) bs (omega arith) l, ten_digits)

first_digit : (b : ℕ) (more : Bool) → not (eqb b 48) ≡ true → (is_digit b && more) ≡ true → 48 < b
first_digit b more led digits =
    let low : 48 ≤ b = leb-true 48 b (and_left (leb 48 b) (leb b 57) (and_left (is_digit b) more digits)) in
    let other : b ≡ 48 → ⊥ = eqb-false b 48 (not-true (eqb b 48) led) in
    omega arith

pub long_number : (s : List ℕ) → 10 < length s → number_of 4294967295 s ≡ None
unfolding number_of
long_number [] h = absurd (omega arith)
long_number (b ∷ []) h = absurd (omega arith)
long_number (b ∷ c ∷ bs) h = by (not (eqb b 48)) (is_digit b && all_of is_digit (c ∷ bs)) (λ led digits. large_value b (c ∷ bs) (first_digit b _ led digits) (omega arith))
  where
    value : ℕ
    value = value_from 0 (b ∷ c ∷ bs)

    by : (led digits : Bool) → (led ≡ true → digits ≡ true → 4294967295 < value) → cond (led && digits && leb value 4294967295) (Some value) None ≡ None
    by false digits large = refl
    by true false large = refl
    by true true large = simp (lt-leb value 4294967295 (large refl refl))
