-- Sets as the bits of a number: one bit is set by `|`, and read by a shift.
use Prim.Native.Nat.{ℕ, suc, ◌+◌, ◌-◌, ◌*◌, ◌/◌, ◌%◌, ◌^◌, ◌≤◌, ◌<◌, max}
use native.Mathlib.Nat.{div_self, div-eq_of_lt, zero-div, one-mul, lt_of_lt_of_le}
use native.Mathlib.Decide.{ℕ_discrete, dec_lt}
use native.Mathlib.Omega.{arith}
use mathlib.Core.Bool.{false, ◌||◌}
use mathlib.Core.Path.{◌≡◌, ap, subst, ◌∙◌}
use lib.Bits.{bit_or, or_shr, or_step}
use lib.Dec.{eqb}
use lib.Pow.{pow_pos, pow-lt, pow_mono, pow-add, shl-shr, shl_exact}
use borrow.Author.Tests.{eq-eqb, ne_eqb}
use Rattle.closed.specs.Members.{member}

or_bit : (a b q : ℕ) → bit_or a b / 2 ^ q % 2 ≡ max (a / 2 ^ q % 2) (b / 2 ^ q % 2)
or_bit a b q = rw (or_shr a b q) (omega (arith, or_step (a / 2 ^ q) (b / 2 ^ q)))

-- The bits of a power of two.
power_same : (p : ℕ) → 2 ^ p / 2 ^ p % 2 ≡ 1
power_same p = rw (div_self (pow_pos p))

power_above : (k q : ℕ) → 2 ^ (suc k + q) / 2 ^ q % 2 ≡ 0
power_above k q = rw (pow-add 2 (suc k) q, shl-shr (2 ^ suc k) q) (omega arith)

power_other : (p q : ℕ) → (q ≡ p → ⊥) → 2 ^ p / 2 ^ q % 2 ≡ 0
power_other p q h = go (dec_lt p q)
  where
    go : Dec (p < q) → 2 ^ p / 2 ^ q % 2 ≡ 0
    go (yes below) = rw (div-eq_of_lt (pow-lt below))
    go (no past) =
        let e : suc (p - q - 1) + q ≡ p = omega arith in
        subst (λ (n : ℕ). 2 ^ n / 2 ^ q % 2 ≡ 0) e (power_above (p - q - 1) q)

-- The set with one number more.
module _ (set p q : ℕ) where
  or_power : member (bit_or set (2 ^ p)) q ≡ (eqb q p || member set q)
  unfolding member
  or_power = go (ℕ_discrete q p)
    where
      go : Dec (q ≡ p) → member (bit_or set (2 ^ p)) q ≡ (eqb q p || member set q)
      go (yes e) =
          let bit : bit_or set (2 ^ p) / 2 ^ q % 2 ≡ 1 = or_bit set (2 ^ p) q ∙ rw (e, power_same p) (omega arith) in
          rw (eq-eqb q p e) (eq-eqb _ 1 bit)
      go (no e) =
          let bit : bit_or set (2 ^ p) / 2 ^ q % 2 ≡ set / 2 ^ q % 2 = or_bit set (2 ^ p) q ∙ rw (power_other p q e) (omega arith) in
          rw (ne_eqb q p e) (ap (λ (n : ℕ). eqb n 1) bit)

  pub inserted : p < 64 → member (bit_or set ((1 * 2 ^ p) % 18446744073709551616)) q ≡ (eqb q p || member set q)
  inserted below = rw (shl_exact {a = 1} 1 p 64 (omega arith) (omega arith), one-mul (2 ^ p)) or_power

  pub not_inserted : 64 ≤ p → q < 64 → member set q ≡ (eqb q p || member set q)
  not_inserted past below = rw (ne_eqb q p (omega arith))

-- The empty set.
pub none_member : (q : ℕ) → member 0 q ≡ false
unfolding member
none_member q = rw (zero-div (2 ^ q))

-- A number has no bit from 64 on that is below 2 ^ 64.
pub none_past : (set p : ℕ) → set < 2 ^ 64 → 64 ≤ p → false ≡ member set p
unfolding member
none_past set p fits past = rw (div-eq_of_lt (lt_of_lt_of_le fits (pow_mono past)))
