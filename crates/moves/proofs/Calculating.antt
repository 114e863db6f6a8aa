-- The five operations.
use Prim.Native.Nat.{ℕ, ◌+◌, ◌*◌, ◌≤◌, ◌<◌}
use mathlib.Core.Bool.{Bool, true, false}
use mathlib.Core.Path.{◌≡◌, refl, sym, ap, ◌∙◌}
use lib.Dec.{eqb, ltb}
use mir.Val.{bool_byte}
use borrow.Author.Tests.{lt-ltb, le-ltb}
use Rattle.dryrun.specs.Transition.{calculated, holds, result_tag}

module _ {o : ℕ} (x y : ℕ) where
  by_code : (k : ℕ) → o ≡ k → calculated k x y ≡ calculated o x y
  by_code k is = ap (λ (n : ℕ). calculated n x y) (sym is)

  pub is_add : o ≡ 0 → x + y ≡ calculated o x y
  unfolding calculated
  is_add is = by_code 0 is

  pub is_mul : o ≡ 1 → x * y ≡ calculated o x y
  unfolding calculated
  is_mul is = by_code 1 is

  pub is_eq : {r : ℕ} → o ≡ 2 → r ≡ holds (eqb x y) → r ≡ calculated o x y
  unfolding calculated
  is_eq is h = h ∙ by_code 2 is

  pub is_lt : {r : ℕ} → o ≡ 3 → r ≡ holds (ltb x y) → r ≡ calculated o x y
  unfolding calculated
  is_lt is h = h ∙ by_code 3 is

  pub is_gt : {r : ℕ} → o ≡ 4 → r ≡ holds (ltb y x) → r ≡ calculated o x y
  unfolding calculated
  is_gt is h = h ∙ by_code 4 is

-- A comparison as a number.
pub truth : (b : Bool) → bool_byte b ≡ holds b
truth true = refl
truth false = refl

-- A sum and a product keep the tag.
pub keeps_tag : (o tag : ℕ) → o < 2 → tag ≡ result_tag o tag
unfolding result_tag
keeps_tag o tag h = rw (lt-ltb o 2 h) refl

pub drops_tag : (o tag : ℕ) → 2 ≤ o → 0 ≡ result_tag o tag
unfolding result_tag
drops_tag o tag h = rw (le-ltb o 2 h) refl
