-- A set of numbers below 64, as the bits of a number.
use Rattle.std.specs.Prelude.{ℕ, ◌/◌, ◌%◌, ◌^◌, Bool, eqb}

-- The bit p of the number is set.
unfoldable pub member : ℕ → ℕ → Bool
member set p = eqb (set / 2 ^ p % 2) 1
