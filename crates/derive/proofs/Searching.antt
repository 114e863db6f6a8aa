-- The searches: a test at every number fails with one, and the least number that passes is known from those before it.
use Prim.Native.Nat.{ℕ, ◌≤◌}
use native.Mathlib.Omega.{arith}
use mathlib.Core.Bool.{Bool, ◌&&◌}
use mathlib.Core.List.{List}
use mathlib.Core.Path.{◌≡◌}
use Rattle.scheme.proofs.Every.{first_most}
use Rattle.derive.specs.Orders.{Member, above_all, best}

module _ (order : List Bool) (words : ℕ) (members : List Bool) where
  -- The best is a code, or it is the number of the words.
  pub best_most : (c : ℕ) → c ≡ best order words members → c ≤ words
  unfolding best
  best_most c e = omega (arith, first_most words (λ c. Member members c && above_all order words members c))
