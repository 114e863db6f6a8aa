-- The invariant: the constants before c are at or below their bounds.
use Prim.Native.Nat.{ℕ, ◌<◌}
use mathlib.Core.Bool.{true}
use mathlib.Core.Path.{◌≡◌}
use Rattle.scheme.specs.Rule.{under}
use Rattle.qualifiers.specs.Classes.{bound_at}
use Rattle.qualifiers.proofs.Qualifiers.within_bounds.Given as goal

abbrev pub invariant-loop-c : goal.invariant-loop-c
invariant-loop-c l = (k : ℕ) → k < l.c → under l.rule k (bound_at l.self.bounds k) ≡ true
