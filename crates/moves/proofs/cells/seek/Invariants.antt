use Prim.Native.Nat.{ℕ, ◌≤◌}
use Rattle.moves.specs.Moves.{Sought}
use Rattle.moves.proofs.cells.seek.Given as goal

abbrev pub invariant-loop-at : goal.invariant-loop-at
invariant-loop-at l = (l.at ≤ 10000) × ((r : ℕ) → Sought l.cells l.x l.at r → Sought l.cells l.x l.place r)

abbrev pub decreases-loop-at : goal.decreases-loop-at
decreases-loop-at l = l.at
