-- The loop has found every floor met below p.
use Prim.Native.Nat.{ℕ, ◌-◌, ◌≤◌, ◌<◌}
use Rattle.floors.specs.Lowest.{Holds}
use Rattle.floors.proofs.lowest_missed.Given as goal

abbrev pub invariant-loop-p : goal.invariant-loop-p
invariant-loop-p l = ((r : ℕ) → r < l.p → Holds l.rule l.params l.words r) × (l.p ≤ l.count)

abbrev pub decreases-loop-p : goal.decreases-loop-p
decreases-loop-p l = l.count - l.p
