-- `pending::shapes::fix`: the parents stay, and the pairs below j are looked at.
use mathlib.Core.Path.{◌≡◌}
use Rattle.pending.specs.Pending.{pending_in}
use Rattle.pending.proofs.Fixing.{Fixing}
use Rattle.pending.proofs.shapes.fix.Given as goal

abbrev pub invariant-loop-j : goal.invariant-loop-j
invariant-loop-j l = record {
  parents : l.types.parents ≡ l.fn.types.parents;
  fixing : Fixing l.rule l.fn.types.parents l.fn.types.kinds l.types.kinds l.qualifiers (pending_in l.pending) l.j;
}
