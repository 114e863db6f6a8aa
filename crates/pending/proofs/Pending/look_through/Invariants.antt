-- `look_through`: the invariant says what the first j pairs came to; each turn is one of three laws, by the kind of the pair's root.
use mathlib.Core.Path.{◌≡◌}
use Rattle.pending.specs.Pending.{pending_in, pending_of}
use Rattle.pending.proofs.Sweeping.{Sweeping}
use Rattle.pending.proofs.Pending.look_through.Given as goal

abbrev pub invariant-loop-j : goal.invariant-loop-j
invariant-loop-j l = record {
  count : l.self.count ≡ l.fn.self.count;
  turn : Sweeping l.rule l.types l.fn.qualifiers l.qualifiers (pending_in l.fn.self) (pending_of l.self.pairs.left l.self.pairs.right l.self.crowded l.kept) l.j;
}
