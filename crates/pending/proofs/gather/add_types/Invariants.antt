-- `pending::gather::add_types`: the pairs of the rows below x are added.
use Prim.Native.Nat.{◌*◌}
use Rattle.forest.specs.Pairs.{pairs_of}
use Rattle.pending.specs.Lines.{FormPair, Adds}
use Rattle.pending.proofs.gather.add_types.Given as goal

abbrev pub invariant-loop-x : goal.invariant-loop-x
invariant-loop-x l = Adds (FormPair l.kind l.kids l.x) l.kind (pairs_of l.initial.pairs) (pairs_of l.pairs) 0 (2 * l.x) l.n
