-- `pending::gather::add_params`: the pairs of the parameters below p are added.
use Rattle.forest.specs.Pairs.{pairs_of}
use Rattle.pending.specs.Lines.{ParamPair, Adds}
use Rattle.pending.proofs.gather.add_params.Given as goal

abbrev pub invariant-loop-p : goal.invariant-loop-p
invariant-loop-p l = Adds (ParamPair l.lines.qualifiers l.lines.typerows l.p) l.kind (pairs_of l.initial.pairs) (pairs_of l.pairs) l.n l.p l.next
