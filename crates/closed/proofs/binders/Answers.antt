-- At each turn the set, with what the rows from i on bind, is what all rows bind.
use native.Mathlib.Omega.{arith}
use Rattle.closed.proofs.Gathering.{gathered_none, gathered_more, gathered_all}
use Rattle.closed.proofs.binders.Goals as goal

pub loop-i-init : goal.loop-i-init
loop-i-init c = gathered_none _

pub loop-i-preserved : goal.loop-i-preserved
loop-i-preserved c = gathered_more c.args.table c.loop-i.i c.loop-i.set c.loop-i.invariant _ (omega (arith, c.loop-i-test.true, c.term_rows-i-end.ensures.0)) c.with_binder-set.ensures

pub returns : goal.returns
returns c = gathered_all c.args.table _ _ c.loop-i.invariant (omega (arith, c.loop-i-test.false, c.term_rows-i-end.ensures.0))
