-- The numbers are put one LAM after the other; what is known where the loop turns is `Underway`.
use Rattle.leading.proofs.Going.{past_any}
use Rattle.leading.proofs.Underway.{past_last, both-end, too_short, at_arrow, goes_on}
use Rattle.leading.proofs.lead.Goals as goal

pub returns-then-size-gt-TERMS : goal.returns-then-size-gt-TERMS
returns-then-size-gt-TERMS c = λ m w rows. past_any m w _ _ c.if-size-gt-TERMS.true

pub returns-in_default : goal.returns-in_default
returns-in_default c = past_last c.loop-j.invariant c.in_default.not-Lam c.loop-j-test.true

pub returns-then-codes-p-eq-ARROW : goal.returns-then-codes-p-eq-ARROW
returns-then-codes-p-eq-ARROW c = at_arrow c.loop-j.invariant c.in-Lam.is c.if-codes-p-eq-ARROW.true

pub loop-j-preserved : goal.loop-j-preserved
loop-j-preserved c = rw c.put.ensures (goes_on c.loop-j.invariant c.in-Lam.is c.loop-j-test.true c.if-codes-p-eq-ARROW.false)

pub returns-in-Lam-last : goal.returns-in-Lam-last
returns-in-Lam-last c = too_short c.loop-j.invariant c.in-Lam-last.is c.loop-j-test.false

pub returns : goal.returns
returns c = both-end c.loop-j.invariant c.in_default-last.not-Lam c.loop-j-test.false
