-- The loop stops at a number that another is like.
use Rattle.schemes.proofs.Apart.{apart_false, apart_true}
use Rattle.schemes.proofs.pairs.apart.Goals as goal

pub returns-then-not-alone : goal.returns-then-not-alone
returns-then-not-alone g c = λ like same. apart_false like _ _ c.loop-i-test.true _ (c.alone.ensures like (λ j r below k. same _ j r c.loop-i-test.true below k)) c.if-not-alone.true

pub returns : goal.returns
returns g c = λ like same. apart_true like _ _ c.loop-i-test.false (c.loop-i.invariant like same)
