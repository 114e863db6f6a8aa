-- The loop stops at another number that is like i, and passes every other one.
use borrow.Author.Count.{below_more}
use Rattle.schemes.proofs.Apart.{differ_one, differ_not, alone_false, alone_true}
use Rattle.schemes.proofs.pairs.alone.Goals as goal
use Rattle.schemes.proofs.pairs.alone.Goals.{else-i-j-via-then-i-j+else-alike, else-i-j-via-else-i-j}

pub returns-then-alike : goal.returns-then-alike
returns-then-alike g c = λ like same. alone_false like _ _ _ c.loop-j-test.true _ (same _ _ c.loop-j-test.true c.alike.ensures) c.if-alike.true c.if-i-j.true

pub loop-j-preserved : goal.loop-j-preserved
loop-j-preserved g c = λ like same.
    below_more _ _ (c.loop-j.invariant like same)
    (elim c.else-i-j.branch [
      | else-i-j-via-then-i-j+else-alike w ↦ differ_not like _ _ _ (same _ _ c.loop-j-test.true w.alike.ensures) w.if-alike.false
      | else-i-j-via-else-i-j w ↦ differ_one like _ _ w.if-i-j.false
    ])

pub returns : goal.returns
returns g c = λ like same. alone_true like _ _ _ c.loop-j-test.false (c.loop-j.invariant like same)
