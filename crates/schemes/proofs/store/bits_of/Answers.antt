-- The digits of the first k lines are stored; a scheme line has five.
use native.Mathlib.Omega.{arith}
use Rattle.schemes.proofs.Storing.{formed_five, stored_more}
use Rattle.schemes.proofs.store.bits_of.Goals as goal

pub digits-requires : goal.digits-requires
digits-requires c = formed_five _ _ _ c.requires c.loop-k-test.true _ _ c.line.ensures c.field.ensures

pub loop-k-preserved : goal.loop-k-preserved
loop-k-preserved c = stored_more _ _ _ _ _ _ c.loop-k.invariant (omega (arith, c.requires.few)) c.line.ensures c.field.ensures c.digits.ensures
