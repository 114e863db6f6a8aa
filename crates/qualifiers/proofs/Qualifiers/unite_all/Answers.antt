-- The invariant: the pairs before i were made one.
use mathlib.Core.Path.{refl}
use Rattle.qualifiers.proofs.Uniting.{all_more, all_clash}
use Rattle.qualifiers.proofs.Qualifiers.unite_all.Goals as goal

pub returns-in-Err : goal.returns-in-Err
returns-in-Err c = all_clash c.loop-i.invariant c.in-Err.ensures.fact_1 c.loop-i-test.true refl

pub loop-i-preserved : goal.loop-i-preserved
loop-i-preserved c = all_more c.loop-i.invariant c.in_default.ensures.fact_1 refl
