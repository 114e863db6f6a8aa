-- The result, and the counts behind it.
use native.Mathlib.Omega.{arith}
use Rattle.outcome.proofs.Lines.{counts_room, ran_front}
use Rattle.outcome.proofs.write.Goals as goal

pub write_counts-requires : goal.write_counts-requires
write_counts-requires c = counts_room _ _ _ _ c.requires.fact_2 c.write_result-at.ensures.0 c.write_result-at.ensures.1 _ _ (omega arith) (omega arith)

pub returns : goal.returns
returns c = ran_front _ c.args.ran _ _ _ _ _ c.requires.fact_2 (omega arith) (omega arith) c.write_result-at.ensures.0 c.write_result-at.ensures.1 c.write_counts.ensures
