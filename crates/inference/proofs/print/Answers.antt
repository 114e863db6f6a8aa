-- The line of a refusal, or the report that stands in the buffer.
use Rattle.inference.proofs.Printing.{refusal_room, refusal_printed, report_printed}
use native.Mathlib.Omega.{arith}
use borrow.Author.Rules.{rules}
use Rattle.inference.proofs.print.Goals as goal

pub returns-in-Ok : goal.returns-in-Ok
returns-in-Ok c = report_printed _ _ _ c.requires.0.is_well_formed _ c.in-Ok.ensures.0

pub write_pair-requires : goal.write_pair-requires
write_pair-requires c = refusal_room _ _ _ c.requires.0.is_well_formed _ c.in-Err.ensures.0 _ (search rules) (search rules)

pub returns-in-Err : goal.returns-in-Err
returns-in-Err c = refusal_printed _ _ _ c.requires.0.is_well_formed _ c.in-Err.ensures.0 (omega (arith, c.in-Err.ensures.1)) _ _ (search rules) c.write_pair.ensures
