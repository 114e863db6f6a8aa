-- No mark is set.
use Rattle.checks.proofs.Marking.{marked_none}
use Rattle.checks.proofs.marks.Marks.new.Goals as goal

pub returns : goal.returns
returns c = marked_none
