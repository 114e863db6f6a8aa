-- The six's bytes stand for the table of the six.
use Rattle.placement.proofs.placement_report.Goals as goal

pub report-requires : goal.report-requires
report-requires c = c.six.ensures.1

pub returns : goal.returns
returns c = rw c.six.ensures.0 at c.report.ensures
