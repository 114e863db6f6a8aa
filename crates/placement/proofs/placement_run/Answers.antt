-- The six's bytes stand for the table of the six.
use Rattle.placement.proofs.placement_run.Goals as goal

pub run_text-requires : goal.run_text-requires
run_text-requires c = c.six.ensures.1

pub returns : goal.returns
returns c = rw c.six.ensures.0 at c.run_text.ensures
