-- A qualifier is at or below another exactly where it is the meet of the two.
use Rattle.scheme.proofs.Rule.{meet_is_left}
use Rattle.scheme.proofs.is_under.Goals as goal

pub returns : goal.returns
returns c = rw c.meet_in.ensures (meet_is_left c.requires.fact_1 _ _ c.requires.fact_2.0 c.requires.fact_2.1)
