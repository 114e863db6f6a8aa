-- What is found of the floors is a refusal, or accepts.
use Rattle.solver.proofs.Stops.{rule_lattice}
use Rattle.inference.proofs.Floors.{codes_worded, every_met, one_missed}
use Rattle.inference.proofs.Judging.{ready_governed, judges_missed, judges_accepted}
use Rattle.inference.proofs.above_floors.Goals as goal

pub lowest_missed-requires : goal.lowest_missed-requires
lowest_missed-requires c = let counted = c.parameters.ensures in
    record { fact_1 = rule_lattice (ready_governed c.args.table c.requires.0); fact_2 = (counted.1, codes_worded c.args.table c.requires.0 _ c.requires.2 _ counted.0) }

pub returns-in-Some : goal.returns-in-Some
returns-in-Some c = let missed = one_missed c.args.table c.requires.0 _ c.requires.2 _ c.parameters.ensures.0 _ (rw c.in-Some.is at c.lowest_missed.ensures) in
    rw c.below_floor.ensures (judges_missed c.requires.1 c.requires.2 missed)

pub returns-in-None : goal.returns-in-None
returns-in-None c = let met = every_met c.args.table c.requires.0 _ c.requires.2 _ c.parameters.ensures.0 (rw c.in-None.is at c.lowest_missed.ensures) in
    judges_accepted c.requires.1 c.requires.2 met
