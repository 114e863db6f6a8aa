-- `solver::take_lines`: the pairs of the type rows, then those of the parameters, looked through once.
use Rattle.solver.proofs.Start.{classes_start}
use Rattle.solver.proofs.Lines.{line_pairs_lem, lined}
use Rattle.solver.proofs.take_lines.Goals as goal

pub look_through-requires-clause-fact_1 : goal.look_through-requires-clause-fact_1
look_through-requires-clause-fact_1 c = let begun = c.requires.fact_1.2 in
    classes_start c.requires.fact_1.1.governed begun.described begun.started

pub look_through-requires-clause-fact_3 : goal.look_through-requires-clause-fact_3
look_through-requires-clause-fact_3 c = line_pairs_lem c.add_types-first.ensures c.add_params-state.ensures c.requires.fact_1.1 c.requires.fact_1.2

pub returns : goal.returns
returns c m of begun = lined _ _ _ c.look_through.result c.add_types-first.ensures c.add_params-state.ensures of begun c.look_through.ensures
