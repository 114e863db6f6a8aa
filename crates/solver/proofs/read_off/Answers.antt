-- `solver::read_off`: the settled words and kinds of a run over all rows, by slots, place the program.
use mathlib.Core.Path.{sym, ◌∙◌}
use Rattle.model.proofs.Programs.{terms_whole}
use Rattle.readings.specs.Programs.{machine_of}
use Rattle.solver.proofs.Placed.{held, placed}
use Rattle.solver.proofs.read_off.Goals as goal

pub returns : goal.returns
returns c T gov = let program = c.args.program in
    let end = c.requires.fact_3 T gov in
    let holds = held T program (terms_whole program c.well_formed.1.0) c.requires.fact_2 in
    let filled = c.fill.ensures (machine_of T program) (sym (c.words-words.ensures ∙ gov.ruled.words_same)) holds gov.is_well_formed in
    placed c.settle.new.self.bounds c.settle-2.new.types.kinds gov (sym holds.rows) end c.settle.ensures.fact_1 c.settle-2.ensures.kinds filled
