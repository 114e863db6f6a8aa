-- The variables are cleared, then filled by the type rows and by the parameters; the parameters' and the rows' slots are filled beside them.
use Rattle.slots.proofs.Filled.{mentioned_filled, all_filled}
use Rattle.slots.proofs.fill.Goals as goal

pub returns : goal.returns
returns c m same holds stands = let program = c.args.program in
    all_filled m _ _ (rw same c.requires.fact_1.1) (rw same c.requires.fact_2)
    (rw same (mentioned_filled m _ _ program.types program.params program.typecount program.paramcount holds.types holds.params
    c.fill_variables_of_types.ensures
    c.fill_variables_of_params.ensures))
    (rw holds.params c.fill_params.ensures)
    (rw holds.rows c.fill_rows.ensures)
