-- The solver is given the ruling and the program of the table that stands.
use native.Mathlib.Omega.{arith}
use mathlib.Core.Path.{sym, subst}
use Rattle.schemes.specs.Schemes.{table_in}
use Rattle.solver.specs.Runs.{Governed}
use Rattle.inference.proofs.Judging.{same_machine, ready_governed}
use Rattle.inference.proofs.solve.Goals as goal

pub solve-requires : goal.solve-requires
solve-requires c = let table = c.args.table in
    let pre = c.requires in
    let types = c.type_rows.ensures in
    let params = c.parameters.ensures in
    let terms = c.term_rows.ensures in
    let same = same_machine table _ _ _ types.0 params.0 terms.0 in
    let governed = subst (Governed table.schemes.rule) (sym same) (ready_governed table pre.0) in
    record { fact_1 = (table_in table.schemes, governed); fact_2 = (record { types = types.1; params = params.1; terms = terms.1 }, omega (arith, terms.0, pre.1)) }

pub returns : goal.returns
returns c = let table = c.args.table in
    let pre = c.requires in
    let types = c.type_rows.ensures in
    let params = c.parameters.ensures in
    let terms = c.term_rows.ensures in
    let same = same_machine table _ _ _ types.0 params.0 terms.0 in
    let governed = subst (Governed table.schemes.rule) (sym same) (ready_governed table pre.0) in
    rw same at (c.solve.ensures (table_in table.schemes) governed)
