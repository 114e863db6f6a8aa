-- `rows::step`: each kind of row by its own law.
use native.Mathlib.Omega.{arith}
use Rattle.rows.proofs.Rows.{row_int, row_literal, row_same, row_arrow}
use Rattle.rows.proofs.step.Goals as goal

pub returns-in-Lam : goal.returns-in-Lam
returns-in-Lam c = let row = c.requires.fact_4 in
    let is = c.in-Lam.is in
    let stands = rw is at row.0.stands in
    let known = rw (c.arrow-arrow.ensures, c.row_type.ensures) at c.known_row.ensures in
    rw is
    (row_arrow row.0.in_list c.requires.fact_1 c.requires.fact_3 c.requires.fact_5 known (rw is at row.1) (omega (arith, rw is at row.0.is_qualifier_node)) (omega (arith, rw is at row.0.type_node)) (omega (arith, stands.1)) (omega (arith, stands.1)))

pub returns-in-App : goal.returns-in-App
returns-in-App c = rw c.in-App.is c.app_row.ensures

pub returns-in-Op : goal.returns-in-Op
returns-in-Op c = rw c.in-Op.is (c.op_row.ensures _ _ c.requires.fact_5)

pub returns-in-Var : goal.returns-in-Var
returns-in-Var c = let row = c.requires.fact_4 in
    let is = c.in-Var.is in
    let type = rw c.row_type-in-Var.ensures at c.put_under_root.ensures in
    let qualifier = rw c.row_qualifier.ensures at c.put_under_root-in-Var.ensures in
    rw is (row_same row.0.in_list c.requires.fact_1 c.requires.fact_3 c.requires.fact_5 (omega (arith, rw is at row.0.is_qualifier_node)) (rw is at row.0.type_node) type qualifier)

pub returns-in-Num : goal.returns-in-Num
returns-in-Num c = let row = c.requires.fact_4 in
    let known = rw c.row_qualifier-own.ensures at c.known_row-in-Num.ensures in
    rw c.in-Num.is (row_literal row.0.in_list c.requires.fact_1 c.requires.fact_3 c.requires.fact_5 known)

pub returns-in-Enc : goal.returns-in-Enc
returns-in-Enc c = let row = c.requires.fact_4 in
    let is = c.in-Enc.is in
    let stands = rw is at row.0.stands in
    rw is (row_int row.0.in_list c.requires.fact_1 c.requires.fact_3 c.requires.fact_5 (omega (arith, stands.1)) c.known_row-in-Enc.ensures)
