-- `rows::op_row`: each way out is one law over the state before and after.
use Prim.Native.Nat.{◌<◌}
use native.Mathlib.Omega.{arith}
use mathlib.Core.Path.{◌∙◌}
use Rattle.layout.specs.Layout.{nodes}
use Rattle.rows.proofs.Operations.{result_one, left_clash, left_classes, right_clash, operands_apart, op_fine, op_broken}
use Rattle.rows.proofs.op_row.Goals as goal

pub returns-then-not-make_int : goal.returns-then-not-make_int
returns-then-not-make_int c = let first = rw c.row_type.ensures at c.make_int.ensures in
    left_clash c.args.o c.requires.fact_3 c.requires.fact_1 c.requires.fact_2 first c.if-not-make_int.true

pub make_int-requires-2-clause-fact_1 : goal.make_int-requires-2-clause-fact_1
make_int-requires-2-clause-fact_1 c = let first = rw c.row_type.ensures at c.make_int.ensures in
    left_classes c.args.o c.requires.fact_3 c.requires.fact_1 c.requires.fact_2 first c.if-not-make_int.false

pub returns-then-not-make_int-2 : goal.returns-then-not-make_int-2
returns-then-not-make_int-2 c = let first = rw c.row_type.ensures at c.make_int.ensures in
    let left-int = c.if-not-make_int.false in
    let second = rw c.row_type-2.ensures at c.make_int-2.ensures in
    right_clash c.args.o c.requires.fact_3 c.requires.fact_1 c.requires.fact_2 first left-int second c.if-not-make_int-2.true

pub returns-in_default : goal.returns-in_default
returns-in_default c = let first = rw c.row_type.ensures at c.make_int.ensures in
    let left-int = c.if-not-make_int.false in
    let second = rw c.row_type-2.ensures at c.make_int-2.ensures in
    let right-int = c.if-not-make_int-2.false in
    let apart = rw (c.row_qualifier-right.ensures, c.row_qualifier-left.ensures, c.in_default.is) at c.unite.ensures in
    let own = c.row_type-3.ensures in
    rw own (operands_apart c.args.o c.requires.fact_3 c.requires.fact_1 c.requires.fact_2 first left-int second right-int apart.fact_1)

pub put_under-requires : goal.put_under-requires
put_under-requires c = let node = c.in-Ok.ensures.fact_2.node in
    (omega (arith, c.row_qualifier.ensures, c.requires.fact_3), result_one (λ x. x < nodes) c.args.o _ c.result-result.ensures node (omega arith))

pub returns-then-not-restrict : goal.returns-then-not-restrict
returns-then-not-restrict c = let first = rw c.row_type.ensures at c.make_int.ensures in
    let left-int = c.if-not-make_int.false in
    let second = rw c.row_type-2.ensures at c.make_int-2.ensures in
    let right-int = c.if-not-make_int-2.false in
    let united = rw (c.row_qualifier-right.ensures, c.row_qualifier-left.ensures) at c.in-Ok.ensures in
    let own = c.row_type-3.ensures in
    let placed = rw c.row_qualifier.ensures at (c.restrict.ensures.fact_2 ∙ c.put_under.ensures) in
    let result = c.result-result.ensures in
    rw own
    (op_broken c.args.o c.requires.fact_3 c.requires.fact_1 c.requires.fact_2 first left-int second right-int united.fact_1 united.fact_2 result placed c.requires.fact_4 c.highest_in.ensures c.restrict.ensures.fact_1 c.if-not-restrict.true)

pub returns : goal.returns
returns c = let first = rw c.row_type.ensures at c.make_int.ensures in
    let left-int = c.if-not-make_int.false in
    let second = rw c.row_type-2.ensures at c.make_int-2.ensures in
    let right-int = c.if-not-make_int-2.false in
    let united = rw (c.row_qualifier-right.ensures, c.row_qualifier-left.ensures) at c.in-Ok.ensures in
    let own = c.row_type-3.ensures in
    let placed = rw c.row_qualifier.ensures at (c.restrict.ensures.fact_2 ∙ c.put_under.ensures) in
    let result = c.result-result.ensures in
    rw own
    (op_fine c.args.o c.requires.fact_3 c.requires.fact_1 c.requires.fact_2 first left-int second right-int united.fact_1 united.fact_2 result placed c.requires.fact_4 c.highest_in.ensures c.restrict.ensures.fact_1 c.if-not-restrict.false)
