-- `rows::function_plain`: by the mark of the root, and by whether it is a row's.
use native.Mathlib.Omega.{arith}
use mathlib.Core.Path.{refl}
use Rattle.rows.specs.Applying.{looked, bare}
use Rattle.rows.proofs.Binding.{own_plain, own_apart}
use Rattle.rows.proofs.function_plain.Goals as goal

pub returns-then-pending-function-gt0 : goal.returns-then-pending-function-gt0
returns-then-pending-function-gt0 c = looked c.look_through.ensures

pub returns-then-function-row_type : goal.returns-then-function-row_type
returns-then-function-row_type c = bare (omega (arith, c.if-pending-function-gt0.false)) (omega (arith, c.if-function-row_type.true, c.row_type.ensures)) refl refl

pub returns-in-Ok : goal.returns-in-Ok
returns-in-Ok c = let united = rw (c.row_qualifier-own.ensures, c.row_type-2.ensures) at c.in-Ok.ensures in
    own_plain _ (omega (arith, c.if-function-row_type.false, c.row_type.ensures)) united.fact_1 (omega (arith, c.if-pending-function-gt0.false))

pub returns-in-Err : goal.returns-in-Err
returns-in-Err c = let united = rw (c.row_qualifier-own.ensures, c.row_type-2.ensures) at c.in-Err.ensures in
    own_apart _ (omega (arith, c.if-function-row_type.false, c.row_type.ensures)) united.fact_1
