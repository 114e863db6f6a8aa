use native.Mathlib.Omega.{arith}
use Rattle.moves.proofs.Operating.{spent_before, no_left, no_right, overflows_past, operates_to}
use Rattle.moves.proofs.operations.operate.Goals as goal

pub returns-then-p-budget : goal.returns-then-p-budget
returns-then-p-budget c = spent_before c.if-p-budget.true

pub returns-in_default : goal.returns-in_default
returns-in_default c = no_left c.in_default.not-Number

pub returns-in_default-right : goal.returns-in_default-right
returns-in_default-right c = no_right c.in_default-right.not-Number

pub returns-then-calculated-gt-LARGEST : goal.returns-then-calculated-gt-LARGEST
returns-then-calculated-gt-LARGEST c = overflows_past c.if-p-budget.false c.in-Number.is c.in-Number-right.is c.calculate-calculated.ensures c.if-calculated-gt-LARGEST.true

pub returns : goal.returns
returns c = operates_to c.if-p-budget.false c.in-Number.is c.in-Number-right.is c.calculate-calculated.ensures (omega arith) c.if-calculated-gt-LARGEST.false c.result_tag.ensures c.at_result.ensures
