-- Each arm has the code of its kind's shape.
use native.Mathlib.Omega.{arith}
use Rattle.slots.proofs.Shapes.{any_code, int_code, arrow_code}
use Rattle.slots.proofs.shape_code.Goals as goal

pub returns-in-0 : goal.returns-in-0
returns-in-0 c = any_code _ c.in-0.is

pub returns-in-1 : goal.returns-in-1
returns-in-1 c = int_code _ c.in-1.is

pub returns-in_default : goal.returns-in_default
returns-in_default c = arrow_code _ (omega arith)
