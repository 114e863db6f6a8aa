use native.Mathlib.Omega.{arith}
use Rattle.moves.proofs.Rows.{on_lam, on_num, on_enc, on_var, deep_app, deep_op, on_app, on_op}
use Rattle.moves.proofs.turn_row.Goals as goal

pub returns-then-len-gt-CONTEXTS : goal.returns-then-len-gt-CONTEXTS
returns-then-len-gt-CONTEXTS c = deep_app c.in-App.is (omega (arith, c.len.ensures.0, c.if-len-gt-CONTEXTS.true))

pub returns-then-len-gt-CONTEXTS-2 : goal.returns-then-len-gt-CONTEXTS-2
returns-then-len-gt-CONTEXTS-2 c = deep_op c.in-Op.is (omega (arith, c.len-in-Op.ensures.0, c.if-len-gt-CONTEXTS-2.true))

pub returns-in-Lam : goal.returns-in-Lam
returns-in-Lam c = on_lam c.in-Lam.is c.at_value.ensures

pub returns-in-Num : goal.returns-in-Num
returns-in-Num c = on_num c.in-Num.is c.at_value-in-Num.ensures

pub returns-in-Enc : goal.returns-in-Enc
returns-in-Enc c = on_enc c.in-Enc.is c.at_value-in-Enc.ensures

pub returns-in-Var : goal.returns-in-Var
returns-in-Var c = on_var c.in-Var.is c.seek.ensures.1 c.at_value-in-Var.ensures

pub returns-else-len-gt-CONTEXTS : goal.returns-else-len-gt-CONTEXTS
returns-else-len-gt-CONTEXTS c = rw c.push.ensures (on_app c.in-App.is c.at_row.ensures)

pub returns-else-len-gt-CONTEXTS-2 : goal.returns-else-len-gt-CONTEXTS-2
returns-else-len-gt-CONTEXTS-2 c = rw c.push-in-Op.ensures (on_op c.in-Op.is c.at_row-in-Op.ensures)
