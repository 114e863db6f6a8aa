-- Each arm has the bytes of its form.
use mathlib.Core.Path.{sym, ap, ◌∙◌}
use Rattle.test_table_export.specs.Dump.{term_bytes}
use Rattle.test_table_export.proofs.dump.term_bytes.Goals as goal

pub returns-in-Lam : goal.returns-in-Lam
returns-in-Lam c = c.pair_bytes.ensures ∙ ap term_bytes (sym c.in-Lam.is)

pub returns-in-App : goal.returns-in-App
returns-in-App c = c.pair_bytes-in-App.ensures ∙ ap term_bytes (sym c.in-App.is)

pub returns-in-Op : goal.returns-in-Op
returns-in-Op c = c.pair_bytes-in-Op.ensures ∙ ap term_bytes (sym c.in-Op.is)

pub returns-in-Var : goal.returns-in-Var
returns-in-Var c = c.pair_bytes-in-Var.ensures ∙ ap term_bytes (sym c.in-Var.is)

pub returns-in-Num : goal.returns-in-Num
returns-in-Num c = c.number_bytes.ensures ∙ ap term_bytes (sym c.in-Num.is)

pub returns-in-Enc : goal.returns-in-Enc
returns-in-Enc c = c.number_bytes-in-Enc.ensures ∙ ap term_bytes (sym c.in-Enc.is)
