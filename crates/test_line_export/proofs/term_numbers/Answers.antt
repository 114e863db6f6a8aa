-- Each arm has the numbers of its form.
use Rattle.test_line_export.proofs.term_numbers.Goals as goal

pub returns-in-Lam : goal.returns-in-Lam
returns-in-Lam c = cc

pub returns-in-App : goal.returns-in-App
returns-in-App c = cc

pub returns-in-Op : goal.returns-in-Op
returns-in-Op c = cc

pub returns-in-Var : goal.returns-in-Var
returns-in-Var c = cc

pub returns-in-Num : goal.returns-in-Num
returns-in-Num c = cc

pub returns-in-Enc : goal.returns-in-Enc
returns-in-Enc c = cc
