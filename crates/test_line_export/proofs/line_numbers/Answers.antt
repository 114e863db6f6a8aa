-- Each arm has the numbers of its form.
use Rattle.test_line_export.proofs.line_numbers.Goals as goal

pub returns-in-TypeLine : goal.returns-in-TypeLine
returns-in-TypeLine c = cc

pub returns-in-ParamLine : goal.returns-in-ParamLine
returns-in-ParamLine c = cc

pub returns-in-TermLine : goal.returns-in-TermLine
returns-in-TermLine c = cc
