-- Each arm has the numbers of its form.
use Rattle.test_line_export.proofs.type_numbers.Goals as goal

pub returns-in-Int : goal.returns-in-Int
returns-in-Int c = cc

pub returns-in-Any : goal.returns-in-Any
returns-in-Any c = cc

pub returns-in-Arrow : goal.returns-in-Arrow
returns-in-Arrow c = rw c.in-Arrow.is
