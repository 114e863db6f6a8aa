use borrow.Author.Rules.{rules}
use Rattle.line.proofs.TenForms.{reads_param}
use Rattle.line.proofs.param_line.Goals as goal

pub returns : goal.returns
returns c = search (reads_param, rules)
