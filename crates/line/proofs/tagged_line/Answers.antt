-- Each tag has its lines.
use borrow.Author.Rules.{rules}
use Rattle.model.specs.Line.{line_of}
use Rattle.line.proofs.Steps.{steps}
use Rattle.line.proofs.tagged_line.Goals as goal

pub field-tag-requires : goal.field-tag-requires
unfolding line_of
field-tag-requires c = search rules

pub same-requires : goal.same-requires
unfolding line_of
same-requires c = search rules

pub type_line-requires : goal.type_line-requires
unfolding line_of
type_line-requires c = search rules

pub returns-then-same : goal.returns-then-same
unfolding line_of
returns-then-same c = search (steps, rules)

pub same-requires-2 : goal.same-requires-2
unfolding line_of
same-requires-2 c = search rules

pub param_line-requires : goal.param_line-requires
unfolding line_of
param_line-requires c = search rules

pub returns-then-same-2 : goal.returns-then-same-2
unfolding line_of
returns-then-same-2 c = search (steps, rules)

pub same-requires-3 : goal.same-requires-3
unfolding line_of
same-requires-3 c = search rules

pub term_line-requires : goal.term_line-requires
unfolding line_of
term_line-requires c = search rules

pub returns-then-same-3 : goal.returns-then-same-3
unfolding line_of
returns-then-same-3 c = search (steps, rules)

pub returns : goal.returns
unfolding line_of
returns c = search (steps, rules)
