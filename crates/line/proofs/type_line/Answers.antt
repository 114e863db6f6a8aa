-- Each kind has its form.
use borrow.Author.Rules.{rules}
use Rattle.model.specs.Line.{type_line}
use Rattle.line.proofs.TenForms.{forms}
use Rattle.line.proofs.Steps.{steps}
use Rattle.line.proofs.type_line.Goals as goal

pub returns-then-s-from : goal.returns-then-s-from
unfolding type_line
returns-then-s-from c = search (steps, rules)

pub end-to-requires : goal.end-to-requires
unfolding type_line
end-to-requires c = search rules

pub spells-requires : goal.spells-requires
unfolding type_line
spells-requires c = search rules

pub read-requires : goal.read-requires
unfolding type_line
read-requires c = search rules

pub int-requires : goal.int-requires
unfolding type_line
int-requires c = search rules

pub returns-then-spells : goal.returns-then-spells
unfolding type_line
returns-then-spells c = search (steps, forms, rules)

pub spells-requires-2 : goal.spells-requires-2
unfolding type_line
spells-requires-2 c = search rules

pub read-requires-then-spells-2 : goal.read-requires-then-spells-2
unfolding type_line
read-requires-then-spells-2 c = search rules

pub any-requires : goal.any-requires
unfolding type_line
any-requires c = search rules

pub returns-then-spells-2 : goal.returns-then-spells-2
unfolding type_line
returns-then-spells-2 c = search (steps, forms, rules)

pub spells-requires-3 : goal.spells-requires-3
unfolding type_line
spells-requires-3 c = search rules

pub read-requires-then-spells-3 : goal.read-requires-then-spells-3
unfolding type_line
read-requires-then-spells-3 c = search rules

pub arrow-requires : goal.arrow-requires
unfolding type_line
arrow-requires c = search rules

pub returns-then-spells-3 : goal.returns-then-spells-3
unfolding type_line
returns-then-spells-3 c = search (steps, forms, rules)

pub returns : goal.returns
unfolding type_line
returns c = search (steps, rules)
