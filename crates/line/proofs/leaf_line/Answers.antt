-- Each kind has its form.
use borrow.Author.Rules.{rules}
use Rattle.model.specs.Line.{leaf_line}
use Rattle.line.proofs.TenForms.{forms}
use Rattle.line.proofs.Steps.{steps}
use Rattle.line.proofs.leaf_line.Goals as goal

pub returns-then-s-from : goal.returns-then-s-from
unfolding leaf_line
returns-then-s-from c = search (steps, rules)

pub end-to-requires : goal.end-to-requires
unfolding leaf_line
end-to-requires c = search rules

pub spells-requires : goal.spells-requires
unfolding leaf_line
spells-requires c = search rules

pub read-requires : goal.read-requires
unfolding leaf_line
read-requires c = search rules

pub var-requires : goal.var-requires
unfolding leaf_line
var-requires c = search rules

pub returns-then-spells : goal.returns-then-spells
unfolding leaf_line
returns-then-spells c = search (steps, forms, rules)

pub spells-requires-2 : goal.spells-requires-2
unfolding leaf_line
spells-requires-2 c = search rules

pub read-requires-then-spells-2 : goal.read-requires-then-spells-2
unfolding leaf_line
read-requires-then-spells-2 c = search rules

pub num-requires : goal.num-requires
unfolding leaf_line
num-requires c = search rules

pub returns-then-spells-2 : goal.returns-then-spells-2
unfolding leaf_line
returns-then-spells-2 c = search (steps, forms, rules)

pub spells-requires-3 : goal.spells-requires-3
unfolding leaf_line
spells-requires-3 c = search rules

pub read-requires-then-spells-3 : goal.read-requires-then-spells-3
unfolding leaf_line
read-requires-then-spells-3 c = search rules

pub enc-requires : goal.enc-requires
unfolding leaf_line
enc-requires c = search rules

pub returns-then-spells-3 : goal.returns-then-spells-3
unfolding leaf_line
returns-then-spells-3 c = search (steps, forms, rules)

pub returns : goal.returns
unfolding leaf_line
returns c = search (steps, rules)
