-- Each kind has its form.
use borrow.Author.Rules.{rules}
use Rattle.model.specs.Line.{term_line}
use Rattle.line.proofs.TenForms.{forms}
use Rattle.line.proofs.Steps.{steps}
use Rattle.line.proofs.term_line.Goals as goal

pub returns-then-s-from : goal.returns-then-s-from
unfolding term_line
returns-then-s-from c = search (steps, rules)

pub end-to-requires : goal.end-to-requires
unfolding term_line
end-to-requires c = search rules

pub spells-requires : goal.spells-requires
unfolding term_line
spells-requires c = search rules

pub read-requires : goal.read-requires
unfolding term_line
read-requires c = search rules

pub lam-requires : goal.lam-requires
unfolding term_line
lam-requires c = search rules

pub returns-then-spells : goal.returns-then-spells
unfolding term_line
returns-then-spells c = search (steps, forms, rules)

pub spells-requires-2 : goal.spells-requires-2
unfolding term_line
spells-requires-2 c = search rules

pub read-requires-then-spells-2 : goal.read-requires-then-spells-2
unfolding term_line
read-requires-then-spells-2 c = search rules

pub app-requires : goal.app-requires
unfolding term_line
app-requires c = search rules

pub returns-then-spells-2 : goal.returns-then-spells-2
unfolding term_line
returns-then-spells-2 c = search (steps, forms, rules)

pub spells-requires-3 : goal.spells-requires-3
unfolding term_line
spells-requires-3 c = search rules

pub read-requires-then-spells-3 : goal.read-requires-then-spells-3
unfolding term_line
read-requires-then-spells-3 c = search rules

pub op-requires : goal.op-requires
unfolding term_line
op-requires c = search rules

pub returns-then-spells-3 : goal.returns-then-spells-3
unfolding term_line
returns-then-spells-3 c = search (steps, forms, rules)

pub leaf_line-requires : goal.leaf_line-requires
unfolding term_line
leaf_line-requires c = search rules

pub returns : goal.returns
unfolding term_line
returns c = search (steps, rules)
