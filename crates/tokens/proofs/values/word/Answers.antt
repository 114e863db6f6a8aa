-- Each letter has its reader.
use borrow.Author.Rules.{rules}
use Rattle.tokens.specs.Form.{word_in}
use Rattle.tokens.proofs.Reading.{word_operation}
use Rattle.tokens.proofs.values.word.Goals as goal

pub qualifier_in-requires : goal.qualifier_in-requires
unfolding word_in
qualifier_in-requires c = search rules

pub word_in-requires : goal.word_in-requires
unfolding word_in
word_in-requires c = search rules

pub scheme_in-requires : goal.scheme_in-requires
unfolding word_in
scheme_in-requires c = search rules

pub operation_in-requires : goal.operation_in-requires
unfolding word_in
operation_in-requires c = search rules

pub returns-in-113 : goal.returns-in-113
unfolding word_in
returns-in-113 c = simp c.in-113.is (search rules)

pub returns-in-102 : goal.returns-in-102
unfolding word_in
returns-in-102 c = simp c.in-102.is (search rules)

pub returns-in-115 : goal.returns-in-115
unfolding word_in
returns-in-115 c = simp c.in-115.is (search rules)

pub returns-in_default : goal.returns-in_default
unfolding word_in
returns-in_default c = search (word_operation, rules)
