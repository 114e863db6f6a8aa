-- PLAIN, or else a place among the names.
use borrow.Author.Rules.{rules}
use Rattle.tokens.proofs.Spelling.{word_plain, word_named}
use Rattle.tokens.proofs.words.word_in.Goals as goal

pub returns-then-spells : goal.returns-then-spells
returns-then-spells c = search (word_plain, rules)

pub returns : goal.returns
returns c = search (word_named, rules)
