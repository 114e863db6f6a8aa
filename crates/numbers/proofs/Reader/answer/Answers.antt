-- Each way out by its law.
use borrow.Author.Rules.{rules}
use Rattle.numbers.proofs.Feeding.{answers}
use Rattle.numbers.proofs.Reader.answer.Goals as goal

pub returns-then-self-most : goal.returns-then-self-most
returns-then-self-most c = search (answers, rules)

pub returns-then-self : goal.returns-then-self
returns-then-self c = search (answers, rules)

pub returns : goal.returns
returns c = search (answers, rules)
