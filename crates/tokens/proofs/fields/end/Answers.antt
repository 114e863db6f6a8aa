-- A field ends at the next comma, or at the end.
use borrow.Author.Rules.{rules}
use Rattle.tokens.proofs.Parting.{field_to}
use Rattle.tokens.proofs.fields.end.Goals as goal

pub returns : goal.returns
returns c = search (field_to, rules)
