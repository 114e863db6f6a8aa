-- There is one field more than commas.
use Rattle.std.proofs.Common.{rules}
use Rattle.tokens.proofs.Parting.{fields_counted}
use Rattle.tokens.proofs.fields.count.Goals as goal

pub returns : goal.returns
returns c = search (fields_counted, rules)
