-- A number is read on the way to the comma, a word after it was found.
use Rattle.std.proofs.Common.{◌≡◌, rules}
use Rattle.numbers.specs.NumberTo.{with_end}
use Rattle.tokens.proofs.Reading.{values}
use Rattle.tokens.proofs.values.value.Goals as goal

pub returns-in-110 : goal.returns-in-110
returns-in-110 c = search (values, rules)

pub returns-in-108 : goal.returns-in-108
returns-in-108 c = search (values, rules)

pub returns-in_default : goal.returns-in_default
returns-in_default c = let ended : c.map.result ≡ with_end c.word.result c.end-end.result = search rules in search (values, rules)
