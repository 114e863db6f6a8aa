-- The digits of a small number and a line feed.
use Rattle.script.proofs.Replying.{small_room, number_front}
use borrow.Author.Rules.{rules}
use Rattle.script.proofs.write_number.Goals as goal

pub write_number-requires : goal.write_number-requires
write_number-requires c = search (small_room, rules)

pub returns : goal.returns
returns c = search (number_front, rules)
