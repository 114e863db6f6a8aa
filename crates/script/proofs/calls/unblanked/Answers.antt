-- By whether the byte is a blank.
use Rattle.script.proofs.Restarting.{blank_unblanked, other_unblanked}
use borrow.Author.Rules.{rules}
use Rattle.script.proofs.calls.unblanked.Goals as goal

pub returns-then-byte-eq32 : goal.returns-then-byte-eq32
returns-then-byte-eq32 c = search (blank_unblanked, rules)

pub returns : goal.returns
returns c = search (other_unblanked, rules)
