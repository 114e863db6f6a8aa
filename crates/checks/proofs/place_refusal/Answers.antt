-- Each way returns the number of the first of the two checks that fails, or 0.
use borrow.Author.Rules.{rules}
use Rattle.checks.proofs.Refusals.{not_next, no_room, placed}
use Rattle.checks.proofs.place_refusal.Goals as goal

pub returns-then-own-count : goal.returns-then-own-count
returns-then-own-count c = search (not_next, rules)

pub returns-then-limit-count : goal.returns-then-limit-count
returns-then-limit-count c = search (no_room, rules)

pub returns : goal.returns
returns c = search (placed, rules)
