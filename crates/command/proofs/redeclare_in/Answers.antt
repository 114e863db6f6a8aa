-- The first blank parts the two numbers.
use Rattle.std.proofs.Common.{◌+◌, ◌<◌, length, refl, rules, arith}
use Rattle.command.proofs.Reading.{blank_within, second_number, parted}
use Rattle.command.proofs.redeclare_in.Goals as goal

pub returns-in_default : goal.returns-in_default
returns-in_default c = (search (parted, rules), refl)

pub overflow_add-next : goal.overflow_add-next
overflow_add-next c = let within = blank_within _ _ c.number_to.ensures _ _ c.in-Some.is in omega arith

pub returns-then-s-next : goal.returns-then-s-next
returns-then-s-next c = let past : length c.args.s.now < c.in-Some.end + 1 = omega arith in (search (parted, rules), refl)

pub returns : goal.returns
returns c = second_number _ _ c.number_to.ensures _ _ c.in-Some.is _ c.number_in.ensures c.map_or.result (search rules)
