-- A line is read where it is short enough and has an own number.
use Prim.Native.Nat.{◌≤◌}
use native.Mathlib.Omega.{arith}
use lib.ListN.{length}
use borrow.Author.Rules.{rules}
use Rattle.numbers.proofs.Ends.{number_within}
use Rattle.line.proofs.Steps.{too_long, beginnings}
use Rattle.line.proofs.read.Goals as goal

pub returns-then-s-gt64 : goal.returns-then-s-gt64
returns-then-s-gt64 c = search (too_long, beginnings, rules)

pub returns-then-s-from : goal.returns-then-s-from
returns-then-s-from c = search (too_long, beginnings, rules)

pub overflow_cast-i : goal.overflow_cast-i
overflow_cast-i c = search (too_long, beginnings, rules)

pub overflow_add-end : goal.overflow_add-end
overflow_add-end c = let within : c.in-Some.end ≤ length c.args.s.now = number_within 44 65535 _ _ _ c.number.ensures _ _ c.in-Some.is (omega arith) in omega arith

pub tagged_line-requires : goal.tagged_line-requires
tagged_line-requires c = search (too_long, beginnings, rules)

pub returns-in_default : goal.returns-in_default
returns-in_default c = search (too_long, beginnings, rules)
