-- The commas so far.
use Rattle.std.proofs.Common.{◌≡◌, nat_eq, count_by, take}
use Rattle.tokens.proofs.fields.count.Given as goal

abbrev pub invariant-loop-b : goal.invariant-loop-b
invariant-loop-b l = l.commas ≡ count_by (λ b. nat_eq b 44) (take l.b-index l.s)
