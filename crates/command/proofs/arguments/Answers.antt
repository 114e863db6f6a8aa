-- Each turn reads one word more; the array has a place for each.
use Rattle.std.proofs.Common.{◌≡◌, refl, rules, arith}
use Rattle.command.proofs.Numbers.{count_first, count_fits, count_full, next_fits, no_number, last_number, last_fits, next_number}
use Rattle.command.proofs.arguments.Goals as goal

pub loop-k-init : goal.loop-k-init
loop-k-init c = count_first _ _ refl

pub returns-in_err-number : goal.returns-in_err-number
returns-in_err-number c = rw c.from_residual.ensures (no_number _ _ _ _ _ c.loop-k.invariant (omega arith) c.number_to.ensures c.in_err-number.was)

pub returns-then-to-s : goal.returns-then-to-s
returns-then-to-s c = (
  last_number _ _ _ _ _ c.loop-k.invariant (omega arith) c.number_to.ensures _ _ c.in_ok-number.was c.if-to-s.true,
  omega arith,
  last_fits _ _ _ _ _ c.loop-k.invariant (omega arith) c.number_to.ensures _ _ c.in_ok-number.was,
)

pub overflow_add-from : goal.overflow_add-from
overflow_add-from c = next_fits _ _ _ _ _ c.loop-k.invariant (omega arith) c.number_to.ensures _ _ c.in_ok-number.was (search rules)

pub loop-k-preserved : goal.loop-k-preserved
loop-k-preserved c = next_number _ _ _ _ _ c.loop-k.invariant (omega arith) c.number_to.ensures _ _ c.in_ok-number.was c.if-to-s.false

pub returns : goal.returns
returns c =
    let all : c.loop-k.k ≡ 66 = omega arith in
    let full = rw all at c.loop-k.invariant in
    (count_full _ _ _ _ full (omega arith), omega arith, count_fits _ _ _ _ full)
