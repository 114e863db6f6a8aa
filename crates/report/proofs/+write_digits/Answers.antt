-- A number below ten is its one digit; any other is the digits of its tenth part, and its last digit. The number is the measure.
use native.Mathlib.Omega.{arith}
use borrow.Author.Rules.{rules}
use Rattle.report.proofs.Digits.{decimal_one_length, decimal_more_length, wrote_digit, wrote_digits}
use Rattle.report.proofs.+write_digits.Goals as goal

pub bounds-buffer-at : goal.bounds-buffer-at
bounds-buffer-at t c = omega (arith, decimal_one_length c.args.n c.if-n-lt10.true)

pub returns-then-n-lt10 : goal.returns-then-n-lt10
returns-then-n-lt10 t c = search (wrote_digit, rules)

pub write_digits-last-requires : goal.write_digits-last-requires
write_digits-last-requires t c = (omega arith, record { fits = omega (arith, decimal_more_length c.args.n c.if-n-lt10.false) })

pub bounds-buffer-last : goal.bounds-buffer-last
bounds-buffer-last t c = omega (arith, decimal_more_length c.args.n c.if-n-lt10.false)

pub overflow_add-result-2 : goal.overflow_add-result-2
overflow_add-result-2 t c = omega (arith, decimal_more_length c.args.n c.if-n-lt10.false)

pub returns : goal.returns
returns t c = search (wrote_digits, rules)
