-- Each turn stores one answer and feeds one byte; the last answer is stored after them.
use Rattle.std.proofs.Common.{◌≡◌, ◌≤◌, length, rules, arith}
use Rattle.test_number_export.proofs.Prefixes.{asks, ask_last}
use Rattle.test_number_export.proofs.number_answers.Goals as goal

pub returns-then-out-s : goal.returns-then-out-s
returns-then-out-s c = let short : length c.args.out.now ≤ length c.args.s.now = omega arith in search (asks, rules)

pub loop-i-init : goal.loop-i-init
loop-i-init c = search (asks, rules)

pub loop-i-preserved : goal.loop-i-preserved
loop-i-preserved c = search (asks, rules)

pub returns : goal.returns
returns c =
    let last : c.loop-i.i ≡ length c.args.s.now = omega arith in
    rw last at (ask_last _ _ _ _ _ _ c.loop-i.invariant _ c.answer-2.ensures _ c.code-2.ensures (omega arith))
