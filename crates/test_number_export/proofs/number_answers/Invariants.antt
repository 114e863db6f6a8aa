-- Each turn stores one answer and feeds one byte; the last answer is stored after them.
use Rattle.test_number_export.proofs.Prefixes.{Asked}
use Rattle.test_number_export.proofs.number_answers.Given as goal

abbrev pub invariant-loop-i : goal.invariant-loop-i
invariant-loop-i l = Asked l.most l.s l.initial.out l.out l.i l.reader
