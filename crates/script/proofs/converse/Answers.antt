-- The answers to the lines left come after those so far; each turn leaves fewer bytes.
use mathlib.Core.Path.{refl}
use borrow.Author.Rules.{rules}
use Rattle.lines.proofs.Lines.{end_bound, end_fits}
use Rattle.script.proofs.Conversing.{turns}
use Rattle.script.proofs.converse.Goals as goal

pub loop-from-init : goal.loop-from-init
loop-from-init g c = (search (turns, rules), refl)

pub slice_bounds-answer_at-end : goal.slice_bounds-answer_at-end
slice_bounds-answer_at-end g c = search (end_bound, rules)

pub overflow_add-from : goal.overflow_add-from
overflow_add-from g c = search (end_fits, rules)

pub loop-from-preserved : goal.loop-from-preserved
loop-from-preserved g c = (search (turns, rules), search rules)

pub returns : goal.returns
returns g c = search (turns, rules)
