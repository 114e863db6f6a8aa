-- The lines left, added to the present table, come to what all lines come to; the marks are those of its rows; each turn leaves fewer bytes.
use mathlib.Core.Path.{sym, ap, subst, ◌∙◌}
use borrow.Author.Rules.{rules}
use Rattle.text.specs.Loads.{Loads}
use Rattle.text.proofs.Turns.{all_left, entry_stops, entry_fits, row_within, row_turned, other_turned, none_left, turns}
use Rattle.text.proofs.add_lines.Goals as goal

pub loop-from-init : goal.loop-from-init
loop-from-init c = all_left c.args.table _ _ _ c.well_formed.0 c.requires c.new-marks.ensures

pub slice_bounds-read-end : goal.slice_bounds-read-end
slice_bounds-read-end c = search (turns, rules)

pub read-entry-requires : goal.read-entry-requires
read-entry-requires c = c.requires.few

pub returns-in-Err : goal.returns-in-Err
returns-in-Err c = subst (Loads _ _) (sym (c.stopped.ensures ∙ ap (λ n. record { table = c.loop-from.table; number = n; line = c.loop-from.line }) c.into.ensures))
    (entry_stops _ _ _ _ _ c.loop-from-test.true c.line_end-to.ensures _ _ _ c.loop-from.invariant _ c.read-entry.ensures _ c.in-Err.ensures)

pub overflow_add-from : goal.overflow_add-from
overflow_add-from c = search (turns, rules)

pub overflow_add-line : goal.overflow_add-line
overflow_add-line c = search (turns, rules)

pub store-requires : goal.store-requires
store-requires c = entry_fits _ _ _ _ _ c.loop-from-test.true c.line_end-to.ensures _ _ _ c.loop-from.invariant _ c.read-entry.ensures c.in_default.ensures

pub mark-requires : goal.mark-requires
mark-requires c = row_within _ _ _ _ _ c.loop-from-test.true c.line_end-to.ensures _ _ _ c.loop-from.invariant _ c.read-entry.ensures c.in_default.ensures _ _ c.in-TermLine.is

pub loop-from-preserved-in-TermLine : goal.loop-from-preserved-in-TermLine
loop-from-preserved-in-TermLine c = row_turned _ _ _ _ _ c.loop-from-test.true c.line_end-to.ensures _ _ _ c.loop-from.invariant _ c.read-entry.ensures c.in_default.ensures
    _ c.store.ensures _ _ c.in-TermLine.is _ c.mark.ensures

pub loop-from-preserved : goal.loop-from-preserved
loop-from-preserved c = other_turned _ _ _ _ _ c.loop-from-test.true c.line_end-to.ensures _ _ _ c.loop-from.invariant _ c.read-entry.ensures c.in_default.ensures
    _ c.store.ensures c.in_default-entry.not-TermLine

pub returns : goal.returns
returns c = subst (Loads _ _) (sym c.stopped-2.ensures) (none_left _ _ _ _ _ c.loop-from.invariant.left c.loop-from-test.false)
