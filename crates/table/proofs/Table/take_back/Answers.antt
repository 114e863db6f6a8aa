-- A refusal leaves the lists; else one row fewer is taken of the array.
use mathlib.Core.Path.{refl}
use Rattle.table.proofs.Stored.{returned, no_term, term_dropped}
use Rattle.table.proofs.Table.take_back.Goals as goal

pub returns-then-rows-eq0 : goal.returns-then-rows-eq0
returns-then-rows-eq0 c = returned _ _ c.args.self _ c.refused.ensures (no_term _ _ c.term_rows-rows.ensures.0 c.if-rows-eq0.true, refl)

pub returns : goal.returns
returns c = returned _ _ c.args.self _ c.accepted.ensures (term_dropped c.args.self _ c.term_rows-rows.ensures.0 c.if-rows-eq0.false, refl)
