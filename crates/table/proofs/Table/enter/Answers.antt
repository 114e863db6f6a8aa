-- A refusal leaves the lists; the entry of an accepted line is stored behind those standing, where there is room.
use mathlib.Core.Path.{refl, sym, ap, ◌∙◌}
use Rattle.table.proofs.Stored.{accepting, returned, owned_whole, fits_accepted, entry_stored, schemes_stored, entry_refused}
use Rattle.table.proofs.Table.enter.Goals as goal

pub returns-in-Err : goal.returns-in-Err
returns-in-Err c = returned _ _ c.args.self _ c.refused.ensures (entry_refused _ _ _ c.in-Err.ensures, refl)

pub store-requires : goal.store-requires
store-requires c = fits_accepted _ _ (sym c.in_default.ensures)

pub returns : goal.returns
returns c = returned _ _ c.args.self _ (c.accepted.ensures ∙ ap accepting c.store.ensures)
    (entry_stored c.args.self (owned_whole _ c.well_formed.0) _ (sym c.in_default.ensures), schemes_stored c.args.self _)
