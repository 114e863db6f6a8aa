-- `rows::bind_row`: each way out is one law over the state before and after.
use native.Mathlib.Omega.{arith}
use mathlib.Core.Path.{refl}
use Rattle.rows.proofs.Binding.{bind_cyclic, note_ready, bind_classes, bind_apart, bind_fine, bind_broken}
use Rattle.rows.proofs.bind_row.Goals as goal

pub returns-then-not-bind : goal.returns-then-not-bind
returns-then-not-bind c = bind_cyclic _ _ _ _ _ _ _ _ c.requires.fact_1 c.requires.fact_3 c.requires.fact_4 c.requires.fact_5 (rw c.if-not-bind.true at c.bind.ensures)

pub returns-in_default : goal.returns-in_default
returns-in_default c = let arrow = (rw c.if-not-bind.false at c.bind.ensures).bound refl in
    rw arrow (bind_apart _ _ _ _ _ _ _ _ c.requires.fact_1 c.requires.fact_3 c.requires.fact_4 c.requires.fact_5 (rw (arrow, c.in_default.is) at c.function_plain.ensures))

pub note-noted-requires : goal.note-noted-requires
note-noted-requires c = let arrow = (rw c.if-not-bind.false at c.bind.ensures).bound refl in
    let room = note_ready _ _ _ _ _ _ _ _ c.requires.fact_1 c.requires.fact_3 c.requires.fact_4 c.requires.fact_5 (rw arrow at c.in-Ok.ensures) in
    (omega arith, (room.0, omega (arith, c.row_qualifier-q.ensures, room.1), omega (arith, c.row_type-x.ensures, room.2)))

pub within_bounds-requires : goal.within_bounds-requires
within_bounds-requires c = let arrow = (rw c.if-not-bind.false at c.bind.ensures).bound refl in
    let classes = bind_classes _ _ _ _ _ _ _ _ c.requires.fact_1 c.requires.fact_3 c.requires.fact_4 c.requires.fact_5 (rw arrow at c.in-Ok.ensures) in
    (classes.lattice, classes.size, classes.codes)

pub returns-then-not-within_bounds : goal.returns-then-not-within_bounds
returns-then-not-within_bounds c = let arrow = (rw c.if-not-bind.false at c.bind.ensures).bound refl in
    let noted = rw (c.row_qualifier-q.ensures, c.row_type-x.ensures) at c.note-noted.ensures in
    rw arrow (bind_broken _ _ _ _ _ _ _ _ c.requires.fact_1 c.requires.fact_3 c.requires.fact_4 c.requires.fact_5 (rw arrow at c.in-Ok.ensures) noted c.within_bounds.ensures c.if-not-within_bounds.true)

pub returns : goal.returns
returns c = let arrow = (rw c.if-not-bind.false at c.bind.ensures).bound refl in
    let noted = rw (c.row_qualifier-q.ensures, c.row_type-x.ensures) at c.note-noted.ensures in
    rw arrow (bind_fine _ _ _ _ _ _ _ _ c.requires.fact_1 c.requires.fact_3 c.requires.fact_4 c.requires.fact_5 (rw arrow at c.in-Ok.ensures) noted c.within_bounds.ensures c.if-not-within_bounds.false)
