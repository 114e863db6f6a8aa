-- `rows::call_row`: each way out is one law over the state before and after.
use Rattle.rows.proofs.CallRows.{call_conflict, call_apart, call_classes, call_fine, call_broken, call_parted}
use Rattle.rows.proofs.call_row.Goals as goal

pub returns-in-Err : goal.returns-in-Err
returns-in-Err c = let call = c.call in
    call_conflict _ _ _ _ _ _ _ _ _ c.requires.fact_4 c.requires.fact_5 _ _ _ call.result call.ensures.fact_1 call.ensures.fact_2 c.makes_arrows-closes.new.crowded _ c.in-Err.is

pub returns-in_default : goal.returns-in_default
returns-in_default c = let call = c.call in
    call_apart _ _ _ _ _ _ _ _ _ c.requires.fact_4 c.requires.fact_5 _ _ _ call.result call.ensures.fact_1 call.ensures.fact_2 c.in-Ok.is (rw c.in_default.is at c.unite_all.ensures)

pub returns-in_default-look_if : goal.returns-in_default-look_if
returns-in_default-look_if c = let call = c.call in
    let foreseen = rw (c.row_type.ensures, c.part.ensures.0) at c.makes_arrows-closes.ensures in
    call_parted _ _ _ _ _ _ _ _ _ c.requires.fact_4 c.requires.fact_5 _ _ _ call.result call.ensures.fact_1 call.ensures.fact_2 c.in-Ok.is c.in-Ok-unite_all.ensures foreseen call.ensures.fact_3 (rw c.in_default-look_if.is at c.look_if.ensures)

pub within_bounds-requires : goal.within_bounds-requires
within_bounds-requires c = let call = c.call in
    let foreseen = rw (c.row_type.ensures, c.part.ensures.0) at c.makes_arrows-closes.ensures in
    let classes = call_classes _ _ _ _ _ _ _ _ _ c.requires.fact_4 c.requires.fact_5 _ _ _ call.result call.ensures.fact_1 call.ensures.fact_2 c.in-Ok.is c.in-Ok-unite_all.ensures foreseen call.ensures.fact_3 c.in-Ok-look_if.ensures in
    (classes.lattice, classes.size, classes.codes)

pub returns-else-within_bounds : goal.returns-else-within_bounds
returns-else-within_bounds c = let call = c.call in
    let foreseen = rw (c.row_type.ensures, c.part.ensures.0) at c.makes_arrows-closes.ensures in
    call_broken _ _ _ _ _ _ _ _ _ c.requires.fact_4 c.requires.fact_5 _ _ _ call.result call.ensures.fact_1 call.ensures.fact_2 c.in-Ok.is c.in-Ok-unite_all.ensures foreseen call.ensures.fact_3 c.in-Ok-look_if.ensures c.within_bounds.ensures c.if-within_bounds.false

pub returns-then-within_bounds : goal.returns-then-within_bounds
returns-then-within_bounds c = let call = c.call in
    let foreseen = rw (c.row_type.ensures, c.part.ensures.0) at c.makes_arrows-closes.ensures in
    call_fine _ _ _ _ _ _ _ _ _ c.requires.fact_4 c.requires.fact_5 _ _ _ call.result call.ensures.fact_1 call.ensures.fact_2 c.in-Ok.is c.in-Ok-unite_all.ensures foreseen call.ensures.fact_3 c.in-Ok-look_if.ensures c.within_bounds.ensures c.if-within_bounds.true
