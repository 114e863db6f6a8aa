-- The line of a refused add, or what is printed of the infer call.
use Rattle.placement.proofs.Exits.{add_room, add_printed, inference_printed}
use Rattle.placement.proofs.print.Goals as goal

pub load-loaded-requires : goal.load-loaded-requires
load-loaded-requires c = c.six.ensures.1

pub write_pair-requires : goal.write_pair-requires
write_pair-requires c = add_room _ _ _ c.load-loaded.ensures c.requires c.if-loaded-ne0.true

pub returns-then-loaded-ne0 : goal.returns-then-loaded-ne0
returns-then-loaded-ne0 c = let p = add_printed _ _ _ (rw c.six.ensures.0 at c.load-loaded.ensures) c.requires c.if-loaded-ne0.true _ _ c.write_pair.ensures in
    record { printed = p.0; size = p.1 }

pub returns : goal.returns
returns c = let p = inference_printed _ _ _ (rw c.six.ensures.0 at c.load-loaded.ensures) c.requires _ _ c.if-loaded-ne0.false c.print.ensures in
    record { printed = p.0; size = p.1 }
