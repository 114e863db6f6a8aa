-- A comma and the next name fit, for a name has at most five bytes.
use native.Mathlib.Omega.{arith}
use mathlib.Core.List.{append_assoc}
use lib.ListN.{length-append}
use Rattle.schemes.proofs.Names.{first_room, held_first, held_room, held_more}
use Rattle.schemes.proofs.store.names_of.Goals as goal

pub put-requires : goal.put-requires
put-requires c = rw c.new-joined.ensures (omega (arith, first_room _ _ c.requires _ c.name.ensures))

pub loop-k-init : goal.loop-k-init
loop-k-init c = rw (c.put.ensures, c.new-joined.ensures) (held_first _ _ c.requires _ c.name.ensures)

pub put-requires-in-loop-k-2 : goal.put-requires-in-loop-k-2
put-requires-in-loop-k-2 c =
    let room = held_room _ _ _ c.requires c.loop-k-test.true _ c.name-in-loop-k.ensures _ c.loop-k.invariant in
    rw (c.put-in-loop-k.ensures, length-append) room

pub loop-k-preserved : goal.loop-k-preserved
loop-k-preserved c =
    rw (c.put-in-loop-k-2.ensures, c.put-in-loop-k.ensures, append_assoc)
    (held_more _ _ _ c.requires c.loop-k-test.true _ c.name-in-loop-k.ensures _ c.loop-k.invariant)
