-- The loop has left to write the lines of the slots from i on.
use Rattle.report.proofs.Lines.{turn_room, turn_left, turn_end}
use Rattle.report.proofs.write_slots.Goals as goal

pub write_slot-next-requires : goal.write_slot-next-requires
write_slot-next-requires c = turn_room _ _ _ c.loop-i.invariant c.loop-i-test.true

pub loop-i-preserved : goal.loop-i-preserved
loop-i-preserved c = turn_left _ _ _ c.loop-i.invariant c.loop-i-test.true c.write_slot-next.ensures

pub returns : goal.returns
returns c = turn_end _ _ _ c.loop-i.invariant c.loop-i-test.false
