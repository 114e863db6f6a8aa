-- The loop has left to write the lines of the slots from i on.
use Prim.Native.Nat.{◌-◌}
use Rattle.model.specs.Report.{lines}
use Rattle.report.specs.Writing.{words_in, slot_at}
use Rattle.report.proofs.Writing.{Left}
use Rattle.report.proofs.write_slots.Given as goal

abbrev pub invariant-loop-i : goal.invariant-loop-i
invariant-loop-i l = Left l.buffer l.next (lines (slot_at (words_in l.words.bytes) l.tag l.codes l.shapes) l.i (l.count - l.i)) l.initial.buffer l.at (lines (slot_at (words_in l.words.bytes) l.tag l.codes l.shapes) 0 l.count)
