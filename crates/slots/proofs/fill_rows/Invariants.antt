-- The loop has filled the slots of the first i rows.
use Rattle.layout.specs.Layout.{row_type, row_qualifier}
use Rattle.slots.specs.Filling.{SlotsFilled}
use Rattle.slots.proofs.fill_rows.Given as goal

abbrev pub invariant-loop-i : goal.invariant-loop-i
invariant-loop-i l = SlotsFilled l.i (λ k. row_qualifier k) (λ k. row_type k) l.words l.kinds l.rowwords l.rowshapes
