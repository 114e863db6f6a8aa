-- The loop has filled the variables of the type rows so far.
use lib.ListN.{take}
use Rattle.slots.specs.Filling.{in_types, VariablesFilled}
use Rattle.slots.proofs.fill_variables_of_types.Given as goal

abbrev pub invariant-loop-row : goal.invariant-loop-row
invariant-loop-row l = VariablesFilled l.first (in_types (take l.row-index l.types)) l.words l.initial.variables l.variables
