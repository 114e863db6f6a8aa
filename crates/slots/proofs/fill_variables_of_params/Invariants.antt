-- The loop has filled the variables of the parameters so far.
use lib.ListN.{take}
use Rattle.slots.specs.Filling.{in_params, VariablesFilled}
use Rattle.slots.proofs.fill_variables_of_params.Given as goal

abbrev pub invariant-loop-param : goal.invariant-loop-param
invariant-loop-param l = VariablesFilled l.first (in_params (take l.param-index l.params)) l.words l.initial.variables l.variables
