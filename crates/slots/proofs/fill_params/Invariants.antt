-- The loop has filled the slots of the first p parameters.
use Rattle.model.specs.Machine.{param_in}
use Rattle.slots.specs.Filling.{SlotsFilled}
use Rattle.slots.proofs.fill_params.Given as goal

abbrev pub invariant-loop-p : goal.invariant-loop-p
invariant-loop-p l = SlotsFilled l.p (λ k. (param_in l.params k).qualifier) (λ k. (param_in l.params k).typerow) l.words l.kinds l.paramwords l.paramshapes
