-- `setup::note_params`: the nodes of the parameters below p are noted.
use Rattle.model.specs.Machine.{param_in}
use Rattle.setup.specs.Passes.{FirstHold}
use Rattle.setup.proofs.note_params.Given as goal

abbrev pub invariant-loop-p : goal.invariant-loop-p
invariant-loop-p l = FirstHold (λ x. (param_in l.params x).qualifier) 64 l.p l.qualifiers × FirstHold (λ x. (param_in l.params x).typerow) 64 l.p l.typerows
