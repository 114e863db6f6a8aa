-- `setup::first_kinds`: the places below x hold what the array holds there.
use Rattle.setup.proofs.Starting.{hold_none}
use Rattle.setup.proofs.first_kinds.Goals as goal

pub loop-x-init : goal.loop-x-init
loop-x-init c = hold_none _ _
