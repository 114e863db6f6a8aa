-- `setup::note_params`: the nodes of the parameters below p are noted.
use Rattle.setup.proofs.Starting.{hold_none}
use Rattle.setup.proofs.note_params.Goals as goal

pub loop-p-init : goal.loop-p-init
loop-p-init c = (hold_none _ 64, hold_none _ 64)
