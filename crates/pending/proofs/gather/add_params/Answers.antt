-- `pending::gather::add_params`: the pairs of the parameters below p are added.
use Rattle.pending.proofs.Gathering.{params_more}
use Rattle.pending.proofs.gather.add_params.Goals as goal

pub loop-p-preserved : goal.loop-p-preserved
loop-p-preserved c = params_more c.loop-p.invariant c.add-next.ensures
