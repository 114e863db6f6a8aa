-- `pending::gather::add_types`: the pairs of the rows below x are added.
use Rattle.pending.proofs.Gathering.{forms_more}
use Rattle.pending.proofs.gather.add_types.Goals as goal

pub loop-x-preserved : goal.loop-x-preserved
loop-x-preserved c = forms_more c.loop-x.invariant c.add_form-n.ensures
