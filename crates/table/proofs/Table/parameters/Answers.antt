-- The count or the limit, whichever is less, is the length of what stands.
use Rattle.table.proofs.Counts.{params_counted}
use Rattle.table.proofs.Table.parameters.Goals as goal

pub returns : goal.returns
returns c = params_counted c.args.self c.well_formed.0 _ c.filled.ensures
