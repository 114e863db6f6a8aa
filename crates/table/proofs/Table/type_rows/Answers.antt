-- The count or the limit, whichever is less, is the length of what stands.
use Rattle.table.proofs.Counts.{types_counted}
use Rattle.table.proofs.Table.type_rows.Goals as goal

pub returns : goal.returns
returns c = types_counted c.args.self c.well_formed.0 _ c.filled.ensures
