-- The count or the limit, whichever is less, is the length of what stands.
use Rattle.table.proofs.Counts.{terms_counted}
use Rattle.table.proofs.Table.term_rows.Goals as goal

pub returns : goal.returns
returns c = terms_counted c.args.self c.well_formed.0 _ c.filled.ensures
