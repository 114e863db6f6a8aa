-- As many bytes as there is room for are put behind those that are kept.
use Rattle.script.proofs.Keeping.{keep_none, keep_some}
use Rattle.script.proofs.keep.Goals as goal

pub returns-then-kept-count : goal.returns-then-kept-count
returns-then-kept-count c = keep_none _ _ _ c.if-kept-count.true

pub returns : goal.returns
returns c = keep_some _ _ _ _ _ c.if-kept-count.false c.min-size.ensures c.copy_from_slice.ensures.after
