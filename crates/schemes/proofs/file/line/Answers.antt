-- A line stands from its start to its end.
use Rattle.schemes.proofs.Lines.{line_bound, line_whole}
use Rattle.schemes.proofs.file.line.Goals as goal

pub slice_bounds-result-end : goal.slice_bounds-result-end
slice_bounds-result-end c = line_bound _ c.args.k _ _ c.start-from.ensures c.line_end-to.ensures

pub returns : goal.returns
returns c = line_whole _ _ _ _ c.start-from.ensures c.line_end-to.ensures
