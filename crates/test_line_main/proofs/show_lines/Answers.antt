-- A line ends within the text.
use Rattle.std.proofs.Common.{rules}
use Rattle.lines.proofs.Lines.{end_bound}
use Rattle.test_line_main.proofs.show_lines.Goals as goal

pub slice_bounds-show_line-end : goal.slice_bounds-show_line-end
slice_bounds-show_line-end c = search (end_bound, rules)
