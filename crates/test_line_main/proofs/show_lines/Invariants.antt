-- Each line ends past its start, so less of the text is left.
use Prim.Native.Nat.{◌-◌}
use lib.ListN.{length}
use Rattle.test_line_main.proofs.show_lines.Given as goal

abbrev pub invariant-loop-from : goal.invariant-loop-from
invariant-loop-from l = Unit {0}

abbrev pub decreases-loop-from : goal.decreases-loop-from
decreases-loop-from l = length l.text - l.from
