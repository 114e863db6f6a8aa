-- Line k is, at each turn, the line of the rest that as many lines lead to as are left.
use Prim.Native.Nat.{◌-◌}
use lib.ListN.{length}
use Rattle.schemes.proofs.Lines.{LineFrom}
use Rattle.schemes.proofs.file.start.Given as goal

abbrev pub invariant-loop-from : goal.invariant-loop-from
invariant-loop-from l = LineFrom l.file l.k l.from l.left

abbrev pub decreases-loop-from : goal.decreases-loop-from
decreases-loop-from l = length l.file - l.from
