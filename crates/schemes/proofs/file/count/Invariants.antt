-- The lines that were passed, and those of the rest, are all lines; each turn passes one.
use Prim.Native.Nat.{◌-◌}
use lib.ListN.{length}
use Rattle.schemes.proofs.Lines.{Counted}
use Rattle.schemes.proofs.file.count.Given as goal

abbrev pub invariant-loop-from : goal.invariant-loop-from
invariant-loop-from l = Counted l.file l.n l.from

abbrev pub decreases-loop-from : goal.decreases-loop-from
decreases-loop-from l = length l.file - l.from
