-- The answers to the lines left come after those so far; each turn leaves fewer bytes.
use Prim.Native.Nat.{◌-◌}
use mathlib.Core.Path.{◌≡◌}
use lib.ListN.{length}
use Rattle.script.proofs.Conversing.{Left}
use Rattle.script.proofs.converse.Given as goal

abbrev pub invariant-loop-from : goal.invariant-loop-from
invariant-loop-from g l = Left l.script l.initial.output l.output l.table l.from l.at × (length l.output ≡ length l.initial.output)

abbrev pub decreases-loop-from : goal.decreases-loop-from
decreases-loop-from g l = length l.script - l.from
