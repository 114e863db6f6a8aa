-- The loop has left to write the lines of the variables from k on.
use Prim.Native.Nat.{◌<◌}
use native.Mathlib.Omega.{arith}
use lib.ListN.{length}
use Rattle.report.proofs.Lines.{variable_read, turn_room, turn_left, turn_end}
use Rattle.report.proofs.write_variables.Goals as goal

pub write_variable-next-requires : goal.write_variable-next-requires
write_variable-next-requires c = let below : c.loop-k.k < length c.args.variables.now = omega arith in
    rw (variable_read _ _ _ below) at (turn_room _ _ 64 c.loop-k.invariant c.loop-k-test.true)

pub loop-k-preserved : goal.loop-k-preserved
loop-k-preserved c = let below : c.loop-k.k < length c.args.variables.now = omega arith in
    turn_left _ _ 64 c.loop-k.invariant c.loop-k-test.true (rw (variable_read _ _ _ below) c.write_variable-next.ensures)

pub returns : goal.returns
returns c = turn_end _ _ 64 c.loop-k.invariant c.loop-k-test.false
