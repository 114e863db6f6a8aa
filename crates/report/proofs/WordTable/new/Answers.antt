-- The names before name k are whole, and the rest of the text has what the others lack.
use native.Mathlib.Omega.{arith}
use Rattle.report.proofs.Tables.{making_none, walked, walk_comma, walk_room, walk_letter}
use Rattle.report.proofs.WordTable.new.Goals.{then-byte-eq44, else-byte-eq44}
use Rattle.report.proofs.WordTable.new.Goals as goal

pub loop-byte-init : goal.loop-byte-init
loop-byte-init c = making_none _ c.requires

pub overflow_cast-bytes : goal.overflow_cast-bytes
overflow_cast-bytes c = omega (arith, walk_room _ c.requires _ _ _ c.loop-byte.invariant c.loop-byte-test.true c.if-byte-eq44.false)

pub overflow_add-bytes : goal.overflow_add-bytes
overflow_add-bytes c = omega (arith, walk_room _ c.requires _ _ _ c.loop-byte.invariant c.loop-byte-test.true c.if-byte-eq44.false)

pub bounds-bytes-k : goal.bounds-bytes-k
bounds-bytes-k c = omega (arith, walk_room _ c.requires _ _ _ c.loop-byte.invariant c.loop-byte-test.true c.if-byte-eq44.false)

pub overflow_add-bytes-else-byte-eq44 : goal.overflow_add-bytes-else-byte-eq44
overflow_add-bytes-else-byte-eq44 c = omega (arith, walk_room _ c.requires _ _ _ c.loop-byte.invariant c.loop-byte-test.true c.if-byte-eq44.false)

pub loop-byte-preserved : goal.loop-byte-preserved
loop-byte-preserved c = elim c.if-byte-eq44.branch [
  | then-byte-eq44 w ↦ rw (w.bytes-is, w.k-is) (walk_comma _ c.requires _ _ _ c.loop-byte.invariant c.loop-byte-test.true w.if-byte-eq44.true)
  | else-byte-eq44 w ↦ rw (w.bytes-is, w.k-is) (walk_letter _ c.requires _ _ _ c.loop-byte.invariant c.loop-byte-test.true w.if-byte-eq44.false)
]

pub returns : goal.returns
returns c = (walked _ c.requires _ _ _ c.loop-byte.invariant c.loop-byte-test.false).1

pub invariant_of-result : goal.invariant_of-result
invariant_of-result c = record { tabled = (walked _ c.requires _ _ _ c.loop-byte.invariant c.loop-byte-test.false).0 }
