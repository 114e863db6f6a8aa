-- A fresh table is ready, and no byte is kept.
use native.Mathlib.Omega.{arith}
use Rattle.scheme.specs.Six.{six_table}
use Rattle.table.proofs.Follows.{fresh_ready}
use Rattle.session.proofs.Talk.fresh.Goals as goal

pub invariant_of-result : goal.invariant_of-result
invariant_of-result c = record { ready = fresh_ready six_table c.fresh.ensures.0 c.fresh.ensures.1; kept = omega arith }
