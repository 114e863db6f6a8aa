-- `rows::bind`: the root has the kind of the arrow, or none again.
use native.Mathlib.Omega.{arith}
use Rattle.rows.proofs.Binding.{unbound}
use Rattle.rows.proofs.bind.Goals as goal

pub returns : goal.returns
returns c = unbound (omega (arith, c.arrow.ensures, c.row_type.ensures)) c.requires.fact_3.2.unknown (c.finite_from.ensures c.if-finite_from.false)
