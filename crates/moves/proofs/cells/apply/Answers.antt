use native.Mathlib.Omega.{arith}
use Rattle.moves.proofs.Applying.{spent_at, bound_at, no_lam}
use Rattle.moves.proofs.cells.apply.Goals as goal

pub returns-then-p-budget-clause-applied : goal.returns-then-p-budget-clause-applied
returns-then-p-budget-clause-applied c = spent_at c.if-p-budget.true

pub returns-in_default : goal.returns-in_default
returns-in_default c = record { applied = no_lam c.in_default.not-Lam; celled = c.requires.fact_2 }

pub returns-clause-applied : goal.returns-clause-applied
returns-clause-applied c = bound_at c.in-Lam.is c.if-p-budget.false (omega arith) (omega arith) c.requires.fact_2 c.inside.ensures
