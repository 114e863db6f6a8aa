-- Each operation gets its highest scheme.
use native.Mathlib.Omega.{arith}
use mathlib.Core.Path.{sym, ◌∙◌}
use Rattle.derive.proofs.Filling.{best_some, highest_more, highest_missing}
use Rattle.derive.proofs.order.Order.highest.Goals as goal

pub returns-in_err-highest : goal.returns-in_err-highest
returns-in_err-highest c = rw c.from_residual.ensures (highest_missing _ _ _ _ _ c.loop-o-test.true c.supporters.ensures (sym c.in_err-highest.was ∙ c.greatest.ensures))

pub overflow_cast-highest : goal.overflow_cast-highest
overflow_cast-highest c = omega (arith, c.args.self.now.few, best_some _ _ c.supporters.result c.in_ok-highest.field-0 (sym c.in_ok-highest.was ∙ c.greatest.ensures))

pub loop-o-preserved : goal.loop-o-preserved
loop-o-preserved c = highest_more _ _ _ _ _ _ _ c.loop-o.invariant c.loop-o-test.true c.supporters.ensures (sym c.in_ok-highest.was ∙ c.greatest.ensures)

pub returns : goal.returns
returns c = λ o below. c.loop-o.invariant.held o (omega arith)
