-- The set has each number below p.
use native.Mathlib.Nat.{not-suc-le-zero}
use native.Mathlib.Omega.{arith}
use mathlib.Core.Bool.{false≢true}
use mathlib.Core.Path.{sym, ◌∙◌}
use borrow.Author.Count.{below_more}
use Rattle.closed.proofs.members.holds_all.Goals as goal

pub loop-p-init : goal.loop-p-init
loop-p-init c = λ q below. absurd (not-suc-le-zero below)

pub returns-then-not-holds : goal.returns-then-not-holds
returns-then-not-holds c = record { all = λ e. absurd (false≢true e); not-all = λ e h. false≢true (sym (sym c.holds.ensures ∙ c.if-not-holds.true) ∙ h _ c.loop-p-test.true) }

pub loop-p-preserved : goal.loop-p-preserved
loop-p-preserved c = below_more _ _ c.loop-p.invariant (sym c.holds.ensures ∙ c.if-not-holds.false)

pub returns : goal.returns
returns c = record { all = λ e q below. c.loop-p.invariant q (omega arith); not-all = λ e h. false≢true (sym e) }
