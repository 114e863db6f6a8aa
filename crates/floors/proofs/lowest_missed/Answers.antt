-- The loop has found every floor met below p.
use native.Mathlib.Omega.{arith}
use mathlib.Core.Bool.{false≢true}
use mathlib.Core.Path.{sym, ◌∙◌}
use borrow.Author.Count.{below_more}
use Rattle.floors.proofs.lowest_missed.Goals as goal

pub loop-p-init : goal.loop-p-init
loop-p-init c = (λ r h. absurd (omega arith), omega arith)

pub is_under-requires : goal.is_under-requires
is_under-requires c = let codes = c.requires.fact_2.1 c.loop-p.p (omega arith) in record { fact_1 = c.requires.fact_1; fact_2 = (omega arith, omega arith) }

pub returns-then-not-is_under : goal.returns-then-not-is_under
returns-then-not-is_under c = (omega arith, c.loop-p.invariant.0, λ holds. false≢true (sym c.if-not-is_under.true ∙ c.is_under.ensures ∙ holds))

pub loop-p-preserved : goal.loop-p-preserved
loop-p-preserved c = (below_more _ _ c.loop-p.invariant.0 (sym c.is_under.ensures ∙ c.if-not-is_under.false), omega arith)

pub returns : goal.returns
returns c = λ p h. c.loop-p.invariant.0 p (omega arith)
