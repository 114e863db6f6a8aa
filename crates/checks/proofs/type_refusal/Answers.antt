-- Each way returns the first check that fails, or none.
use mathlib.Core.Path.{refl, ◌∙◌}
use borrow.Author.Rules.{rules}
use Rattle.checks.proofs.Refusals.{passed_on, refusal_some, type_misplaced, type_accepted, part_not_below}
use Rattle.checks.proofs.type_refusal.Goals as goal

pub returns-in_err-place_refusal : goal.returns-in_err-place_refusal
returns-in_err-place_refusal c = λ m count. passed_on _ _ (search rules) ∙ type_misplaced m _ _ _ _ count c.in_err-place_refusal.ensures (refusal_some _)

pub returns-then-not-parts_below : goal.returns-then-not-parts_below
returns-then-not-parts_below c = λ m count. part_not_below m _ _ _ _ count c.in_ok-place_refusal.ensures refl _ c.parts_below.ensures c.if-not-parts_below.true

pub returns : goal.returns
returns c = λ m count. type_accepted m _ _ _ _ count c.in_ok-place_refusal.ensures refl _ c.parts_below.ensures c.if-not-parts_below.false
