-- Each way returns the first check that fails, or none.
use mathlib.Core.Path.{refl, ◌∙◌}
use borrow.Author.Rules.{rules}
use Rattle.checks.proofs.Refusals.{passed_on, refusal_some, param_misplaced, param_accepted, type_undeclared}
use Rattle.checks.proofs.param_refusal.Goals as goal

pub returns-in_err-place_refusal : goal.returns-in_err-place_refusal
returns-in_err-place_refusal c = λ m types params. passed_on _ _ (search rules) ∙ param_misplaced m _ _ _ _ params c.in_err-place_refusal.ensures (refusal_some _)

pub returns-then-types-param : goal.returns-then-types-param
returns-then-types-param c = λ m types params. type_undeclared m _ _ _ _ params c.in_ok-place_refusal.ensures refl _ types c.if-types-param.true

pub returns : goal.returns
returns c = λ m types params. param_accepted m _ _ _ _ params c.in_ok-place_refusal.ensures refl _ types c.if-types-param.false
