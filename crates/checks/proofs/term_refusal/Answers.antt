-- Each way returns the first check that fails, or none.
use mathlib.Core.Path.{refl, ◌∙◌}
use borrow.Author.Rules.{rules}
use Rattle.checks.proofs.Refusals.{passed_on, refusal_some, term_misplaced, refused_5, refused_6, refused_7, refused_8, term_accepted}
use Rattle.checks.proofs.term_refusal.Goals as goal

pub returns-in_err-place_refusal : goal.returns-in_err-place_refusal
returns-in_err-place_refusal c = λ m params terms free. passed_on _ _ (search rules) ∙ term_misplaced m _ _ _ _ terms c.in_err-place_refusal.ensures (refusal_some _)

pub returns-then-not-parameter_declared : goal.returns-then-not-parameter_declared
returns-then-not-parameter_declared c = λ m params terms free. refused_5 m _ _ _ _ terms c.in_ok-place_refusal.ensures refl _ params _ c.parameter_declared.ensures c.if-not-parameter_declared.true

pub returns-then-not-children_below : goal.returns-then-not-children_below
returns-then-not-children_below c = λ m params terms free. refused_6 m _ _ _ _ terms c.in_ok-place_refusal.ensures refl _ params _ c.parameter_declared.ensures
    c.if-not-parameter_declared.false _ c.children_below.ensures c.if-not-children_below.true

pub returns-then-not-children_free : goal.returns-then-not-children_free
returns-then-not-children_free c = λ m params terms free. refused_7 m _ _ _ _ terms c.in_ok-place_refusal.ensures refl _ params _ c.parameter_declared.ensures
    c.if-not-parameter_declared.false _ c.children_below.ensures c.if-not-children_below.false _ free.seven c.if-not-children_free.true

pub returns-then-not-binder_free : goal.returns-then-not-binder_free
returns-then-not-binder_free c = λ m params terms free. refused_8 m _ _ _ _ terms c.in_ok-place_refusal.ensures refl _ params _ c.parameter_declared.ensures c.if-not-parameter_declared.false _
    c.children_below.ensures c.if-not-children_below.false _ free.seven c.if-not-children_free.false _ free.eight c.if-not-binder_free.true

pub returns : goal.returns
returns c = λ m params terms free. term_accepted m _ _ _ _ terms c.in_ok-place_refusal.ensures refl _ params _ c.parameter_declared.ensures c.if-not-parameter_declared.false
    _ c.children_below.ensures c.if-not-children_below.false _ free.seven c.if-not-children_free.false _ free.eight c.if-not-binder_free.false
