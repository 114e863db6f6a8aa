-- The untagged form of each step is the plain domain's step; so the untagged form of a run is the plain run, with the same counts.
use Prim.Native.Nat.{ℕ}
use mathlib.Core.Bool.{Bool, true, false, cond}
use mathlib.Core.Path.{◌≡◌, refl, ap₂, subst}
use lib.Dec.{eqb}
use Rattle.scheme.specs.Operation.{keeps}
use Rattle.dryrun.specs.Expression.{Expression, number, variable, function, apply, operate, Value, a_number, a_function, substituted}
use Rattle.dryrun.specs.Transition.{Rule, Kind, operation, calculated, result_tag, Step, applies, operates, in_function, in_argument, in_left, in_right, Plain, untagged, untagged_form}
use Rattle.dryrun.specs.Run.{Counts, Outcome, untagged_answer, untagged_outcome, Runs, ends_number, ends_function, out_of_budget, too_deep, overflows, steps_on, Reaches, itself, further}

untagged_value : {v : Expression} → Value v → Value (untagged_form v)
unfolding untagged_form
untagged_value a_number = a_number
untagged_value a_function = a_function

-- What has an untagged form that is a value is one.
value_tagged : (v : Expression) → Value (untagged_form v) → Value v
unfolding untagged_form
value_tagged (number n tag) h = a_number
value_tagged (function x e) h = a_function
value_tagged (variable _) h = elim h [ ]
value_tagged (apply _ _) h = elim h [ ]
value_tagged (operate _ _ _) h = elim h [ ]

cond_untagged : (b : Bool) (x y : Expression) → untagged_form (cond b x y) ≡ cond b (untagged_form x) (untagged_form y)
cond_untagged true x y = refl
cond_untagged false x y = refl

-- Substitution and the untagged form commute.
untagged_substituted : (p : ℕ) (v e : Expression) → untagged_form (substituted p v e) ≡ substituted p (untagged_form v) (untagged_form e)
unfolding untagged_form substituted
untagged_substituted p v (number n tag) = refl
untagged_substituted p v (variable x) = cond_untagged (eqb x p) v (variable x)
untagged_substituted p v (function x e) =
    rw (cond_untagged (eqb x p) (function x e) (function x (substituted p v e)), untagged_substituted p v e) refl
untagged_substituted p v (apply f a) = ap₂ apply (untagged_substituted p v f) (untagged_substituted p v a)
untagged_substituted p v (operate o l r) = ap₂ (operate o) (untagged_substituted p v l) (untagged_substituted p v r)

plain_result : (o : ℕ) → result_tag o 0 ≡ 0
unfolding result_tag
plain_result o = go (keeps o)
  where
    go : (b : Bool) → ◌≡◌ {A = ℕ} (cond b 0 0) 0
    go true = refl
    go false = refl

module _ {W : Rule} where
  pub untagged_step : {c : ℕ} {k : Kind} {e e' : Expression} → Step W c k e e' → Step Plain c k (untagged_form e) (untagged_form e')
  unfolding untagged_form
  untagged_step (applies {p} {e} {v} h) = rw (untagged_substituted p v e) (applies (untagged_value h))
  untagged_step (operates {o} {x} {y} {tag} h) =
      subst (λ (t : ℕ). Step Plain 0 (operation (calculated o x y)) (operate o (number x 0) (number y 0)) (number (calculated o x y) t)) (plain_result o) (operates untagged)
  untagged_step (in_function s) = in_function (untagged_step s)
  untagged_step (in_argument h s) = in_argument (untagged_value h) (untagged_step s)
  untagged_step (in_left s) = in_left (untagged_step s)
  untagged_step (in_right h s) = in_right (untagged_value h) (untagged_step s)

  -- "at each step its untagged form is the plain run's"
  pub untagged_reaches : {e e'' : Expression} {made made'' : Counts} → Reaches W e made e'' made'' → Reaches Plain (untagged_form e) made (untagged_form e'') made''
  untagged_reaches itself = itself
  untagged_reaches (further s fits r) = further (untagged_step s) fits (untagged_reaches r)

-- The whole plain run ends alike: the same number, counts and refusal.
pub untagged_runs : {W : Rule} {budget : ℕ} {e : Expression} {made : Counts} {o : Outcome} → Runs W budget e made o →
    Runs Plain budget (untagged_form e) made (untagged_outcome o)
unfolding untagged_form untagged_answer
untagged_runs ends_number = ends_number
untagged_runs ends_function = ends_function
untagged_runs (out_of_budget {e} open-e all_made) = out_of_budget (λ h. open-e (value_tagged e h)) all_made
untagged_runs (too_deep s deep) = too_deep (untagged_step s) deep
untagged_runs (overflows left shallow s over) = overflows left shallow (untagged_step s) over
untagged_runs (steps_on left shallow s fits r) = steps_on left shallow (untagged_step s) fits (untagged_runs r)
