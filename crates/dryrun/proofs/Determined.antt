-- Each expression has at most one next step, and each run one outcome.
use Prim.Native.Nat.{ℕ, ◌≤◌}
use native.Mathlib.Omega.{arith}
use mathlib.Core.Path.{◌≡◌, refl, sym, subst}
use Rattle.dryrun.specs.Expression.{Expression, number, variable, function, apply, operate, Value, a_number, a_function}
use Rattle.dryrun.specs.Transition.{Rule, Kind, operation, calculated, result_tag, Step, applies, operates, in_function, in_argument, in_left, in_right}
use Rattle.dryrun.specs.Run.{Counts, Outcome, largest_number, Fits, in_range, Runs, ends_number, ends_function, out_of_budget, too_deep, overflows, steps_on}

-- A value is no application and no operation.
abbrev pub Finished : Expression → Type 0
Finished (number n tag) = Unit {0}
Finished (variable x) = ⊥
Finished (function x e) = Unit {0}
Finished (apply f a) = ⊥
Finished (operate o l r) = ⊥

pub value_finished : {v : Expression} → Value v → Finished v
value_finished a_number = tt
value_finished a_function = tt

pub record Same (c c' : ℕ) (k k' : Kind) (e e' : Expression) : Type 0 where
  pub contexts : c ≡ c'
  pub kind : k ≡ k'
  pub after : e ≡ e'

number_fits : {n : ℕ} → Fits (operation n) → n ≤ largest_number
number_fits (in_range h) = h

module _ {W : Rule} where
  step_unfinished : {c : ℕ} {k : Kind} {v e : Expression} → Step W c k v e → Finished v → ⊥
  step_unfinished (applies v) f = f
  step_unfinished (operates h) f = f
  step_unfinished (in_function s) f = f
  step_unfinished (in_argument w s) f = f
  step_unfinished (in_left s) f = f
  step_unfinished (in_right w s) f = f

  -- A value makes no step.
  pub value_stays : {c : ℕ} {k : Kind} {v e : Expression} → Value v → Step W c k v e → ⊥
  value_stays v s = step_unfinished s (value_finished v)

  -- The step of an operation on two numbers is that operation.
  operates_same : {c : ℕ} {k : Kind} {e e'' : Expression} (o x y tag : ℕ) → Step W c k e e'' → e ≡ operate o (number x tag) (number y tag) →
      Same 0 c (operation (calculated o x y)) k (number (calculated o x y) (result_tag o tag)) e''
  operates_same o x y tag (applies v) h = cc h
  operates_same o x y tag (operates {o = o'} {x = x'} {y = y'} {tag = tag'} w) h =
      let eo : o ≡ o' = cc h in let ex : x ≡ x' = cc h in let ey : y ≡ y' = cc h in let et : tag ≡ tag' = cc h in
      record { contexts = refl; kind = cc (eo, ex, ey); after = cc (eo, ex, ey, et) }
  operates_same o x y tag (in_function s) h = cc h
  operates_same o x y tag (in_argument w s) h = cc h
  operates_same o x y tag (in_left {l} s) h = let e : l ≡ number x tag = cc h in absurd (value_stays (subst Value (sym e) a_number) s)
  operates_same o x y tag (in_right {r} w s) h = let e : r ≡ number y tag = cc h in absurd (value_stays (subst Value (sym e) a_number) s)

  pub step_same : {c c' : ℕ} {k k' : Kind} {e e' e'' : Expression} → Step W c k e e' → Step W c' k' e e'' → Same c c' k k' e' e''
  step_same (applies v) (applies v') = record { contexts = refl; kind = refl; after = refl }
  step_same (applies v) (in_function s) = absurd (value_stays a_function s)
  step_same (applies v) (in_argument w s) = absurd (value_stays v s)
  step_same (operates {o} {x} {y} {tag} h) s = operates_same o x y tag s refl
  step_same (in_function s) (applies v) = absurd (value_stays a_function s)
  step_same (in_function s) (in_function s') = let h = step_same s s' in record { contexts = cc h.contexts; kind = h.kind; after = cc h.after }
  step_same (in_function s) (in_argument w s') = absurd (value_stays w s)
  step_same (in_argument w s) (applies v) = absurd (value_stays v s)
  step_same (in_argument w s) (in_function s') = absurd (value_stays w s')
  step_same (in_argument w s) (in_argument w' s') = let h = step_same s s' in record { contexts = cc h.contexts; kind = h.kind; after = cc h.after }
  step_same (in_left s) (operates h) = absurd (value_stays a_number s)
  step_same (in_left s) (in_left s') = let h = step_same s s' in record { contexts = cc h.contexts; kind = h.kind; after = cc h.after }
  step_same (in_left s) (in_right w s') = absurd (value_stays w s)
  step_same (in_right w s) (operates h) = absurd (value_stays a_number s)
  step_same (in_right w s) (in_left s') = absurd (value_stays w s')
  step_same (in_right w s) (in_right w' s') = let h = step_same s s' in record { contexts = cc h.contexts; kind = h.kind; after = cc h.after }

  -- Each run has one outcome.
  pub runs_same : {budget : ℕ} {e : Expression} {made : Counts} {o o' : Outcome} → Runs W budget e made o → Runs W budget e made o' → o ≡ o'
  runs_same ends_number ends_number = refl
  runs_same ends_number (out_of_budget open-e all_made) = absurd (open-e a_number)
  runs_same ends_number (too_deep s deep) = absurd (value_stays a_number s)
  runs_same ends_number (overflows left shallow s over) = absurd (value_stays a_number s)
  runs_same ends_number (steps_on left shallow s fits r) = absurd (value_stays a_number s)
  runs_same ends_function ends_function = refl
  runs_same ends_function (out_of_budget open-e all_made) = absurd (open-e a_function)
  runs_same ends_function (too_deep s deep) = absurd (value_stays a_function s)
  runs_same ends_function (overflows left shallow s over) = absurd (value_stays a_function s)
  runs_same ends_function (steps_on left shallow s fits r) = absurd (value_stays a_function s)
  runs_same (out_of_budget open-e all_made) ends_number = absurd (open-e a_number)
  runs_same (out_of_budget open-e all_made) ends_function = absurd (open-e a_function)
  runs_same (out_of_budget open-e all_made) (out_of_budget open-e' all-made') = refl
  runs_same (out_of_budget open-e all_made) (too_deep s deep) = refl
  runs_same (out_of_budget open-e all_made) (overflows left shallow s over) = absurd (left all_made)
  runs_same (out_of_budget open-e all_made) (steps_on left shallow s fits r) = absurd (left all_made)
  runs_same (too_deep s deep) ends_number = absurd (value_stays a_number s)
  runs_same (too_deep s deep) ends_function = absurd (value_stays a_function s)
  runs_same (too_deep s deep) (out_of_budget open-e all_made) = refl
  runs_same (too_deep s deep) (too_deep s' deep') = refl
  runs_same (too_deep s deep) (overflows left shallow s' over) = let h = (step_same s s').contexts in absurd (omega arith)
  runs_same (too_deep s deep) (steps_on left shallow s' fits r) = let h = (step_same s s').contexts in absurd (omega arith)
  runs_same (overflows left shallow s over) ends_number = absurd (value_stays a_number s)
  runs_same (overflows left shallow s over) ends_function = absurd (value_stays a_function s)
  runs_same (overflows left shallow s over) (out_of_budget open-e all_made) = absurd (left all_made)
  runs_same (overflows left shallow s over) (too_deep s' deep) = let h = (step_same s s').contexts in absurd (omega arith)
  runs_same (overflows left shallow s over) (overflows left' shallow' s' over') = refl
  runs_same (overflows {n = n} left shallow s over) (steps_on left' shallow' s' fits r) =
      let h = number_fits (subst (λ (k : Kind). Fits k) (sym (step_same s s').kind) fits) in absurd (omega arith)
  runs_same (steps_on left shallow s fits r) ends_number = absurd (value_stays a_number s)
  runs_same (steps_on left shallow s fits r) ends_function = absurd (value_stays a_function s)
  runs_same (steps_on left shallow s fits r) (out_of_budget open-e all_made) = absurd (left all_made)
  runs_same (steps_on left shallow s fits r) (too_deep s' deep) = let h = (step_same s s').contexts in absurd (omega arith)
  runs_same (steps_on left shallow s fits r) (overflows left' shallow' s' over) =
      let h = number_fits (subst (λ (k : Kind). Fits k) (step_same s s').kind fits) in absurd (omega arith)
  runs_same {budget} {made = made} {o' = o'} (steps_on left shallow s fits r) (steps_on left' shallow' s' fits' r') =
      let h = step_same s s' in
      runs_same r (rw (h.kind, h.after) r')
