-- A run that never gets stuck has an outcome with every budget.
use Prim.Native.Nat.{ℕ, zero, suc, ◌+◌, ◌≤◌, ◌<◌}
use native.Mathlib.Omega.{arith}
use native.Mathlib.Decide.{ℕ_discrete, dec_lt}
use mathlib.Core.Path.{◌≡◌}
use Rattle.dryrun.specs.Expression.{Expression, Value, a_number, a_function}
use Rattle.dryrun.specs.Transition.{Rule, Kind, application, operation, Step, Goes, over, on}
use Rattle.dryrun.specs.Run.{Counts, Outcome, nothing_made, steps, counted, largest_number, most_contexts, Fits, applying, in_range, Runs, ends_number, ends_function, out_of_budget, too_deep, overflows, steps_on, Reaches, itself, further}
use Rattle.dryrun.proofs.Determined.{value_stays}

pub counted_one : (kind : Kind) (made : Counts) → steps (counted kind made) ≡ suc (steps made)
counted_one application made = omega arith
counted_one (operation n) made = omega arith

module _ (W : Rule) (budget : ℕ) where
  -- What the run from e comes to.
  abbrev pub Ends : Expression → Counts → Type 0
  Ends e made = (o : Outcome) × Runs W budget e made o

  -- Nothing that the run from e comes by is stuck.
  abbrev pub Unstuck : Expression → Counts → Type 0
  Unstuck e made = (e' : Expression) (made' : Counts) → Reaches W e made e' made' → Goes W e'

  value_ends : {e : Expression} {made : Counts} → Value e → Ends e made
  value_ends a_number = (_, ends_number)
  value_ends a_function = (_, ends_function)

  -- One step, with steps left, given where the run ends from there.
  step-ends : {c : ℕ} {e e' : Expression} {made : Counts} (kind : Kind) → ¬ (steps made ≡ budget) → c ≤ most_contexts → Step W c kind e e' →
      (Fits kind → Ends e' (counted kind made)) → Ends e made
  step-ends application left shallow s rest = let (o, r) = rest applying in (o, steps_on left shallow s applying r)
  step-ends {e = e} {e'} {made} (operation n) left shallow s rest = go (dec_lt largest_number n)
    where
      go : Dec (largest_number < n) → Ends e made
      go (yes past) = (_, overflows left shallow s past)
      go (no not-past) = let fits : Fits (operation n) = in_range {n = n} (omega arith) in let (o, r) = rest fits in (o, steps_on left shallow s fits r)

  -- Before a step: the budget, then the contexts.
  before_step : {c : ℕ} {e e' : Expression} {made : Counts} (kind : Kind) → Step W c kind e e' → (¬ (steps made ≡ budget) → Fits kind → Ends e' (counted kind made)) → Ends e made
  before_step {c} {e} {e'} {made} kind s rest = go (ℕ_discrete (steps made) budget) (dec_lt most_contexts c)
    where
      go : Dec (steps made ≡ budget) → Dec (most_contexts < c) → Ends e made
      go (yes spent) deep = (_, out_of_budget (λ v. value_stays v s) spent)
      go (no left) (yes deep) = (_, too_deep s deep)
      go (no left) (no shallow) = step-ends kind left (omega arith) s (rest left)

  goes_end : {e : Expression} {made : Counts} → Goes W e → ((c : ℕ) (kind : Kind) (e' : Expression) → Step W c kind e e' → ¬ (steps made ≡ budget) → Fits kind → Ends e' (counted kind made)) → Ends e made
  goes_end (over v) rest = value_ends v
  goes_end (on {contexts = c} {kind} {e'} s) rest = before_step kind s (rest c kind e' s)

  ends_within : (left : ℕ) (e : Expression) (made : Counts) → budget ≡ steps made + left → Unstuck e made → Ends e made
  ends_within zero e made enough unstuck = goes_end (unstuck e made itself) (λ c kind e' s left fits. absurd (left (omega arith)))
  ends_within (suc n) e made enough unstuck =
      goes_end (unstuck e made itself)
      (λ c kind e' s left fits. ends_within n e' (counted kind made) (omega (arith, counted_one kind made)) (λ e'' made'' r. unstuck e'' made'' (further s fits r)))

  pub runs_end : (e : Expression) → Unstuck e nothing_made → Ends e nothing_made
  runs_end e unstuck = ends_within budget e nothing_made (omega arith) unstuck
