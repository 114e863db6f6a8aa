-- What request e) promises of every run of an accepted job.
use Prim.Native.Nat.{ℕ, ◌≤◌}
use native.Mathlib.Omega.{arith}
use mathlib.Core.List.{List}
use mathlib.Core.Path.{◌≡◌, refl}
use Rattle.model.specs.Machine.{Machine}
use Rattle.model.specs.Inference.{ruling, Slot, Shape, GreatestTyping}
use Rattle.model.proofs.Lawful.{sound_lawful}
use Rattle.model.proofs.Unique.{Lawful, judged_accepted}
use Rattle.dryrun.specs.Expression.{Expression}
use Rattle.dryrun.specs.Transition.{Rule, Kind, application, operation, Tagged, Goes, Meets}
use Rattle.dryrun.specs.Run.{Counts, nothing_made, steps, counted, Outcome, Runs, ends_number, ends_function, out_of_budget, too_deep, overflows, steps_on, Reaches, job, Accepted}
use Rattle.dryrun.specs.Free.{NoneFree}
use Rattle.dryrun.proofs.Progress.{Sound, reached_sound, sound_one_tag, sound_goes}
use Rattle.dryrun.proofs.Job.{job_sound}
use Rattle.dryrun.proofs.Ends.{runs_end}
use Rattle.dryrun.proofs.Same.{judged_closed}

module _ {m : Machine} {word : Slot → ℕ} {shape : Slot → Shape} (accepted : Accepted m word shape) (numbers : List ℕ) where
  abbrev lawful : Lawful (ruling m)
  lawful = sound_lawful m.schemes accepted.is_well_formed.schemes_sound

  greatest : GreatestTyping (ruling m) m word shape
  greatest = judged_accepted accepted.judged refl

  reached : {e : Expression} {made : Counts} → Reaches (Tagged (ruling m)) (job m word numbers) nothing_made e made → Sound (ruling m) lawful greatest.together.0 e
  reached r =
      reached_sound (ruling m) lawful greatest.together.0 r
      (job_sound (ruling m) lawful m accepted.is_well_formed (judged_closed accepted.judged refl) word shape greatest accepted.no_arrow numbers)

  -- "A run never meets two operands with different tags"
  pub never_two_tags : {e : Expression} {made : Counts} {t u : ℕ} → Reaches (Tagged (ruling m)) (job m word numbers) nothing_made e made → Meets e t u → t ≡ u
  never_two_tags r = sound_one_tag (ruling m) lawful greatest.together.0 (reached r)

  -- It never gets stuck: it is over or makes a step.
  pub never_stuck : {e : Expression} {made : Counts} → Reaches (Tagged (ruling m)) (job m word numbers) nothing_made e made → Goes (Tagged (ruling m)) e
  never_stuck r = sound_goes (ruling m) lawful greatest.together.0 (reached r)

  pub never_free : {e : Expression} {made : Counts} → Reaches (Tagged (ruling m)) (job m word numbers) nothing_made e made → NoneFree e
  never_free r = (reached r).none_free

  -- It ends, whatever the budget.
  pub always_ends : (budget : ℕ) → (o : Outcome) × Runs (Tagged (ruling m)) budget (job m word numbers) nothing_made o
  always_ends budget = runs_end (Tagged (ruling m)) budget (job m word numbers) (λ e made r. never_stuck r)

-- It makes no more steps than the budget.
pub runs_within : {W : Rule} {budget : ℕ} {e : Expression} {made : Counts} {o : Outcome} → Runs W budget e made o → steps made ≤ budget → steps o.counts ≤ budget
runs_within ends_number within = within
runs_within ends_function within = within
runs_within (out_of_budget open-e spent) within = within
runs_within (too_deep s deep) within = within
runs_within (overflows left shallow s past) within = within
runs_within (steps_on {kind = kind} {made = made} left shallow s fits r) within =
    runs_within r (one_more kind made within left)
  where
    one_more : {budget : ℕ} (kind : Kind) (made : Counts) → steps made ≤ budget → ¬ (steps made ≡ budget) → steps (counted kind made) ≤ budget
    one_more application made within left = omega arith
    one_more (operation n) made within left = omega arith
