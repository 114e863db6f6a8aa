-- Runs with a budget, and the answer of a dry run.
-- Document 02, e).
use Rattle.std.specs.Prelude.{ℕ, ◌+◌, ◌-◌, ◌≤◌, ◌<◌, min, true, List, ◌≡◌, length}
use Rattle.model.specs.Lists.{contains}
use Rattle.model.specs.Machine.{Machine}
use Rattle.model.specs.WellFormed.{WellFormed}
use Rattle.model.specs.Inference.{ruling, Slot, param, Shape, Judged}
use Rattle.dryrun.specs.Expression.{Expression, number, function, Value, unfolded, leading_from, applied}
use Rattle.dryrun.specs.Transition.{Rule, Tagged, Kind, application, operation, Step}

-- "The answer is a number with its tag, or "function""; no answer where the run was refused.
pub data Answer : Type 0 where
  a_number : ℕ → ℕ → Answer
  a_function : Answer
  no_answer : Answer

-- "with the applications and the operations made"
pub record Counts : Type 0 where
  pub applications : ℕ
  pub operations : ℕ

-- "29 and 30 give these counts too". The refusal of a run that is over is 0.
pub record Outcome : Type 0 where
  pub refusal : ℕ
  pub counts : Counts
  pub answer : Answer

abbrev pub refused : ℕ → Counts → Outcome
refused reason made = record { refusal = reason; counts = made; answer = no_answer }

abbrev pub ended : Answer → Counts → Outcome
ended answer made = record { refusal = 0; counts = made; answer = answer }

-- Its "untagged form": the answer without its tag.
unfoldable pub untagged_answer : Answer → Answer
untagged_answer (a_number n tag) = a_number n 0
untagged_answer a_function = a_function
untagged_answer no_answer = no_answer

abbrev pub untagged_outcome : Outcome → Outcome
untagged_outcome o = record { refusal = o.refusal; counts = o.counts; answer = untagged_answer o.answer }

abbrev pub nothing_made : Counts
nothing_made = record { applications = 0; operations = 0 }

-- "A step is one application or one operation".
abbrev pub steps : Counts → ℕ
steps made = made.applications + made.operations

-- The counts with one step more.
abbrev pub counted : Kind → Counts → Counts
counted application made = record { applications = made.applications + 1; operations = made.operations }
counted (operation n) made = record { applications = made.applications; operations = made.operations + 1 }

-- "numbers up to 4294967295"
abbrev pub largest_number : ℕ
largest_number = 4294967295

-- "more than 4,096 reduction contexts"
abbrev pub most_contexts : ℕ
most_contexts = 4096

-- "a budget above 10,000 steps counts as 10,000"
abbrev pub most_steps : ℕ
most_steps = 10000

abbrev pub allowed : ℕ → ℕ
allowed budget = min budget most_steps

-- No "result passes 4294967295".
pub data Fits : Kind → Type 0 where
  applying : Fits application
  in_range : {n : ℕ} → n ≤ largest_number → Fits (operation n)

-- The run from e, whose steps so far are counted, goes on to the outcome.
pub data Runs (W : Rule) (budget : ℕ) : Expression → Counts → Outcome → Type 0 where
  ends_number : {n tag : ℕ} {made : Counts} → Runs W budget (number n tag) made (ended (a_number n tag) made)
  ends_function : {p : ℕ} {e : Expression} {made : Counts} → Runs W budget (function p e) made (ended a_function made)
  -- "30, looked at before each step, when exactly the budget's steps were made and the run isn't over"
  out_of_budget : {e : Expression} {made : Counts} → ¬ Value e → steps made ≡ budget → Runs W budget e made (refused 30 made)
  -- "or more than 4,096 reduction contexts stand around the next step"
  too_deep : {contexts : ℕ} {kind : Kind} {e e' : Expression} {made : Counts} → Step W contexts kind e e' → most_contexts < contexts →
      Runs W budget e made (refused 30 made)
  -- "29 when a result passes 4294967295"; the counts are "without the operation that overflowed"
  overflows : {contexts n : ℕ} {e e' : Expression} {made : Counts} → ¬ (steps made ≡ budget) → contexts ≤ most_contexts →
      Step W contexts (operation n) e e' → largest_number < n → Runs W budget e made (refused 29 made)
  steps_on : {contexts : ℕ} {kind : Kind} {e e' : Expression} {made : Counts} {o : Outcome} → ¬ (steps made ≡ budget) → contexts ≤ most_contexts →
      Step W contexts kind e e' → Fits kind → Runs W budget e' (counted kind made) o → Runs W budget e made o

-- The expressions that a run comes by, with the counts.
pub data Reaches (W : Rule) : Expression → Counts → Expression → Counts → Type 0 where
  itself : {e : Expression} {made : Counts} → Reaches W e made e made
  further : {contexts : ℕ} {kind : Kind} {e e' e'' : Expression} {made made'' : Counts} → Step W contexts kind e e' → Fits kind →
      Reaches W e' (counted kind made) e'' made'' → Reaches W e made e'' made''

-- "The leading LAMs of the last row"
abbrev pub last_row : Machine → ℕ
last_row m = length m.terms - 1

abbrev pub leading : Machine → List ℕ
leading m = leading_from m (length m.terms) (last_row m)

-- The last row's expression, "applied to a list of numbers".
abbrev pub job : Machine → (Slot → ℕ) → List ℕ → Expression
job m word numbers = applied word (unfolded m word (length m.terms) (last_row m)) (leading m) numbers

-- No "leading parameter of shape ARROW".
abbrev pub NoArrow : Machine → (Slot → Shape) → Type 0
NoArrow m shape = (p : ℕ) → contains p (leading m) ≡ true → ¬ (shape (param p) ≡ Shape.arrow)

-- An accepted job: infer accepts the program, and numbers may stand for its leading parameters.
pub record Accepted (m : Machine) (word : Slot → ℕ) (shape : Slot → Shape) : Type 0 where
  pub is_well_formed : WellFormed m
  pub judged : Judged (ruling m) m 0 0 word shape
  pub no_arrow : NoArrow m shape

-- What a call answers.
pub data DryRuns (m : Machine) (numbers : List ℕ) (budget : ℕ) : Outcome → Type 0 where
  -- "28 for .. a program that infer refuses"
  not_accepted : {reason k : ℕ} {word : Slot → ℕ} {shape : Slot → Shape} → Judged (ruling m) m reason k word shape → ¬ (reason ≡ 0) →
      DryRuns m numbers budget (refused 28 nothing_made)
  -- "a wrong count of numbers"
  wrong_count : {word : Slot → ℕ} {shape : Slot → Shape} → Judged (ruling m) m 0 0 word shape → ¬ (length numbers ≡ length (leading m)) →
      DryRuns m numbers budget (refused 28 nothing_made)
  -- "a leading parameter of shape ARROW"
  arrow : {word : Slot → ℕ} {shape : Slot → Shape} → Judged (ruling m) m 0 0 word shape → (p : ℕ) → contains p (leading m) ≡ true →
      shape (param p) ≡ Shape.arrow → DryRuns m numbers budget (refused 28 nothing_made)
  ran : {word : Slot → ℕ} {shape : Slot → Shape} {o : Outcome} → Judged (ruling m) m 0 0 word shape → length numbers ≡ length (leading m) → NoArrow m shape →
      Runs (Tagged (ruling m)) (allowed budget) (job m word numbers) nothing_made o → DryRuns m numbers budget o
