-- What the moves of a run come to, one after the other.
use Rattle.std.specs.Prelude.{ℕ, ◌<◌, List, [], ◌≡◌, length, get_or, Option, Some, None, Result, Ok, Err}
use Rattle.model.specs.Machine.{Machine, term_in, term_at}
use Rattle.model.specs.Inference.{ruling, Slot, row}
use Rattle.model.specs.declared.TermRow.{TermRow}
use Rattle.dryrun.specs.Expression.{Expression}
use Rattle.dryrun.specs.Transition.{Tagged}
use Rattle.dryrun.specs.Run.{a_number, a_function, no_answer, nothing_made, Outcome, Runs}
use Rattle.dryrun.specs.Run as Run
use Rattle.environments.specs.declared.Datum.{Datum}
use Rattle.environments.specs.declared.Focus.{Focus}
use Rattle.environments.specs.declared.Frame.{Frame}
use Rattle.environments.specs.declared.Cell.{Cell}
use Rattle.moves.specs.Moves.{refusal_number, Job, Stands, Comes}
use Rattle.moves.specs.declared.Point.{Point}
use Rattle.moves.specs.declared.Refusal.{Refusal}
use Rattle.evaluator.specs.declared.Answer.{Answer}
use Rattle.evaluator.specs.declared.Answer.TheVariants.{Number, Function}
use Rattle.evaluator.specs.declared.Ran.{Ran}

-- What the code hands back, as a run's outcome. The refusal of a run that is over is 0.
abbrev pub answered : Result Answer Refusal → Run.Answer
answered (Ok (Number n tag)) = a_number n tag
answered (Ok Function) = a_function
answered (Err e) = no_answer

abbrev pub refusal_of : Result Answer Refusal → ℕ
refusal_of (Ok a) = 0
refusal_of (Err e) = refusal_number e

abbrev pub outcome : Ran → Outcome
outcome r = record { refusal = refusal_of r.answer; counts = record { applications = r.applications; operations = r.operations }; answer = answered r.answer }

-- A value as an answer.
abbrev pub answer_of : Datum → Answer
answer_of (Datum.Number tag n) = Number n tag
answer_of (Datum.Function i place) = Function

-- A value under no frame is what a run comes to; at any other point it is not over.
pub data Over (f : List Frame) (p : Point) : Option Answer → Type 0 where
  at_end : {v : Datum} → p.focus ≡ Focus.Datum v → f ≡ [] → Over f p (Some (answer_of v))
  not_yet : ((v : Datum) → p.focus ≡ Focus.Datum v → 0 < length f) → Over f p None

-- The arrays hold the machine's rows and their words.
abbrev pub RowsIn : Machine → (Slot → ℕ) → List TermRow → List ℕ → Type 0
RowsIn m word terms words = (i : ℕ) → i < length m.terms → (term_at m i ≡ term_in terms i) × (word (row i) ≡ get_or words i 0)

-- The point is one of some run.
pub record Underway (terms : List TermRow) (words : List ℕ) (budget : ℕ) (c : List Cell) (f : List Frame) (p : Point) : Type 0 where
  pub machine : Machine
  pub word : Slot → ℕ
  pub start : Expression
  pub job : Job machine start
  pub rows : RowsIn machine word terms words
  pub stands : Stands machine word budget start c f p

abbrev pub Advances : List TermRow → List ℕ → ℕ → List Cell → List Frame → List Cell → List Frame → Point → Result Point Refusal → Type 0
Advances terms words budget c f c' f' p r =
    (m : Machine) (word : Slot → ℕ) (start : Expression) → Job m start → RowsIn m word terms words → Stands m word budget start c f p → Comes m word budget start f p c' f' r

-- The point is the first one of a run: it stands whatever the cells hold, since none is in use.
pub record Begins (m : Machine) (word : Slot → ℕ) (terms : List TermRow) (words : List ℕ) (budget : ℕ) (start : Expression) (f : List Frame) (p : Point) : Type 0 where
  pub job : Job m start
  pub rows : RowsIn m word terms words
  pub stands : (c : List Cell) → Stands m word budget start c f p

pub record Begun (terms : List TermRow) (words : List ℕ) (budget : ℕ) (f : List Frame) (p : Point) : Type 0 where
  pub machine : Machine
  pub word : Slot → ℕ
  pub start : Expression
  pub begins : Begins machine word terms words budget start f p

-- Every run that begins there comes to what is handed back.
abbrev pub Evaluates : List TermRow → List ℕ → ℕ → List Frame → Point → Ran → Type 0
Evaluates terms words budget f p r =
    (m : Machine) (word : Slot → ℕ) (start : Expression) → Begins m word terms words budget start f p → Runs (Tagged (ruling m)) budget start nothing_made (outcome r)
