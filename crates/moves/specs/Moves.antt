-- What a move of the run does to what the arrays stand for.
use Rattle.std.specs.Prelude.{ℕ, suc, ◌≤◌, ◌<◌, List, ◌∷◌, ◌≡◌, length, Result, Ok, Err}
use Rattle.model.specs.Machine.{Machine, term_at}
use Rattle.model.specs.WellFormed.{WellFormed}
use Rattle.model.specs.Inference.{ruling, Slot, row}
use Rattle.model.specs.declared.Term.{Term}
use Rattle.dryrun.specs.Expression.{Expression}
use Rattle.dryrun.specs.Transition.{Tagged}
use Rattle.dryrun.specs.Run.{Counts, nothing_made, refused, Runs, most_steps, most_contexts}
use Rattle.environments.specs.Standing.{cell_in, Safe, Standing}
use Rattle.environments.specs.Weights.{point_weight, remaining}
use Rattle.environments.specs.declared.Datum.{Datum}
use Rattle.environments.specs.declared.Focus.{Focus}
use Rattle.environments.specs.declared.Frame.{Frame}
use Rattle.environments.specs.declared.Cell.{Cell}
use Rattle.moves.specs.declared.Point.{Point}
use Rattle.moves.specs.declared.Refusal.{Refusal}

-- "28", "29", "30"
abbrev pub refusal_number : Refusal → ℕ
refusal_number Refusal.NotRun = 28
refusal_number Refusal.TooLarge = 29
refusal_number Refusal.Limit = 30

-- A frame waits for an argument or for a right operand; any other holds a value.
abbrev pub Waits : Frame → Type 0
Waits (Frame.Argument k) = Unit {0}
Waits (Frame.Right o k) = Unit {0}
Waits (Frame.Called v) = ⊥
Waits (Frame.Left o v) = ⊥

-- The frame that holds a value in the place of one that waits, and what waited.
pub data Holds : Frame → Focus → Frame → Focus → Type 0 where
  as_function : {k : Focus} {v : Datum} → Holds (Frame.Argument k) (Focus.Datum v) (Frame.Called v) k
  as_left : {o : ℕ} {k : Focus} {v : Datum} → Holds (Frame.Right o k) (Focus.Datum v) (Frame.Left o v) k

-- What a search from a place finds: the first cell that binds the parameter; where none does, anything.
pub data Sought (c : List Cell) (x : ℕ) : ℕ → ℕ → Type 0 where
  nowhere : {r : ℕ} → Sought c x 0 r
  here : {j : ℕ} → (cell_in c j).param ≡ x → Sought c x (suc j) j
  past : {j r : ℕ} → ¬ ((cell_in c j).param ≡ x) → Sought c x (cell_in c j).next r → Sought c x (suc j) r

-- There is a cell for each application, and each leads to a place below it, so that every search ends.
pub record Celled (c : List Cell) : Type 0 where
  pub size : length c ≡ most_steps
  pub links : (j : ℕ) → j < most_steps → (cell_in c j).next ≤ j

abbrev pub counts_of : Point → Counts
counts_of p = record { applications = p.applications; operations = p.operations }

-- The point stands for a point of a run.
abbrev pub Stands : Machine → (Slot → ℕ) → ℕ → Expression → List Cell → List Frame → Point → Type 0
Stands m word budget start c f p = Standing m word budget start c f p.focus (counts_of p)

-- What is left of the run at a point.
abbrev pub left : ℕ → List Frame → Point → ℕ
left budget f p = remaining budget (counts_of p) (point_weight f p.focus)

-- A move leads on, to a point of the same run with less left; or that run is refused.
pub data Comes (m : Machine) (word : Slot → ℕ) (budget : ℕ) (start : Expression) (f : List Frame) (p : Point) (c' : List Cell) (f' : List Frame) : Result Point Refusal → Type 0 where
  leads_on : {q : Point} → Stands m word budget start c' f' q → left budget f' q < left budget f p → Comes m word budget start f p c' f' (Ok q)
  stops : {e : Refusal} → Runs (Tagged (ruling m)) budget start nothing_made (refused (refusal_number e) (counts_of p)) → Comes m word budget start f p c' f' (Err e)

-- A run with its machine: all that is known of it is that it is safe.
pub record Job (m : Machine) (start : Expression) : Type 0 where
  pub is_well_formed : WellFormed m
  pub safe : Safe m start

-- At a row that is run at a place: the term and the word are the row's.
abbrev pub TurnsRow : Term → ℕ → ℕ → ℕ → List Cell → List Frame → List Frame → Point → Result Point Refusal → Type 0
TurnsRow term own i place c f f' p r =
    (m : Machine) (word : Slot → ℕ) (budget : ℕ) (start : Expression) → Job m start → term_at m i ≡ term → word (row i) ≡ own →
    p.focus ≡ Focus.Row i place → Stands m word budget start c f p → Comes m word budget start f p c f' r

-- At a value under a frame that waits.
abbrev pub TurnsRound : List Frame → List Frame → Point → Point → Type 0
TurnsRound f f' p q =
    (m : Machine) (word : Slot → ℕ) (budget : ℕ) (start : Expression) (c : List Cell) → Job m start → Stands m word budget start c f p → Comes m word budget start f p c f' (Ok q)

-- An application: the top frame holds a function, whose LAM is the term, with its parameters bound at a place.
abbrev pub Applies : Term → ℕ → Datum → ℕ → List Cell → List Cell → Point → Result Point Refusal → Type 0
Applies term held argument budget c c' p r =
    (m : Machine) (word : Slot → ℕ) (start : Expression) (f : List Frame) (i : ℕ) → Job m start → length f ≤ most_contexts → term_at m i ≡ term → p.focus ≡ Focus.Datum argument →
    Stands m word budget start c (Frame.Called (Datum.Function i held) ∷ f) p → Comes m word budget start (Frame.Called (Datum.Function i held) ∷ f) p c' f r

-- An operation: the top frame holds its left operand.
abbrev pub Operates : ℕ → Datum → Datum → ℕ → Point → Result Point Refusal → Type 0
Operates o x y budget p r =
    (m : Machine) (word : Slot → ℕ) (start : Expression) (c : List Cell) (f : List Frame) → Job m start → length f ≤ most_contexts → p.focus ≡ Focus.Datum y →
    Stands m word budget start c (Frame.Left o x ∷ f) p → Comes m word budget start (Frame.Left o x ∷ f) p c f r
