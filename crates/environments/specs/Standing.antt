-- What the arrays of a run stand for: an expression under reduction contexts, its bound parameters in cells.
use Rattle.std.specs.Prelude.{ℕ, suc, ◌≤◌, ◌<◌, cond, List, [], ◌∷◌, ◌≡◌, eqb, length, get_or}
use Rattle.model.specs.Machine.{Machine, term_at}
use Rattle.model.specs.Inference.{ruling, Slot}
use Rattle.model.specs.declared.Term.TheVariants.{Lam}
use Rattle.dryrun.specs.Expression.{Expression, number, variable, function, apply, operate, unfolded}
use Rattle.dryrun.specs.Transition.{Tagged, Goes}
use Rattle.dryrun.specs.Run.{Counts, nothing_made, steps, Outcome, Runs, Reaches}
use Rattle.dryrun.specs.Free.{NoneFree}
use Rattle.environments.specs.declared.Datum.{Datum}
use Rattle.environments.specs.declared.Focus.{Focus}
use Rattle.environments.specs.declared.Frame.{Frame}
use Rattle.environments.specs.declared.Cell.{Cell}

-- What every expression that a run comes by is.
pub record Safe (m : Machine) (start : Expression) : Type 0 where
  pub goes : {e : Expression} {made : Counts} → Reaches (Tagged (ruling m)) start nothing_made e made → Goes (Tagged (ruling m)) e
  pub none_free : {e : Expression} {made : Counts} → Reaches (Tagged (ruling m)) start nothing_made e made → NoneFree e

-- What stands for each parameter; where nothing is bound, the parameter itself.
abbrev pub Env : Type 0
Env = ℕ → Expression

abbrev pub without : ℕ → Env → Env
without p σ = λ y. cond (eqb y p) (variable y) (σ y)

abbrev pub extended : ℕ → Expression → Env → Env
extended p v σ = λ y. cond (eqb y p) v (σ y)

-- The expression with all that is bound put in.
unfoldable pub close : Env → Expression → Expression
close σ (number n tag) = number n tag
close σ (variable x) = σ x
close σ (function x e) = function x (close (without x σ) e)
close σ (apply f a) = apply (close σ f) (close σ a)
close σ (operate o l r) = operate o (close σ l) (close σ r)

-- R e, v R, R f e, v f R; the innermost first.
pub data Context : Type 0 where
  argument : Expression → Context
  called : Expression → Context
  right : ℕ → Expression → Context
  left : ℕ → Expression → Context

abbrev pub around : Context → Expression → Expression
around (argument a) e = apply e a
around (called v) e = apply v e
around (right o r) e = operate o e r
around (left o v) e = operate o v e

abbrev pub plug : List Context → Expression → Expression
plug [] e = e
plug (f ∷ R) e = plug R (around f e)

-- The entry of a list with a number.
abbrev pub no_cell : Cell
no_cell = record { param = 0; next = 0; datum = Datum.Number 0 0 }

abbrev pub cell_in : List Cell → ℕ → Cell
cell_in c j = get_or c j no_cell

module _ (m : Machine) (word : Slot → ℕ) where
  abbrev pub row_of : ℕ → Expression
  row_of i = unfolded m word (length m.terms) i

  -- What is bound at a place of the first `count` cells. Place 0 binds nothing, place j + 1 is cell j, which binds a parameter, the others being bound where `next` says.
  pub data Binds (c : List Cell) (count : ℕ) : ℕ → Env → Type 0 where
    nothing : Binds c count 0 variable
    a_number : {j n tag : ℕ} {σ : Env} → j < count → (cell_in c j).next ≤ j → (cell_in c j).datum ≡ Datum.Number tag n → Binds c count (cell_in c j).next σ →
        Binds c count (suc j) (extended (cell_in c j).param (number n tag) σ)
    a_function : {j i place p b : ℕ} {σ τ : Env} → j < count → (cell_in c j).next ≤ j → (cell_in c j).datum ≡ Datum.Function i place → i < length m.terms →
        term_at m i ≡ Lam p b → NoneFree (close τ (function p (row_of b))) → Binds c count place τ → Binds c count (cell_in c j).next σ →
        Binds c count (suc j) (extended (cell_in c j).param (close τ (function p (row_of b))) σ)

  -- What a value is: a number with its tag, or a LAM's row with its parameters bound at a place.
  pub data Means (c : List Cell) (count : ℕ) : Datum → Expression → Type 0 where
    a_number : {n tag : ℕ} → Means c count (Datum.Number tag n) (number n tag)
    a_function : {i place p b : ℕ} {τ : Env} → i < length m.terms → term_at m i ≡ Lam p b → Binds c count place τ →
        Means c count (Datum.Function i place) (close τ (function p (row_of b)))

  -- What is looked at, now or later: a row yet to be run at a place, or a value.
  pub data Control (c : List Cell) (count : ℕ) : Focus → Expression → Type 0 where
    a_row : {i place : ℕ} {σ : Env} → i < length m.terms → Binds c count place σ → Control c count (Focus.Row i place) (close σ (row_of i))
    a_value : {d : Datum} {v : Expression} → Means c count d v → Control c count (Focus.Datum d) v

  -- The reduction contexts that the frames are.
  pub data Stack (c : List Cell) (count : ℕ) : List Frame → List Context → Type 0 where
    bottom : Stack c count [] []
    on_argument : {k : Focus} {e : Expression} {f : List Frame} {R : List Context} → Control c count k e → Stack c count f R → Stack c count (Frame.Argument k ∷ f) (argument e ∷ R)
    on_called : {v : Datum} {e : Expression} {f : List Frame} {R : List Context} → Means c count v e → Stack c count f R → Stack c count (Frame.Called v ∷ f) (called e ∷ R)
    on_right : {o : ℕ} {k : Focus} {e : Expression} {f : List Frame} {R : List Context} → o < 5 → Control c count k e → Stack c count f R → Stack c count (Frame.Right o k ∷ f) (right o e ∷ R)
    on_left : {o : ℕ} {v : Datum} {e : Expression} {f : List Frame} {R : List Context} → o < 5 → Means c count v e → Stack c count f R → Stack c count (Frame.Left o v ∷ f) (left o e ∷ R)

  -- The state stands for a point of the run from `start`: whatever the run comes to from here, it comes to from the start.
  pub record Standing (budget : ℕ) (start : Expression) (c : List Cell) (f : List Frame) (focus : Focus) (made : Counts) : Type 0 where
    pub expression : Expression
    pub contexts : List Context
    pub control : Control c made.applications focus expression
    pub stack : Stack c made.applications f contexts
    pub reached : Reaches (Tagged (ruling m)) start nothing_made (plug contexts expression) made
    pub within : steps made ≤ budget
    pub tail : (o : Outcome) → Runs (Tagged (ruling m)) budget (plug contexts expression) made o → Runs (Tagged (ruling m)) budget start nothing_made o
