-- The moves of a run, one after the other.
use Prim.Native.Nat.{ℕ, ◌<◌}
use native.Mathlib.Omega.{arith}
use mathlib.Core.List.{List}
use mathlib.Core.Path.{◌≡◌, ap}
use lib.ListN.{length, replicate, length-replicate, get_or-replicate}
use Rattle.std.specs.Prelude.{Some, None, Result, Ok, Err}
use Rattle.model.specs.Machine.{Machine}
use Rattle.model.specs.Inference.{ruling, Slot}
use Rattle.model.specs.declared.TermRow.{TermRow}
use Rattle.dryrun.specs.Expression.{Expression}
use Rattle.dryrun.specs.Transition.{Tagged}
use Rattle.dryrun.specs.Run.{most_steps, nothing_made, Runs}
use Rattle.dryrun.specs.Run as Run
use Rattle.environments.specs.Standing.{no_cell, cell_in}
use Rattle.environments.specs.declared.Datum.{Datum}
use Rattle.environments.specs.declared.Focus.{Focus}
use Rattle.environments.specs.declared.Frame.{Frame}
use Rattle.environments.specs.declared.Cell.{Cell}
use Rattle.moves.specs.Moves.{refusal_number, Celled, Stands, Comes, leads_on, stops, counts_of, left}
use Rattle.moves.specs.declared.Point.{Point}
use Rattle.moves.specs.declared.Refusal.{Refusal}
use Rattle.evaluator.specs.declared.Answer.{Answer}
use Rattle.evaluator.specs.declared.Ran.{Ran}
use Rattle.evaluator.specs.Evaluation.{Over, at_end, not_yet, Underway, Advances, Begins, Begun, Evaluates}
use Rattle.evaluator.proofs.Ending.{ends_over}

-- A run that is not over has a frame around its value.
pub not_over : {f : List Frame} {p : Point} → Over f p None → (v : Datum) → p.focus ≡ Focus.Datum v → 0 < length f
not_over (not_yet some) = some

-- No cell is in use.
pub none_celled : Celled (replicate most_steps no_cell)
none_celled =
    record {
      size = length-replicate {A = Cell} most_steps no_cell;
      links = λ j h. let none : (cell_in (replicate most_steps no_cell) j).next ≡ 0 = ap (λ (x : Cell). x.next) (get_or-replicate {A = Cell} most_steps j no_cell no_cell h) in omega arith;
    }

module _ (terms : List TermRow) (words : List ℕ) (budget : ℕ) (f₀ : List Frame) (p₀ : Point) where
  -- Every run that began at the first point is at this one.
  pub record Continues (c : List Cell) (f : List Frame) (p : Point) : Type 0 where
    pub celled : Celled c
    pub follows : (m : Machine) (word : Slot → ℕ) (start : Expression) → Begins m word terms words budget start f₀ p₀ → Stands m word budget start c f p

  pub begins_continues : {c : List Cell} → Celled c → Continues c f₀ p₀
  begins_continues {c} celled = record { celled = celled; follows = λ m word start begins. begins.stands c }

  module _ {c : List Cell} {f : List Frame} {p : Point} (now : Continues c f p) where
    pub underway : Begun terms words budget f₀ p₀ → Underway terms words budget c f p
    underway begun =
        record {
          machine = begun.machine;
          word = begun.word;
          start = begun.start;
          job = begun.begins.job;
          rows = begun.begins.rows;
          stands = now.follows begun.machine begun.word begun.start begun.begins;
        }

    module _ {c' : List Cell} {f' : List Frame} where
      -- What the move comes to, for every run that began there.
      comes : {r : Result Point Refusal} → Advances terms words budget c f c' f' p r → (m : Machine) (word : Slot → ℕ) (start : Expression) → Begins m word terms words budget start f₀ p₀ →
          Comes m word budget start f p c' f' r
      comes advances m word start begins = advances m word start begins.job begins.rows (now.follows m word start begins)

      on_stands : {m : Machine} {word : Slot → ℕ} {start : Expression} {q : Point} → Comes m word budget start f p c' f' (Ok q) →
          Stands m word budget start c' f' q × (left budget f' q < left budget f p)
      on_stands (leads_on st falls) = (st, falls)

      pub continues_on : {q : Point} → Begun terms words budget f₀ p₀ → Advances terms words budget c f c' f' p (Ok q) → Celled c' → Continues c' f' q × (left budget f' q < left budget f p)
      continues_on {q} begun advances celled =
          let first = on_stands (comes advances begun.machine begun.word begun.start begun.begins) in (
            record { celled = celled; follows = λ m word start begins. (on_stands (comes advances m word start begins)).0 },
            first.1,
          )

      pub continues_stop : {e : Refusal} {r : Ran} → Advances terms words budget c f c' f' p (Err e) → r ≡ record { applications = p.applications; operations = p.operations; answer = Err e } →
          Evaluates terms words budget f₀ p₀ r
      continues_stop {e} {r} advances er m word start begins = rw er (go (comes advances m word start begins))
        where
          go : Comes m word budget start f p c' f' (Err e) → Runs (Tagged (ruling m)) budget start nothing_made (Run.refused (refusal_number e) (counts_of p))
          go (stops runs) = runs

    pub continues_over : {a : Answer} → Over f p (Some a) → Evaluates terms words budget f₀ p₀ (record { applications = p.applications; operations = p.operations; answer = Ok a })
    continues_over (at_end {v} at none) m word start begins = ends_over v begins.job at none (now.follows m word start begins)
