-- What a run comes to at its end.
use Prim.Native.Nat.{ℕ}
use native.Mathlib.Omega.{arith}
use mathlib.Core.List.{List, [], ◌∷◌}
use mathlib.Core.Path.{◌≡◌, refl, subst}
use lib.ListN.{length}
use Rattle.moves.proofs.Tops.{looks}
use Rattle.std.specs.Prelude.{Ok}
use Rattle.model.specs.Machine.{Machine}
use Rattle.model.specs.Inference.{ruling, Slot}
use Rattle.dryrun.specs.Expression.{Expression}
use Rattle.dryrun.specs.Transition.{Tagged}
use Rattle.dryrun.specs.Run.{nothing_made, Runs}
use Rattle.environments.specs.Standing.{Standing}
use Rattle.environments.specs.declared.Datum.{Datum}
use Rattle.environments.specs.declared.Focus.{Focus}
use Rattle.environments.specs.declared.Frame.{Frame}
use Rattle.environments.specs.declared.Cell.{Cell}
use Rattle.environments.proofs.Turns.{ends_with_number, ends_with_function}
use Rattle.moves.specs.Moves.{Job, Stands, counts_of}
use Rattle.moves.specs.declared.Point.{Point}
use Rattle.evaluator.specs.Evaluation.{outcome, answer_of}

-- A value under no frame is the answer.
pub ends_over : {m : Machine} {word : Slot → ℕ} {budget : ℕ} {start : Expression} {c : List Cell} {f : List Frame} {p : Point} (v : Datum) →
    Job m start → p.focus ≡ Focus.Datum v → f ≡ [] → Stands m word budget start c f p →
    Runs (Tagged (ruling m)) budget start nothing_made (outcome (record { applications = p.applications; operations = p.operations; answer = Ok (answer_of v) }))
ends_over {m} {word} {budget} {start} {c} {f} {p} v job at none st = by v (subst (λ (g : List Frame). Standing m word budget start c g (Focus.Datum v) (counts_of p)) none (looks st at))
  where
    by : (v : Datum) → Standing m word budget start c [] (Focus.Datum v) (counts_of p) →
        Runs (Tagged (ruling m)) budget start nothing_made (outcome (record { applications = p.applications; operations = p.operations; answer = Ok (answer_of v) }))
    by (Datum.Number tag n) here = ends_with_number m job.is_well_formed word budget start job.safe here
    by (Datum.Function i place) here = ends_with_function m job.is_well_formed word budget start job.safe here

-- Frames of which there are none.
pub no_frames : (f : List Frame) → length f ≡ 0 → f ≡ []
no_frames [] h = refl
no_frames (x ∷ f) h = let z : ⊥ = omega arith in absurd z

-- A row is no value.
pub no_value : {P : Type 0} {k : Focus} {i place : ℕ} {v : Datum} → k ≡ Focus.Row i place → k ≡ Focus.Datum v → P
no_value is at = let z : ◌≡◌ {A = ℕ} 0 1 = cc (is, at) in let no : ⊥ = omega arith in absurd no
