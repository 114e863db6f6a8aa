-- One law for each way through an operation.
use Prim.Native.Nat.{ℕ, ◌+◌, ◌≤◌, ◌<◌}
use native.Mathlib.Omega.{arith}
use mathlib.Core.List.{◌∷◌}
use mathlib.Core.Path.{◌≡◌}
use Rattle.std.specs.Prelude.{Ok, Err}
use Rattle.dryrun.specs.Transition.{calculated, result_tag}
use Rattle.dryrun.specs.Run.{largest_number}
use Rattle.environments.specs.Weights.{point_weight}
use Rattle.environments.specs.declared.Datum.{Datum}
use Rattle.environments.specs.declared.Focus.{Focus}
use Rattle.environments.specs.declared.Frame.{Frame}
use Rattle.environments.proofs.Turns.{spent, operands, operates_on, overflows_at}
use Rattle.environments.proofs.Weights.{standing_light, step_remains}
use Rattle.moves.specs.Moves.{Operates, leads_on, stops, counts_of}
use Rattle.moves.specs.declared.Point.{Point}
use Rattle.moves.specs.declared.Refusal.{Refusal}
use Rattle.moves.proofs.Tops.{looks}

-- The point at a result.
abbrev pub resulted : Point → ℕ → ℕ → Point
resulted p n tag = record { focus = Focus.Datum (Datum.Number tag n); applications = p.applications; operations = p.operations + 1 }

module _ {o budget : ℕ} {u v : Datum} {p : Point} where
  pub spent_before : p.applications + p.operations ≡ budget → Operates o u v budget p (Err Refusal.Limit)
  spent_before all m word start c f job low at st = stops (spent m job.is_well_formed word budget start job.safe (looks st at) all)

  -- Both operands are numbers.
  pub no_left : ((t x : ℕ) → ¬ (u ≡ Datum.Number t x)) → Operates o u v budget p (Err Refusal.Limit)
  no_left other m word start c f job low at st = let both = operands m job.is_well_formed word budget start job.safe (looks st at) in absurd (other both.tag both.x both.left_is)

  pub no_right : ((t y : ℕ) → ¬ (v ≡ Datum.Number t y)) → Operates o u v budget p (Err Refusal.Limit)
  no_right other m word start c f job low at st = let both = operands m job.is_well_formed word budget start job.safe (looks st at) in absurd (other both.tag both.y both.right_is)

  module _ {x y t s result : ℕ} (unspent : ¬ (p.applications + p.operations ≡ budget)) (left_is : u ≡ Datum.Number t x) (right_is : v ≡ Datum.Number s y) (is : result ≡ calculated o x y) where
    pub overflows_past : largest_number < result → Operates o u v budget p (Err Refusal.TooLarge)
    overflows_past past m word start c f job low at st =
        stops (overflows_at m job.is_well_formed word budget start job.safe (looks st at) {x = x} {y = y} {t = t} {s = s} left_is right_is unspent low (omega arith))

    pub operates_to : {tag : ℕ} {q : Point} → p.applications + p.operations ≤ budget → result ≤ largest_number → tag ≡ result_tag o s → q ≡ resulted p result tag → Operates o u v budget p (Ok q)
    operates_to {tag} {q} within fits et eq m word start c f job low at st =
        let st' = operates_on m job.is_well_formed word budget start job.safe (looks st at) {x = x} {y = y} {t = t} {s = s} left_is right_is unspent low (omega arith) in
        rw (eq, et, is)
        (leads_on st'
        (step_remains budget (counts_of p) (counts_of (resulted p (calculated o x y) (result_tag o s))) (point_weight f (Focus.Datum (Datum.Number (result_tag o s) (calculated o x y))))
        (point_weight (Frame.Left o u ∷ f) p.focus) (omega arith) (omega arith) (standing_light m job.is_well_formed word st' (omega arith))))
