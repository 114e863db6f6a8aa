-- A value takes its place in a frame that waits.
use Prim.Native.Nat.{ℕ}
use mathlib.Core.List.{List, ◌∷◌}
use mathlib.Core.Path.{◌≡◌, refl}
use Rattle.std.specs.Prelude.{Ok}
use Rattle.model.specs.Machine.{Machine}
use Rattle.model.specs.Inference.{Slot}
use Rattle.dryrun.specs.Expression.{Expression}
use Rattle.environments.specs.Standing.{Standing}
use Rattle.environments.specs.Weights.{waiting_weight, frame_weight, point_weight}
use Rattle.environments.specs.declared.Datum.{Datum}
use Rattle.environments.specs.declared.Focus.{Focus}
use Rattle.environments.specs.declared.Frame.{Frame}
use Rattle.environments.specs.declared.Cell.{Cell}
use Rattle.environments.proofs.Turns.{take_argument, take_right}
use Rattle.environments.proofs.Weights.{turned_lighter, lighter_remains}
use Rattle.moves.specs.Moves.{Holds, as_function, as_left, Comes, leads_on, counts_of, TurnsRound}
use Rattle.moves.specs.declared.Point.{Point}
use Rattle.moves.proofs.Tops.{looks}

-- The point at what a frame had waiting.
abbrev pub resumed : Point → Focus → Point
resumed p k = record { focus = k; applications = p.applications; operations = p.operations }

module _ (f : List Frame) (p : Point) where
  lands : (top new : Frame) {v : Datum} {k : Focus} {m : Machine} {word : Slot → ℕ} {budget : ℕ} {start : Expression} {c : List Cell} → p.focus ≡ Focus.Datum v →
      frame_weight top ≡ waiting_weight k → frame_weight new ≡ 0 → Standing m word budget start c (new ∷ f) k (counts_of p) → Comes m word budget start (top ∷ f) p c (new ∷ f) (Ok (resumed p k))
  lands top new {v} {k} {budget = budget} at waits holds st =
      leads_on st
      (lighter_remains budget (counts_of p) (point_weight (new ∷ f) k) (point_weight (top ∷ f) p.focus) (rw at (turned_lighter f top new k v waits holds)))

  -- By the frame that waits.
  by_frame : {top new : Frame} {j k : Focus} → p.focus ≡ j → Holds top j new k → TurnsRound (top ∷ f) (new ∷ f) p (resumed p k)
  by_frame {top} {new} at as_function m word budget start c job st = lands top new at refl refl (take_argument m job.is_well_formed word budget start job.safe (looks st at))
  by_frame {top} {new} at as_left m word budget start c job st = lands top new at refl refl (take_right m job.is_well_formed word budget start job.safe (looks st at))

  pub turns_round : {top new : Frame} {k : Focus} → Holds top p.focus new k → TurnsRound (top ∷ f) (new ∷ f) p (resumed p k)
  turns_round holds = by_frame refl holds
