-- A point by what it looks at, as the laws of the run take it.
use Prim.Native.Nat.{ℕ}
use mathlib.Core.List.{List}
use mathlib.Core.Path.{◌≡◌, subst}
use Rattle.model.specs.Machine.{Machine}
use Rattle.model.specs.Inference.{Slot}
use Rattle.dryrun.specs.Expression.{Expression}
use Rattle.environments.specs.Standing.{Standing}
use Rattle.environments.specs.declared.Focus.{Focus}
use Rattle.environments.specs.declared.Frame.{Frame}
use Rattle.environments.specs.declared.Cell.{Cell}
use Rattle.moves.specs.Moves.{Stands, counts_of}
use Rattle.moves.specs.declared.Point.{Point}

pub looks : {m : Machine} {word : Slot → ℕ} {budget : ℕ} {start : Expression} {c : List Cell} {f : List Frame} {p : Point} {k : Focus} → Stands m word budget start c f p → p.focus ≡ k →
    Standing m word budget start c f k (counts_of p)
looks {m} {word} {budget} {start} {c} {f} {p} st at = subst (λ (k : Focus). Standing m word budget start c f k (counts_of p)) at st
