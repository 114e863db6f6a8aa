-- Why the moves between two steps end: what is looked at and the frames that wait have a weight, and each such move takes from it.
use Rattle.std.specs.Prelude.{ℕ, zero, suc, ◌+◌, ◌-◌, ◌*◌, List, [], ◌∷◌}
use Rattle.dryrun.specs.Run.{Counts, steps, most_contexts}
use Rattle.environments.specs.declared.Focus.{Focus}
use Rattle.environments.specs.declared.Frame.{Frame}

-- A row that is looked at weighs more than two rows below it and two moves.
unfoldable pub weight : ℕ → ℕ
weight zero = 3
weight (suc i) = 3 * weight i

-- A value weighs 1.
abbrev pub control_weight : Focus → ℕ
control_weight (Focus.Row i place) = weight i
control_weight (Focus.Datum v) = 1

-- A frame that waits weighs more than what it waits for; one that holds a value weighs nothing.
abbrev pub waiting_weight : Focus → ℕ
waiting_weight (Focus.Row i place) = weight i + 1
waiting_weight (Focus.Datum v) = 1

abbrev pub frame_weight : Frame → ℕ
frame_weight (Frame.Argument k) = waiting_weight k
frame_weight (Frame.Right o k) = waiting_weight k
frame_weight (Frame.Called v) = 0
frame_weight (Frame.Left o v) = 0

unfoldable pub frames_weight : List Frame → ℕ
frames_weight [] = 0
frames_weight (x ∷ f) = frames_weight f + frame_weight x

abbrev pub point_weight : List Frame → Focus → ℕ
point_weight f k = control_weight k + frames_weight f

-- No row's number is 256, so that so many frames and what is looked at weigh less than this.
unfoldable pub span : ℕ → ℕ
span zero = weight 256 + 1
span (suc d) = span d + weight 256

-- What falls with every move: a step counts more than all weights.
abbrev pub remaining : ℕ → Counts → ℕ → ℕ
remaining budget made weighed = (budget - steps made) * span (suc most_contexts) + weighed
