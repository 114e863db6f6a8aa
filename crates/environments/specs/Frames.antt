-- The frames of an array as a list, the innermost first.
use Rattle.std.specs.Prelude.{ℕ, zero, suc, List, [], ◌∷◌, get_or}
use Rattle.environments.specs.declared.Focus.{Focus}
use Rattle.environments.specs.declared.Frame.{Frame}

abbrev pub no_frame : Frame
no_frame = Frame.Argument (Focus.Row 0 0)

abbrev pub frame_in : List Frame → ℕ → Frame
frame_in f d = get_or f d no_frame

unfoldable pub stacked : List Frame → ℕ → List Frame
stacked f zero = []
stacked f (suc d) = frame_in f d ∷ stacked f d
