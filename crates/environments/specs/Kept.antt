-- The frames that an array keeps.
use Rattle.std.specs.Prelude.{List, map}
use Rattle.environments.specs.declared.Datum.{Datum}
use Rattle.environments.specs.declared.Focus.{Focus}
use Rattle.environments.specs.declared.Frame.{Frame}
use Rattle.environments.specs.declared.kept.Kept.{Kept}

-- The frame that is kept.
abbrev pub frame_of : Kept → Frame
frame_of (Kept.ArgumentRow row place) = Frame.Argument (Focus.Row row place)
frame_of (Kept.ArgumentNumber tag n) = Frame.Argument (Focus.Datum (Datum.Number tag n))
frame_of (Kept.ArgumentFunction row place) = Frame.Argument (Focus.Datum (Datum.Function row place))
frame_of (Kept.RightRow o row place) = Frame.Right o (Focus.Row row place)
frame_of (Kept.RightNumber o tag n) = Frame.Right o (Focus.Datum (Datum.Number tag n))
frame_of (Kept.RightFunction o row place) = Frame.Right o (Focus.Datum (Datum.Function row place))
frame_of (Kept.CalledNumber tag n) = Frame.Called (Datum.Number tag n)
frame_of (Kept.CalledFunction row place) = Frame.Called (Datum.Function row place)
frame_of (Kept.LeftNumber o tag n) = Frame.Left o (Datum.Number tag n)
frame_of (Kept.LeftFunction o row place) = Frame.Left o (Datum.Function row place)

-- The frames of an array.
abbrev pub frames_of : List Kept → List Frame
frames_of = map frame_of
