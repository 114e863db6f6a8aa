-- So many frames of the array as have been seen stand.
use mathlib.Core.Path.{◌≡◌}
use Rattle.environments.specs.Frames.{stacked}
use Rattle.environments.proofs.Frames.first.Given as goal

abbrev pub invariant-loop-frame : goal.invariant-loop-frame
invariant-loop-frame l = l.first ≡ stacked l.fn.frames l.frame-index
