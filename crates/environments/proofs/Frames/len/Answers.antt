use native.Mathlib.Omega.{arith}
use Rattle.environments.specs.Kept.{frames_of}
use Rattle.environments.proofs.Stacking.{stacked_length}
use Rattle.environments.proofs.Frames.len.Goals as goal

pub returns : goal.returns
returns c = let s = c.self.inside in (rw (← c.self.view_is) (omega (arith, stacked_length (frames_of s.frames) s.depth)), c.self.invariant)
