use native.Mathlib.Omega.{arith}
use Rattle.environments.specs.Kept.{frames_of}
use Rattle.environments.proofs.Stacking.{stacked_length}
use Rattle.environments.proofs.Keeping.{kept_more}
use Rattle.environments.proofs.Frames.push.Goals as goal

pub bounds-self-inside-self-inside : goal.bounds-self-inside-self-inside
bounds-self-inside-self-inside c = let s = c.self.inside in omega (arith, stacked_length (frames_of s.frames) s.depth, rw (← c.self.view_is) at c.requires)

pub invariant_of-self : goal.invariant_of-self
invariant_of-self c = let s = c.self.inside in omega (arith, stacked_length (frames_of s.frames) s.depth, rw (← c.self.view_is) at c.requires)

pub returns : goal.returns
returns c = let s = c.self.inside in rw (← c.self.view_is) (kept_more s.frames s.depth _ c.from.ensures (omega (arith, stacked_length (frames_of s.frames) s.depth, rw (← c.self.view_is) at c.requires)))
