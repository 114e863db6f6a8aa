use native.Mathlib.Omega.{arith}
use Rattle.environments.specs.Kept.{frames_of}
use Rattle.environments.proofs.Stacking.{stacked_length}
use Rattle.environments.proofs.Keeping.{kept_put}
use Rattle.environments.proofs.Frames.put.Goals as goal

pub overflow_sub-self-inside : goal.overflow_sub-self-inside
overflow_sub-self-inside c = let s = c.self.inside in omega (arith, stacked_length (frames_of s.frames) s.depth, rw (← c.self.view_is) at c.requires)

pub overflow_sub-self-inside-2 : goal.overflow_sub-self-inside-2
overflow_sub-self-inside-2 c = let s = c.self.inside in omega (arith, stacked_length (frames_of s.frames) s.depth, rw (← c.self.view_is) at c.requires)

pub returns : goal.returns
returns c = let s = c.self.inside in
    rw (← c.self.view_is) (kept_put s.frames s.depth c.args.j _ c.from.ensures (omega (arith, stacked_length (frames_of s.frames) s.depth, rw (← c.self.view_is) at c.requires)) (omega (arith, c.self.invariant)))
