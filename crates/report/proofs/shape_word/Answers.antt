-- Each arm has the word of its code.
use Prim.Native.Nat.{◌≤◌}
use native.Mathlib.Omega.{arith}
use mathlib.Core.List.{[], ◌∷◌}
use mathlib.Core.Path.{refl}
use lib.ListN.{get_or-eq_default}
use Rattle.model.specs.Inference.{Shape}
use Rattle.model.specs.Report.{shape_word}
use Rattle.report.proofs.shape_word.Goals as goal

pub returns-in-0 : goal.returns-in-0
unfolding shape_word
returns-in-0 c = rw c.in-0.is refl

pub returns-in-1 : goal.returns-in-1
unfolding shape_word
returns-in-1 c = rw c.in-1.is refl

pub returns-in_default : goal.returns-in_default
unfolding shape_word
returns-in_default c = let past : 2 ≤ c.args.code = omega arith in rw (get_or-eq_default (Shape.int ∷ Shape.arrow ∷ []) Shape.any past) refl
