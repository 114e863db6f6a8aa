-- `setup::describe_forms`: the descriptors of the rows below x are written, and their kinds noted.
use mathlib.Core.Path.{refl}
use borrow.Author.Count.{below_none}
use Rattle.setup.proofs.Starting.{hold_none}
use Rattle.setup.proofs.describe_forms.Goals as goal

pub loop-x-init : goal.loop-x-init
loop-x-init c = record { parts = c.requires.fact_1; described = below_none _; left = λ d j h none. refl; kinds = hold_none _ _ }
