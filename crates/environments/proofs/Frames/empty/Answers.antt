use mathlib.Core.Path.{refl}
use Rattle.environments.specs.Frames.{stacked}
use Rattle.environments.proofs.Frames.empty.Goals as goal

pub returns : goal.returns
unfolding stacked
returns c = refl
