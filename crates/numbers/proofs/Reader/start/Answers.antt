use mathlib.Core.Path.{refl}
use Rattle.numbers.specs.OnePass.{after}
use Rattle.numbers.proofs.Reader.start.Goals as goal

pub returns : goal.returns
unfolding after
returns c = refl
