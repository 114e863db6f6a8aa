-- The entry is read from its place.
use mathlib.Core.Path.{refl}
use Rattle.scheme.specs.Rule.{highest_at}
use Rattle.scheme.proofs.highest_in.Goals as goal

pub returns : goal.returns
unfolding highest_at
returns c = refl
