-- The entry is read from its place.
use mathlib.Core.Path.{refl}
use Rattle.scheme.specs.Rule.{meet_at}
use Rattle.scheme.proofs.meet_in.Goals as goal

pub returns : goal.returns
unfolding meet_at
returns c = refl
