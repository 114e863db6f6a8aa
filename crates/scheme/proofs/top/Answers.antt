-- The entry is read from its place.
use mathlib.Core.Path.{refl}
use Rattle.scheme.specs.Rule.{top_at}
use Rattle.scheme.proofs.top.Goals as goal

pub returns : goal.returns
unfolding top_at
returns c = refl
