-- The entry is read from its place.
use mathlib.Core.Path.{refl}
use native.Mathlib.Omega.{arith}
use Rattle.scheme.specs.Rule.{words_at}
use Rattle.scheme.proofs.words.Goals as goal

pub overflow_cast-result : goal.overflow_cast-result
unfolding words_at
overflow_cast-result c = omega (arith, c.requires.few)

pub returns : goal.returns
unfolding words_at
returns c = refl
