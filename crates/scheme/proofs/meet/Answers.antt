-- The constant of the code is the table of the definition, entry by entry, and both codes are places in it.
use mathlib.Core.Path.{refl}
use Rattle.scheme.specs.Meet.{meets, meet_of}
use Rattle.scheme.proofs.meet.Goals as goal

pub returns : goal.returns
unfolding meets meet_of
returns c = refl
