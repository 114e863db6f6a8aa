-- The bytes compute to the table of the six, and the ruling is theirs.
use native.Mathlib.Omega.{arith}
use mathlib.Core.Path.{refl}
use Rattle.scheme.proofs.Six.{six_sound}
use Rattle.scheme.specs.Six.{six_table}
use Rattle.schemes.specs.Schemes.{table_in}
use Rattle.schemes.proofs.Schemes.six.Goals as goal

pub returns : goal.returns
unfolding table_in
returns c = (refl, record { sound = six_sound; ruled = c.fill.ensures six_table refl (omega arith) c.six.ensures })
