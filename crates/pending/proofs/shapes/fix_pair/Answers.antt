-- `pending::shapes::fix_pair`: each exit by the roots of the two nodes.
use native.Mathlib.Omega.{arith}
use mathlib.Core.Logic.{⊎_elim}
use mathlib.Core.Path.{refl}
use Rattle.pending.specs.Shapes.{kept, made}
use Rattle.pending.proofs.Fixing.{no_scheme}
use Rattle.pending.proofs.shapes.fix_pair.Goals as goal

pub returns-then-types-r-ne-UNKNOWN : goal.returns-then-types-r-ne-UNKNOWN
returns-then-types-r-ne-UNKNOWN c = (kept c.find-r.ensures (λ e. absurd (c.if-types-r-ne-UNKNOWN.true e)), refl)

pub returns-then-s-words : goal.returns-then-s-words
returns-then-s-words c = (
  made c.find-r.ensures c.if-types-r-ne-UNKNOWN.false
      (record { root = c.find-s.result; found = c.find-s.ensures; scheme = (omega arith, omega arith) }),
  refl,
)

pub returns-else-s-gt0 : goal.returns-else-s-gt0
returns-else-s-gt0 c = (kept c.find-r.ensures (λ e. no_scheme c.find-s.ensures (λ some few. ⊎_elim (λ h. omega arith) (λ h. omega arith) c.else-s-gt0.either)), refl)
