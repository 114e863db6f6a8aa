-- A bit is set by `|` with a power of two.
use Rattle.closed.proofs.Bits.{inserted}
use Rattle.closed.proofs.members.insert.Goals as goal

pub returns-then-p-lt64 : goal.returns-then-p-lt64
returns-then-p-lt64 c = λ q below. inserted _ _ q c.if-p-lt64.true
