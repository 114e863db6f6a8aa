-- A bit is read by a shift, and none from 64 on is set.
use mathlib.Core.Path.{refl, ◌∙◌}
use borrow.Author.Tests.{le-ltb}
use Rattle.closed.specs.Members.{member}
use Rattle.closed.proofs.Bits.{none_past}
use Rattle.closed.proofs.members.holds.Goals as goal

pub returns-then-p-lt64 : goal.returns-then-p-lt64
unfolding member
returns-then-p-lt64 c = refl

pub returns-else-p-lt64 : goal.returns-else-p-lt64
returns-else-p-lt64 c = le-ltb _ _ c.if-p-lt64.false ∙ none_past _ _ c.ranges.set.fits c.if-p-lt64.false
