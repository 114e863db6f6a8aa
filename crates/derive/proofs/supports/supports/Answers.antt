-- PLAIN supports all, a scheme what its digits say, and no scheme has a place past them.
use Rattle.derive.proofs.Filling.{supports_plain, supports_digit, supports_none}
use Rattle.derive.proofs.supports.supports.Goals as goal

pub returns-then-c-eq0 : goal.returns-then-c-eq0
returns-then-c-eq0 c = supports_plain _ _ _ c.if-c-eq0.true

pub returns-then-o-lt-OPERATIONS : goal.returns-then-o-lt-OPERATIONS
returns-then-o-lt-OPERATIONS c = supports_digit _ _ _ c.if-c-eq0.false c.if-o-lt-OPERATIONS.true

pub returns-else-o-lt-OPERATIONS : goal.returns-else-o-lt-OPERATIONS
returns-else-o-lt-OPERATIONS c = supports_none _ _ _ c.if-c-eq0.false c.if-o-lt-OPERATIONS.false
