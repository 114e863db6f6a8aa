-- The words' test, and each arm's range, is one of the three ranges of the definition.
use native.Mathlib.Omega.{arith}
use mathlib.Core.Path.{sym}
use Rattle.scheme.proofs.Codes.{stands_word, stands_variable, stands_nothing}
use Rattle.scheme.proofs.stands_for.Goals as goal

pub returns-then-code-first : goal.returns-then-code-first
returns-then-code-first c = sym (stands_word _ _ c.if-code-first.true)

pub returns-in-0-to-63 : goal.returns-in-0-to-63
returns-in-0-to-63 c = sym (stands_variable _ _ c.if-code-first.false (omega arith))

pub returns-in_default : goal.returns-in_default
returns-in_default c = sym (stands_nothing _ _ c.if-code-first.false (omega arith))
