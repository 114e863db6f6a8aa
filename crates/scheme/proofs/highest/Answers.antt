-- Each arm returns the definition's entry for its codes, and the last arm what stands past the list's end.
use mathlib.Core.Path.{sym, ap}
use native.Mathlib.Omega.{arith}
use Rattle.scheme.specs.Operation.{highest_of}
use Rattle.scheme.proofs.Operation.{highest_compare, highest_none}
use Rattle.scheme.proofs.highest.Goals as goal

pub returns-in-0 : goal.returns-in-0
unfolding highest_of
returns-in-0 c = sym (ap highest_of c.in-0.is)

pub returns-in-1 : goal.returns-in-1
unfolding highest_of
returns-in-1 c = sym (ap highest_of c.in-1.is)

pub returns-in-2 : goal.returns-in-2
unfolding highest_of
returns-in-2 c = sym (ap highest_of c.in-2.is)

pub returns-in-3 : goal.returns-in-3
returns-in-3 c = sym (highest_compare _ (omega arith) (omega arith))

pub returns-in_default : goal.returns-in_default
returns-in_default c = sym (highest_none _ (omega arith))
