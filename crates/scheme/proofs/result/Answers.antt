-- The arm for ADD and MUL is taken exactly where the definition keeps the operands' qualifier.
use Prim.Native.Nat.{◌≤◌}
use native.Mathlib.Omega.{arith}
use borrow.Author.Tests.{lt-ltb, le-ltb}
use Rattle.scheme.specs.Operation.{result_of}
use Rattle.scheme.proofs.result.Goals as goal

pub returns-in-0 : goal.returns-in-0
unfolding result_of
returns-in-0 c = simp (lt-ltb _ _ c.in-0.is)

pub returns-in_default : goal.returns-in_default
unfolding result_of
returns-in_default c = let past : 2 ≤ c.args.operation = omega arith in simp (le-ltb _ _ past)
