use native.Mathlib.Omega.{arith}
use native.Mathlib.Nat.{mul-le-mul}
use Rattle.moves.proofs.Calculating.{is_add, is_mul, is_eq, is_lt, is_gt, truth}
use Rattle.moves.proofs.operations.calculate.Goals as goal

pub overflow_mul-result : goal.overflow_mul-result
overflow_mul-result c = let h = mul-le-mul {n₁ = c.args.x} {m₁ = c.args.y} {n₂ = 4294967295} {m₂ = 4294967295} (omega arith) (omega arith) in omega (arith, h)

pub returns-in-0 : goal.returns-in-0
returns-in-0 c = is_add c.args.x c.args.y c.in-0.is

pub returns-in-1 : goal.returns-in-1
returns-in-1 c = is_mul c.args.x c.args.y c.in-1.is

pub returns-in-2 : goal.returns-in-2
returns-in-2 c = is_eq c.args.x c.args.y c.in-2.is (truth _)

pub returns-in-3 : goal.returns-in-3
returns-in-3 c = is_lt c.args.x c.args.y c.in-3.is (truth _)

pub returns-in_default : goal.returns-in_default
returns-in_default c = is_gt c.args.x c.args.y (omega arith) (truth _)
