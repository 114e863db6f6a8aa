-- The test is that of the definition.
use native.Mathlib.Omega.{arith}
use Rattle.std.proofs.lemmas.Grind.{common_steps}
use Rattle.std.proofs.lemmas.Bool.Decides.{nat_tests}
use Rattle.model.specs.SchemeFile.{is_bits}
use Rattle.schemes.specs.Lines.{all_between}
use Rattle.schemes.proofs.form.is_bits.Goals as goal

pub returns-then-s-eq-OPERATIONS : goal.returns-then-s-eq-OPERATIONS
unfolding is_bits all_between
returns-then-s-eq-OPERATIONS c = grind (arith, common_steps, nat_tests)

pub returns-else-s-eq-OPERATIONS : goal.returns-else-s-eq-OPERATIONS
unfolding is_bits
returns-else-s-eq-OPERATIONS c = grind (arith, common_steps, nat_tests)
