-- The test is that of the definition.
use native.Mathlib.Omega.{arith}
use Rattle.std.proofs.lemmas.Grind.{common_steps}
use Rattle.std.proofs.lemmas.Bool.Decides.{nat_tests}
use Rattle.model.specs.SchemeFile.{is_scheme_line}
use Rattle.schemes.proofs.Texts.{pointwise_same}
use Rattle.schemes.proofs.form.is_scheme_line.Goals as goal

pub returns-then-is_name : goal.returns-then-is_name
unfolding is_scheme_line
returns-then-is_name c = grind (arith, common_steps, nat_tests, pointwise_same)

pub returns-else-is_name : goal.returns-else-is_name
unfolding is_scheme_line
returns-else-is_name c = grind (arith, common_steps, nat_tests, pointwise_same)
