-- The test is that of the definition.
use native.Mathlib.Omega.{arith}
use Rattle.std.proofs.lemmas.Grind.{common_steps}
use Rattle.std.proofs.lemmas.Bool.Decides.{nat_tests}
use Rattle.model.specs.SchemeFile.{is_name}
use Rattle.schemes.specs.Lines.{all_between}
use Rattle.schemes.proofs.Texts.{pointwise_same}
use Rattle.schemes.proofs.form.is_name.Goals as goal

pub returns-then-all_between : goal.returns-then-all_between
unfolding is_name all_between
returns-then-all_between c = grind (arith, common_steps, nat_tests, pointwise_same)

pub returns-else-all_between : goal.returns-else-all_between
unfolding is_name all_between
returns-else-all_between c = grind (arith, common_steps, nat_tests, pointwise_same)
