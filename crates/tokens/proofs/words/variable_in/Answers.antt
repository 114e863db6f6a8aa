-- The number is at most 63, so its code fits.
use native.Mathlib.Omega.{arith}
use Rattle.std.proofs.Common.{sym, ◌∙◌}
use Rattle.tokens.proofs.Bounds.{number_at_most}
use Rattle.tokens.proofs.words.variable_in.Goals as goal

pub overflow_add-result : goal.overflow_add-result
overflow_add-result c = omega (arith, number_at_most 63 _ _ (sym c.number_in.ensures ∙ c.in_ok-k.was))
