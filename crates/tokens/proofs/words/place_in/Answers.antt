-- The place is below the number of words, so its code fits.
use native.Mathlib.Omega.{arith}
use Rattle.std.proofs.Common.{◌∙◌}
use Rattle.tokens.proofs.Spelling.{ok_place, ok_below, ok_none}
use Rattle.tokens.proofs.words.place_in.Goals as goal

pub returns-in_err-at : goal.returns-in_err-at
returns-in_err-at c = c.from_residual.ensures ∙ ok_none _ _ _ c.look_up.ensures _ c.ok.ensures.value _ c.in_err-at.was

pub overflow_cast-result : goal.overflow_cast-result
overflow_cast-result c = omega (arith, ok_below _ _ _ c.look_up.ensures _ c.ok.ensures.value _ c.in_ok-at.was)

pub overflow_add-result : goal.overflow_add-result
overflow_add-result c = omega (arith, ok_below _ _ _ c.look_up.ensures _ c.ok.ensures.value _ c.in_ok-at.was)

pub returns : goal.returns
returns c = ok_place _ _ _ c.look_up.ensures _ c.ok.ensures.value _ _ c.in_ok-at.was
