-- The answer in the buffer goes to its place.
use native.Mathlib.Omega.{arith}
use lib.ListN.{length-take}
use Rattle.script.proofs.Conversing.{turns}
use borrow.Author.Rules.{rules}
use Rattle.script.proofs.answer_at.Goals as goal

pub slice_bounds-put-end : goal.slice_bounds-put-end
slice_bounds-put-end g c = simp length-take (omega (arith, c.answer-turn.ensures.fits))

pub returns : goal.returns
returns g c = search (turns, rules)
