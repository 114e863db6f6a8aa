use Rattle.moves.proofs.Rounding.{turns_round}
use Rattle.moves.proofs.turn_round.Goals as goal

pub returns : goal.returns
returns c = λ waits at. rw c.push.ensures (turns_round c.args.frames.now c.args.p (rw at (c.holding-frame.ensures waits)))
