use Rattle.moves.specs.Moves.{as_function, as_left}
use Rattle.moves.proofs.holding.Goals as goal

pub returns-in-Argument : goal.returns-in-Argument
returns-in-Argument c = λ waits. rw c.in-Argument.is as_function

pub returns-in-Right : goal.returns-in-Right
returns-in-Right c = λ waits. rw c.in-Right.is as_left
