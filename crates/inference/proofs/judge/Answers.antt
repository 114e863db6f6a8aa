-- Each way through `judge` is one of the judgements.
use mathlib.Core.Path.{refl}
use Rattle.inference.proofs.Judging.{judges_open, judges_untypable}
use Rattle.inference.proofs.judge.Goals as goal

pub returns-then-not-is_closed : goal.returns-then-not-is_closed
returns-then-not-is_closed c = judges_open _ c.is_closed.ensures c.if-not-is_closed.true refl

pub solve-requires : goal.solve-requires
solve-requires c = (c.requires, (c.is_closed.ensures.closed c.if-not-is_closed.false).some_row)

pub above_floors-requires : goal.above_floors-requires
above_floors-requires c = (c.requires, c.is_closed.ensures.closed c.if-not-is_closed.false, c.in-Ok.ensures)

pub returns-in-Err : goal.returns-in-Err
returns-in-Err c = judges_untypable (c.is_closed.ensures.closed c.if-not-is_closed.false) c.in-Err.ensures
