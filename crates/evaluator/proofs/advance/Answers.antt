use native.Mathlib.Omega.{arith}
use Rattle.evaluator.proofs.Advancing.{made_within, own_row, by_row}
use Rattle.evaluator.proofs.advance.Goals as goal

pub turn_row-requires : goal.turn_row-requires
turn_row-requires c = (omega (arith, own_row c.requires.fact_3 c.in-Row.is, made_within c.requires.fact_3), c.requires.fact_2)

pub returns-in-Row-clause-advanced : goal.returns-in-Row-clause-advanced
returns-in-Row-clause-advanced c = by_row c.args.terms.now c.args.words.now c.in-Row.is c.turn_row.ensures
