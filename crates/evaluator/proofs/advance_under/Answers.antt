use Rattle.evaluator.proofs.Advancing.{either_waits, underway_as, called_is, made_within, held_row, by_round, by_call, no_call}
use Rattle.evaluator.proofs.advance_under.Goals as goal

pub returns-in-Argument-clause-advanced : goal.returns-in-Argument-clause-advanced
returns-in-Argument-clause-advanced c =
    by_round c.args.terms.now c.args.words.now (c.turn_round.ensures (either_waits c.args.top c.in-Argument.is) c.requires.fact_1.2)

pub returns-in_default-clause-advanced : goal.returns-in_default-clause-advanced
returns-in_default-clause-advanced c = rw c.in-Called.is (no_call c.args.terms.now c.args.words.now c.requires.fact_1.1 c.requires.fact_1.2 c.in_default.not-Function)

pub bounds-terms-row : goal.bounds-terms-row
bounds-terms-row c = (held_row (underway_as (called_is c.in-Called.is c.in-Function.is) c.requires.fact_3) c.requires.fact_1.2).0

pub apply-requires-clause-fact_1 : goal.apply-requires-clause-fact_1
apply-requires-clause-fact_1 c = (
  c.requires.fact_1.0,
  made_within c.requires.fact_3,
  (held_row (underway_as (called_is c.in-Called.is c.in-Function.is) c.requires.fact_3) c.requires.fact_1.2).1,
)

pub returns-in-Function-clause-advanced : goal.returns-in-Function-clause-advanced
returns-in-Function-clause-advanced c =
    rw (called_is c.in-Called.is c.in-Function.is) (by_call c.args.terms.now c.args.words.now c.requires.fact_1.1 c.requires.fact_1.2 c.apply.ensures.applied)
