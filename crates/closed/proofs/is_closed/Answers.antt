-- Each part of the condition is decided by one call.
use Rattle.closed.proofs.Answers.{no_rows, not_all_bound, tree_decides}
use Rattle.closed.proofs.is_closed.Goals as goal

pub returns-then-term_rows-eq0 : goal.returns-then-term_rows-eq0
returns-then-term_rows-eq0 c = no_rows _ _ c.term_rows.ensures.0 c.if-term_rows-eq0.true

pub returns-then-not-holds_all : goal.returns-then-not-holds_all
returns-then-not-holds_all c = not_all_bound _ _ _ c.binders.ensures c.parameters.ensures.0 c.parameters.ensures.1 _ c.holds_all.ensures c.if-not-holds_all.true

pub returns : goal.returns
returns c = tree_decides _ _ _ c.binders.ensures c.parameters.ensures.0 c.parameters.ensures.1 _ c.holds_all.ensures c.if-not-holds_all.false _ c.term_rows.ensures.0 c.if-term_rows-eq0.false _ c.is_scoped.ensures
