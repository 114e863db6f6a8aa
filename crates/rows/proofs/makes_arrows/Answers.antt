-- `rows::makes_arrows`: each exit by the kinds of the two roots.
use Rattle.rows.proofs.Unifying.{foreseen_one, foreseen_none}
use Rattle.rows.proofs.makes_arrows.Goals as goal

pub returns-then-a-b : goal.returns-then-a-b
returns-then-a-b c = foreseen_one _ c.find-a.ensures c.find-b.ensures c.requires.fact_2 c.if-a-b.true

pub returns : goal.returns
returns c = foreseen_none _ c.find-a.ensures c.find-b.ensures c.requires.fact_2 c.if-types-a-ge-FIRST_ARROW.false c.if-types-b-ge-FIRST_ARROW.false
