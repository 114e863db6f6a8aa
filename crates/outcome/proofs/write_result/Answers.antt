-- Each of the three results field by field; none has more than 24 bytes.
use native.Mathlib.Omega.{arith}
use Rattle.outcome.proofs.Lines.{number_room, number_near, tag_room, tag_near, number_result, function_result, refusal_result}
use Rattle.outcome.proofs.write_result.Goals as goal

pub write_number-second-requires : goal.write_number-second-requires
write_number-second-requires c = number_room _ _ _ c.requires.fact_2 _ (omega arith) c.write_text-first.ensures _ (omega arith)

pub write_named-requires-clause-fact_2 : goal.write_named-requires-clause-fact_2
write_named-requires-clause-fact_2 c = tag_room _ _ _ c.requires.fact_2 _ (omega arith) c.write_text-first.ensures _ (omega arith) _ _ c.write_number-second.ensures _ _ c.requires.fact_1

pub write_number-requires : goal.write_number-requires
write_number-requires c = number_room _ _ _ c.requires.fact_2 _ (omega arith) c.write_text-next.ensures _ (omega arith)

pub returns-in-Number : goal.returns-in-Number
returns-in-Number c = (
  number_result _ _ _ _ c.in-Ok.is c.in-Number.is c.write_text-first.ensures c.write_number-second.ensures c.write_named.ensures,
  tag_near _ _ _ c.requires.fact_2 _ (omega arith) c.write_text-first.ensures _ (omega arith) _ _ c.write_number-second.ensures _ _ c.requires.fact_1 _ _ c.write_named.ensures,
)

pub returns-in-Function : goal.returns-in-Function
returns-in-Function c = (function_result _ _ c.in-Ok.is c.in-Function.is c.write_text.ensures, omega (arith, c.write_text.ensures.end))

pub returns-in-Err : goal.returns-in-Err
returns-in-Err c = (
  refusal_result _ _ _ c.in-Err.is c.from.ensures c.write_text-next.ensures c.write_number.ensures,
  omega (arith, number_near _ _ _ c.requires.fact_2 _ (omega arith) c.write_text-next.ensures _ (omega arith) _ _ c.write_number.ensures),
)
