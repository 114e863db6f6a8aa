-- The words come first, then the named variables, whose codes follow the number of words.
use native.Mathlib.Omega.{arith}
use borrow.Author.Rules.{rules}
use Rattle.tokens.proofs.Spelling.{place_below, place_counts, qualifiers}
use Rattle.tokens.proofs.words.qualifier_in.Goals as goal

pub returns-then-spells : goal.returns-then-spells
returns-then-spells c = search (qualifiers, rules)

pub overflow_cast-result : goal.overflow_cast-result
overflow_cast-result c = omega (arith, place_below _ _ _ c.look_up.ensures _ c.in-Ok.is)

pub overflow_add-result : goal.overflow_add-result
overflow_add-result c = omega (arith, place_below _ _ _ c.look_up.ensures _ c.in-Ok.is)

pub returns-in-Ok : goal.returns-in-Ok
returns-in-Ok c = search (qualifiers, rules)

pub overflow_add-count : goal.overflow_add-count
overflow_add-count c = omega (arith, place_counts _ _ _ c.look_up.ensures _ c.in-Err.is)

pub variable_in-requires : goal.variable_in-requires
variable_in-requires c = omega (arith, place_counts _ _ _ c.look_up.ensures _ c.in-Err.is)

pub returns-in-Err : goal.returns-in-Err
returns-in-Err c = search (qualifiers, rules)
