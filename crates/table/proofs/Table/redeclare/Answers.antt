-- A refusal leaves the lists; else one parameter is replaced where it stands.
use native.Mathlib.Omega.{arith}
use mathlib.Core.Path.{refl}
use borrow.Author.Rules.{rules}
use Rattle.tokens.specs.Names.{Few}
use Rattle.table.proofs.Names.{front_few, words_counted}
use Rattle.table.proofs.Stored.{returned, not_declared, code_past, redeclare_stored}
use Rattle.table.proofs.Table.redeclare.Goals as goal

pub returns-then-parameters-p : goal.returns-then-parameters-p
returns-then-parameters-p c = returned _ _ c.args.self _ c.refused.ensures (not_declared _ _ _ _ c.parameters.ensures.0 c.if-parameters-p.true, refl)

pub overflow_add-words : goal.overflow_add-words
overflow_add-words c = let few : Few c.front.result.now = search (front_few, rules) in omega (arith, few, c.count-words.ensures)

pub overflow_add-words-2 : goal.overflow_add-words-2
overflow_add-words-2 c = let few : Few c.front.result.now = search (front_few, rules) in omega (arith, few, c.count-words.ensures)

pub returns-then-words-code : goal.returns-then-words-code
returns-then-words-code c = returned _ _ c.args.self _ c.refused-then-words-code.ensures (
  code_past _ _ _ _ c.parameters.ensures.0 _
      (words_counted _ _ c.front.ensures _ c.count-words.ensures)
      c.if-parameters-p.false c.if-words-code.true,
  refl,
)

pub overflow_cast-self : goal.overflow_cast-self
overflow_cast-self c = let few : Few c.front.result.now = search (front_few, rules) in
    omega (arith, few, c.count-words.ensures, c.if-words-code.false)

pub returns : goal.returns
returns c = returned _ _ c.args.self _ c.accepted.ensures (
  redeclare_stored c.args.self _ _ _
      c.parameters.ensures.0 _
      (words_counted _ _ c.front.ensures _ c.count-words.ensures)
      c.if-parameters-p.false c.if-words-code.false,
  refl,
)
