-- The code of a variable is stored at its number; a word's code and any other name none.
use mathlib.Core.Path.{sym, refl, ◌∙◌}
use borrow.Author.Rules.{rules}
use Rattle.slots.proofs.Variables.{variable_code_lem, word_unnamed, nothing_unnamed, unnamed, one_filled}
use Rattle.slots.proofs.fill_variable.Goals as goal

pub bounds-variables-k : goal.bounds-variables-k
bounds-variables-k c = (variable_code_lem _ _ _ (sym c.stands_for.ensures ∙ c.in-Variable.is)).0

pub returns-in-Word : goal.returns-in-Word
returns-in-Word c = unnamed _ _ _ _ (λ k h e. word_unnamed _ _ k h e _ (sym c.stands_for.ensures ∙ c.in-Word.is))

pub returns-in-Variable : goal.returns-in-Variable
returns-in-Variable c = let named = variable_code_lem _ _ _ (sym c.stands_for.ensures ∙ c.in-Variable.is) in
    let small = named.0 in
    one_filled _ _ _ _ named.1 (search (small, rules)) refl

pub returns-in-Nothing : goal.returns-in-Nothing
returns-in-Nothing c = unnamed _ _ _ _ (λ k h e. nothing_unnamed _ _ k h e (sym c.stands_for.ensures ∙ c.in-Nothing.is))
