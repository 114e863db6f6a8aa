-- Bytes of the word's length are compared with it pair by pair.
use Rattle.std.proofs.Common.{ℕ, nat_eq, rules, tests, ne_eqb, ◌∙◌}
use Rattle.std.specs.Char.{to_ascii_uppercase}
use Rattle.std.proofs.lemmas.Iterator.{YieldsList-from_slice, YieldsList-from_zip}
use Rattle.std.proofs.lemmas.Iterator.Search.{all_from_yields_List}
use Rattle.tokens.proofs.Spelling.{spells_length, spells_pairs}
use Rattle.tokens.proofs.words.spells.Goals as goal

pub returns-then-s-word : goal.returns-then-s-word
returns-then-s-word c =
    spells_pairs c.args.s.now c.args.word.now c.if-s-word.true c.all.result
    (all_from_yields_List (λ (p : ℕ × ℕ). nat_eq (to_ascii_uppercase p.0) p.1) c.all.new.self _ c.all.result c.all.ensures.ran
    (YieldsList-from_zip (YieldsList-from_slice c.args.s.now cc) (YieldsList-from_slice c.args.word.now cc))
    (λ x b q k. search (rules, tests)))

pub returns-else-s-word : goal.returns-else-s-word
returns-else-s-word c = ne_eqb _ _ c.if-s-word.false ∙ spells_length c.args.s.now c.args.word.now c.if-s-word.false
