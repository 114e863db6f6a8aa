-- The words are the fields of their text, and each is compared in its turn.
use Rattle.std.proofs.Common.{◌<◌, ◌≡◌, length, get_or, nat_eq, refl, rules, arith}
use Rattle.std.proofs.lemmas.List.{length_push}
use Rattle.std.proofs.lemmas.Iterator.Consumers.{YieldsList-at, YieldsList-turn, YieldsList-end}
use Rattle.std.proofs.lemmas.Iterator.Splits.{YieldsList-from_slice_split}
use Rattle.model.specs.Line.{fields}
use Rattle.tokens.proofs.Parting.{fields_split}
use Rattle.tokens.proofs.Spelling.{look_first, look_end, look_here, look_next}
use Rattle.tokens.proofs.words.look_up.Goals as goal
use Rattle.tokens.proofs.words.look_up.Goals.{In-Some}

turn : (c : In-Some) → (length c.loop-word.yielded < length (fields c.args.words.now)) × (c.in-Some.word.now ≡ get_or (fields c.args.words.now) (length c.loop-word.yielded) c.in-Some.word.now)
turn c =
    rw (fields_split c.args.words.now) at (YieldsList-turn
    (YieldsList-at c.into_iter-word-iterator.ensures.into_iter_gives
    (YieldsList-from_slice_split _ (λ b. nat_eq b 44) c.args.words.now c.split-word-items.ensures.rest c.split-word-items.ensures.done c.split-word-items.ensures.closure (λ x b q k. search rules)))
    c.loop-word.yielded _ c.loop-word.yielded_by _ _ c.in-Some.word c.in-Some.is c.next.ensures.steps)

pub loop-word-init : goal.loop-word-init
loop-word-init c = (refl, look_first _ _)

pub returns-then-spells : goal.returns-then-spells
returns-then-spells c = look_here _ _ _ c.loop-word.invariant.1 _ c.loop-word.invariant.0 _ (turn (goal.at.returns-then-spells c).In-Some) _ c.spells.ensures c.if-spells.true

pub loop-word-preserved : goal.loop-word-preserved
loop-word-preserved c =
    let counted : c.loop-word.at ≡ length c.loop-word.yielded = c.loop-word.invariant.0 in
    (omega (arith, length_push c.loop-word.yielded c.in-Some.word), look_next _ _ _ c.loop-word.invariant.1 _ counted _ (turn (goal.at.loop-word-preserved c).In-Some) _ c.spells.ensures c.if-spells.false)

pub returns : goal.returns
returns c =
    let all = rw (fields_split c.args.words.now) at (YieldsList-end
    (YieldsList-at c.into_iter-word-iterator.ensures.into_iter_gives
    (YieldsList-from_slice_split _ (λ b. nat_eq b 44) c.args.words.now c.split-word-items.ensures.rest c.split-word-items.ensures.done c.split-word-items.ensures.closure (λ x b q k. search rules)))
    c.loop-word.yielded _ c.loop-word.yielded_by _ _ c.in-None.is c.next.ensures.steps) in
    let count : length c.loop-word.yielded ≡ length (fields c.args.words.now) = all.1 in
    look_end _ _ _ c.loop-word.invariant.1 (omega arith)
