-- `unification::unify` and `unify_arrows`: a merge and what it leaves; two arrows by their parts.
use native.Mathlib.Omega.{arith}
use Rattle.std.specs.Prelude.{Ok, Err}
use Rattle.forest.specs.Pairs.{pairs_of}
use Rattle.unification.proofs.Answering.{joined, apart, joined_after, lost_after, merged_confined, arrows_apart, arrows_joined, arrows_below}
use Rattle.unification.proofs.+unify_unify_arrows.Goals as goal

pub unify-returns-in-Ok-None : goal.unify-returns-in-Ok-None
unify-returns-in-Ok-None t c =
    let ensures = rw c.in-Ok-None.field-0-is at c.in-Ok-None.ensures in
    (joined c.requires.1.1.0 (ensures.fact_1 _), ((λ m ha hb unused pairs. (ensures.fact_2 m c.args.kids.now ha hb unused, pairs)), ensures.fact_3.0))

pub unify-unify_arrows-requires : goal.unify-unify_arrows-requires
unify-unify_arrows-requires t c =
    let merged = (rw c.in-Ok-Some.field-0-is at c.in-Ok-Some.ensures).fact_1 in
    let room = c.requires.1.1.0 in
    (omega (arith, merged.0, c.decreases), ((merged.3 c.args.kids.now).classes, (c.requires.1.0, (room.pairs, (omega (arith, merged.0, room.enough), merged.1.0, merged.2.0)))))

pub unify-returns-in-Ok : goal.unify-returns-in-Ok
unify-returns-in-Ok t c =
    let ensures = rw c.in-Ok-Some.field-0-is at c.in-Ok-Some.ensures in
    let merged = ensures.fact_1 in
    let rest = c.in-Ok.ensures in (
      joined_after (merged.3 _) rest.0,
      (merged_confined _ (pairs_of c.unify_arrows.new.notes) _ (Ok c.in-Ok.m) ensures.fact_2 merged.1.1 merged.2.1 rest.1, λ given. absurd (ensures.fact_3.1 given)),
    )

pub unify-returns-in-Err-unify_arrows : goal.unify-returns-in-Err-unify_arrows
unify-returns-in-Err-unify_arrows t c =
    let ensures = rw c.in-Ok-Some.field-0-is at c.in-Ok-Some.ensures in
    let merged = ensures.fact_1 in
    let rest = c.in-Err-unify_arrows.ensures in
    let conflict = c.in-Err-unify_arrows.field-0 in (
      lost_after (merged.3 _) (pairs_of c.args.notes.now) c.unify_arrows.new.types (pairs_of c.unify_arrows.new.notes) c.args.n conflict rest.0,
      (merged_confined _ (pairs_of c.unify_arrows.new.notes) _ (Err conflict) ensures.fact_2 merged.1.1 merged.2.1 rest.1, λ given. absurd (ensures.fact_3.1 given)),
    )

pub unify-returns-in-Err : goal.unify-returns-in-Err
unify-returns-in-Err t c =
    let ensures = c.in-Err.ensures in
    (apart c.args.kids.now c.args.types.now c.merge.new.types (pairs_of c.args.notes.now) c.args.n c.args.a c.args.b c.in-Err.clash ensures.fact_1, ((λ m ha hb unused pairs. (ensures.fact_2 m c.args.kids.now ha hb unused, tt)), ensures.fact_3.0))

pub unify_arrows-returns-in-Ok : goal.unify_arrows-returns-in-Ok
unify_arrows-returns-in-Ok t c =
    let noted = c.note_arrows-both.ensures in
    let is_a = c.part-a.ensures.0 in
    let is_b = c.part-b.ensures.0 in
    let is_x = c.part-x.ensures.0 in
    let is_y = c.part-y.ensures.0 in
    let one = c.in-Ok.ensures in
    let two = c.unify-in-Ok in (
      arrows_joined _ _ _ _ two.result noted is_a is_b one.0 is_x is_y two.ensures.0,
      λ l d e unused pairs.
          let f = arrows_below noted is_a is_b l d e pairs in
          let g = one.1.0 l f.0 f.1 unused f.2 in
          two.ensures.1.0 l (omega (arith, is_x, d.result_node)) (omega (arith, is_y, e.result_node)) g.0 g.1,
    )

pub unify_arrows-returns-in-Err : goal.unify_arrows-returns-in-Err
unify_arrows-returns-in-Err t c =
    let is_a = c.part-a.ensures.0 in
    let is_b = c.part-b.ensures.0 in
    let one = c.in-Err.ensures in (
      arrows_apart _ _ c.unify.new.types (pairs_of c.args.notes.now) (pairs_of c.note_arrows-both.new.notes) (pairs_of c.unify.new.notes) c.args.n c.note_arrows-both.result c.args.d c.args.e _ _ c.in-Err.conflict is_a is_b one.0,
      λ l wd we unused pairs. let f = arrows_below c.note_arrows-both.ensures is_a is_b l wd we pairs in one.1.0 l f.0 f.1 unused f.2,
    )
