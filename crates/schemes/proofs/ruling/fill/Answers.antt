-- The parts stand one after the other.
use mathlib.Core.List.{[], ◌∷◌}
use mathlib.Core.Path.{◌≡◌, refl, sym, ap, ◌∙◌}
use lib.ListN.{length}
use Rattle.std.proofs.lemmas.List.{drop_at}
use Rattle.schemes.proofs.Entries.{ruled}
use Rattle.schemes.proofs.ruling.fill.Goals as goal

pub returns : goal.returns
returns c = λ T counted few is.
    let d = c.args.derived.now in
    let meets : length d.meets ≡ 81 = ap length (sym c.copy_from_slice.ensures.after) ∙ c.copy_from_slice.ensures.len in
    let highest : length d.highest ≡ 5 =
    ap length (sym c.copy_from_slice-2.ensures.after)
    ∙ c.copy_from_slice-2.ensures.len
    ∙ rw (drop_at c.copy_from_slice.new.self (0 ∷ 0 ∷ 0 ∷ 0 ∷ 0 ∷ 0 ∷ 0 ∷ []) 81 c.copy_from_slice.ensures.len) refl in
    rw (c.copy_from_slice.ensures.after, c.copy_from_slice-2.ensures.after) (ruled d c.args.qualifiers meets highest T counted few is)
