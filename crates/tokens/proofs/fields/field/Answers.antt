-- The parts at the commas are the fields.
use Rattle.std.proofs.Common.{nat_eq, refl, rules, ap, ◌∙◌}
use Rattle.std.proofs.lemmas.Iterator.Consumers.{nth_from_yields_List}
use Rattle.std.proofs.lemmas.Iterator.Splits.{YieldsList-from_slice_split}
use Rattle.tokens.proofs.Parting.{part_or_empty}
use Rattle.tokens.proofs.fields.field.Goals as goal

pub returns : goal.returns
returns c =
    ap (λ r. r.now) c.unwrap_or.ensures
    ∙ part_or_empty (λ r. r.now) c.nth.result _ c.args.s.now c.args.k refl
    (nth_from_yields_List c.nth.result _ c.args.k c.nth.ensures.ran
    (YieldsList-from_slice_split _ (λ b. nat_eq b 44) c.args.s.now c.split.ensures.rest c.split.ensures.done c.split.ensures.closure (λ x b q k. search rules)))
