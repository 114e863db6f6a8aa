-- `pending::shapes::fix`: the parents stay, and the pairs below j are looked at.
use native.Mathlib.Omega.{arith}
use mathlib.Core.Path.{◌∙◌}
use Rattle.pending.proofs.Fixing.{fixing_more}
use Rattle.pending.proofs.shapes.fix.Goals as goal

pub loop-j-preserved : goal.loop-j-preserved
loop-j-preserved c =
    let inv = c.loop-j.invariant in
    record {
      parents = c.fix_pair.ensures.1 ∙ inv.parents;
      fixing = fixing_more (omega arith) (c.requires.fact_3.right_node c.loop-j.j (omega arith)) inv.fixing c.words-words.ensures inv.parents c.fix_pair.ensures.0;
    }
