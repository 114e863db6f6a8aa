-- `unification::merge`: what the smaller step says of the roots holds of the nodes.
use Prim.Native.Nat.{◌<◌}
use native.Mathlib.Omega.{arith}
use Rattle.unification.proofs.Merging.{first_below, second_below, merged_same, merged_first, merged_second}
use Rattle.unification.proofs.merge.Goals as goal

pub returns-then-x-y : goal.returns-then-x-y
returns-then-x-y c =
    let m = merged_same c.requires.fact_1 c.requires.fact_2 c.root-x.ensures c.root-y.ensures c.if-x-y.true in
    record { fact_1 = m.0; fact_2 = m.1.0; fact_3 = m.1.1 }

pub merge_roots-requires : goal.merge_roots-requires
merge_roots-requires c =
    let m = first_below c.requires.fact_1 c.requires.fact_2 c.root-x.ensures c.root-y.ensures c.if-x-y-2.true in
    record { fact_1 = m.0; fact_2 = m.1 }

pub merge_roots-requires-else-x-y-2 : goal.merge_roots-requires-else-x-y-2
merge_roots-requires-else-x-y-2 c =
    let m = let less : c.root-y.result < c.root-x.result = omega arith in second_below c.requires.fact_1 c.requires.fact_2 c.root-x.ensures c.root-y.ensures less in
    record { fact_1 = m.0; fact_2 = m.1 }

pub returns-then-x-y-2 : goal.returns-then-x-y-2
returns-then-x-y-2 c =
    let m = merged_first c.requires.fact_1 c.requires.fact_2 c.root-x.ensures c.root-y.ensures c.if-x-y.false c.merge_roots.new.types.parents c.merge_roots.new.types.kinds c.merge_roots.result (c.merge_roots.ensures.fact_1, (c.merge_roots.ensures.fact_2, c.merge_roots.ensures.fact_3)) in
    record { fact_1 = m.0; fact_2 = m.1.0; fact_3 = m.1.1 }

pub returns-else-x-y-2 : goal.returns-else-x-y-2
returns-else-x-y-2 c =
    let m = merged_second c.requires.fact_1 c.requires.fact_2 c.root-x.ensures c.root-y.ensures c.if-x-y.false c.merge_roots-else-x-y-2.new.types.parents c.merge_roots-else-x-y-2.new.types.kinds c.merge_roots-else-x-y-2.result (c.merge_roots-else-x-y-2.ensures.fact_1, (c.merge_roots-else-x-y-2.ensures.fact_2, c.merge_roots-else-x-y-2.ensures.fact_3)) in
    record { fact_1 = m.0; fact_2 = m.1.0; fact_3 = m.1.1 }
