-- The invariant: the parents stay, and all nodes before x hold what the greatest reading gives them.
use native.Mathlib.Omega.{arith}
use Rattle.qualifiers.proofs.Readings.{settled_node, settled_rest, settled_all}
use Rattle.qualifiers.proofs.Qualifiers.settle.Goals as goal

pub loop-x-preserved : goal.loop-x-preserved
loop-x-preserved c = record {
  parents = c.loop-x.invariant.parents;
  free = omega arith;
  fits = omega arith;
  settled = settled_node c.requires.fact_1 c.requires.fact_2 c.loop-x.invariant.settled c.loop-x.invariant.parents (omega arith) c.loop-x.invariant.free;
}

pub returns-clause-fact_1 : goal.returns-clause-fact_1
returns-clause-fact_1 c =
    let inv = c.loop-x.invariant in
    let pre = c.requires in
    settled_all pre.fact_1.lattice (settled_rest pre.fact_1 pre.fact_2 inv.settled inv.free inv.fits (λ x h. pre.fact_3.1.own x (omega arith)))
