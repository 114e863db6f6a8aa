-- What is shown of the roots holds of the nodes, which every reading gives what their roots have.
use Prim.Native.Nat.{◌<◌}
use native.Mathlib.Omega.{arith}
use Rattle.qualifiers.proofs.Uniting.{roots_rising, roots_falling, unite_already, unite_rising, unite_falling}
use Rattle.qualifiers.proofs.Qualifiers.unite.Goals as goal

pub returns-then-a-b : goal.returns-then-a-b
returns-then-a-b c =
    let m = unite_already (c.requires.fact_1, c.requires.fact_2) c.root-a.ensures c.root-b.ensures c.if-a-b.true in
    record { fact_1 = m.0; fact_2 = m.1 }

pub join-requires : goal.join-requires
join-requires c =
    let m = roots_rising (c.requires.fact_1, c.requires.fact_2) c.root-a.ensures c.root-b.ensures c.if-a-b-2.true in
    record { fact_1 = m.0; fact_2 = m.1 }

pub join-requires-else-a-b-2 : goal.join-requires-else-a-b-2
join-requires-else-a-b-2 c =
    let less : c.root-b.result < c.root-a.result = omega arith in
    let m = roots_falling (c.requires.fact_1, c.requires.fact_2) c.root-a.ensures c.root-b.ensures less in
    record { fact_1 = m.0; fact_2 = m.1 }

pub returns-then-a-b-2 : goal.returns-then-a-b-2
returns-then-a-b-2 c =
    let m = unite_rising (c.requires.fact_1, c.requires.fact_2) c.root-a.ensures c.root-b.ensures c.join.result c.if-a-b-2.true (c.join.ensures.fact_1, c.join.ensures.fact_2) in
    record { fact_1 = m.0; fact_2 = m.1 }

pub returns-else-a-b-2 : goal.returns-else-a-b-2
returns-else-a-b-2 c =
    let m = unite_falling (c.requires.fact_1, c.requires.fact_2) c.root-a.ensures c.root-b.ensures c.join-else-a-b-2.result (c.join-else-a-b-2.ensures.fact_1, c.join-else-a-b-2.ensures.fact_2) in
    record { fact_1 = m.0; fact_2 = m.1 }
