-- `unification::merge_roots`: each exit by the kinds of the two roots.
use native.Mathlib.Omega.{arith}
use mathlib.Core.Logic.{inl, inr}
use mathlib.Core.Path.{refl, sym}
use Rattle.unification.proofs.Merging.{merged_one, merged_arrows}
use Rattle.unification.proofs.merge_roots.Goals as goal

pub returns-then-k-eq-UNKNOWN : goal.returns-then-k-eq-UNKNOWN
returns-then-k-eq-UNKNOWN c =
    let m = merged_one c.requires.fact_1 c.requires.fact_2 (inr refl) c.link.ensures (inl c.if-k-eq-UNKNOWN.true) (inr refl) in
    record { fact_1 = m.0; fact_2 = m.1.0; fact_3 = m.1.1 }

pub returns-then-l-eq-UNKNOWN : goal.returns-then-l-eq-UNKNOWN
returns-then-l-eq-UNKNOWN c =
    let m = merged_one c.requires.fact_1 c.requires.fact_2 (inl refl) c.link-then-l-eq-UNKNOWN.ensures (inr refl) (inl c.if-l-eq-UNKNOWN.true) in
    record { fact_1 = m.0; fact_2 = m.1.0; fact_3 = m.1.1 }

pub returns-then-k-l : goal.returns-then-k-l
returns-then-k-l c =
    let m = merged_one c.requires.fact_1 c.requires.fact_2 (inl refl) c.link-then-k-l.ensures (inr refl) (inr (sym c.if-k-l.true)) in
    record { fact_1 = m.0; fact_2 = m.1.0; fact_3 = m.1.1 }

pub returns : goal.returns
returns c =
    let m = merged_arrows c.requires.fact_1 c.requires.fact_2 (inl refl) c.link-2.ensures refl (omega arith) (omega arith) in
    record { fact_1 = m.0; fact_2 = m.1.0; fact_3 = m.1.1 }
