-- `rows::app_row`: each way out by the kind of the function's root.
use Prim.Native.Nat.{◌≤◌}
use native.Mathlib.Omega.{arith}
use mathlib.Core.Path.{refl}
use Rattle.graph.specs.Types.{kind_at}
use Rattle.unification.proofs.Merging.{at_root}
use Rattle.rows.proofs.Applications.{ready_root, app_unknown, app_int, app_arrow}
use Rattle.rows.proofs.app_row.Goals as goal

pub bind_row-requires-clause-fact_1 : goal.bind_row-requires-clause-fact_1
bind_row-requires-clause-fact_1 c = let at = at_root c.requires.fact_1 (omega (arith, c.requires.fact_4.0, c.requires.fact_4.1)) (rw c.row_type.ensures at c.root-function.ensures) in
    at.classes

pub bind_row-requires-clause-fact_5 : goal.bind_row-requires-clause-fact_5
bind_row-requires-clause-fact_5 c = let at = at_root c.requires.fact_1 (omega (arith, c.requires.fact_4.0, c.requires.fact_4.1)) (rw c.row_type.ensures at c.root-function.ensures) in
    ready_root _ _ _ _ _ _ _ _ _ c.requires.fact_4 c.requires.fact_5 at

pub returns-then-k-eq-UNKNOWN : goal.returns-then-k-eq-UNKNOWN
returns-then-k-eq-UNKNOWN c = let at = at_root c.requires.fact_1 (omega (arith, c.requires.fact_4.0, c.requires.fact_4.1)) (rw c.row_type.ensures at c.root-function.ensures) in
    app_unknown _ _ _ _ _ _ _ _ _ c.requires.fact_4 c.requires.fact_5 at _ c.bind_row.result c.bind_row.ensures

pub returns-then-k-eq-INT : goal.returns-then-k-eq-INT
returns-then-k-eq-INT c = let at = at_root c.requires.fact_1 (omega (arith, c.requires.fact_4.0, c.requires.fact_4.1)) (rw c.row_type.ensures at c.root-function.ensures) in
    app_int _ _ _ _ _ _ _ _ _ c.requires.fact_4 c.requires.fact_5 at c.if-k-eq-INT.true

pub call_row-requires-clause-fact_1 : goal.call_row-requires-clause-fact_1
call_row-requires-clause-fact_1 c = let at = at_root c.requires.fact_1 (omega (arith, c.requires.fact_4.0, c.requires.fact_4.1)) (rw c.row_type.ensures at c.root-function.ensures) in
    at.classes

pub call_row-requires-clause-fact_5 : goal.call_row-requires-clause-fact_5
call_row-requires-clause-fact_5 c = let at = at_root c.requires.fact_1 (omega (arith, c.requires.fact_4.0, c.requires.fact_4.1)) (rw c.row_type.ensures at c.root-function.ensures) in
    ready_root _ _ _ _ _ _ _ _ _ c.requires.fact_4 c.requires.fact_5 at

pub returns : goal.returns
returns c = let at = at_root c.requires.fact_1 (omega (arith, c.requires.fact_4.0, c.requires.fact_4.1)) (rw c.row_type.ensures at c.root-function.ensures) in
    let two : 2 ≤ kind_at c.args.state.now.types.kinds c.root-function.result = omega (arith, c.if-k-eq-UNKNOWN.false, c.if-k-eq-INT.false) in
    app_arrow _ _ _ _ _ _ _ _ _ c.requires.fact_4 c.requires.fact_5 at two refl _ c.call_row.result c.call_row.ensures
