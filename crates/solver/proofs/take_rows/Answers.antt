-- `solver::take_rows`: the rows of a further run are fewer, and what a turn tells of the row at which a further run, or the first one at its first row, ends.
use Prim.Native.Nat.{ℕ, ◌≤◌}
use native.Mathlib.Omega.{arith}
use mathlib.Core.List.{List}
use mathlib.Core.Path.{subst}
use Rattle.model.specs.Machine.{Machine}
use Rattle.model.specs.declared.TermRow.{TermRow}
use Rattle.solver.specs.Runs.{Fails, Held}
use Rattle.solver.proofs.Ready.{row_of, refusal_of_lem, refusal_first}
use Rattle.solver.proofs.take_rows.Goals as goal

few : {R kinds q ty : List ℕ} {m : Machine} {terms : List TermRow} {typecount paramcount termcount : ℕ} → Held R m kinds q ty terms typecount paramcount termcount → termcount ≤ 256
few held = omega (arith, held.rows, held.lines.governed.is_well_formed.terms_fit)

pub returns-then-rows-termcount : goal.returns-then-rows-termcount
returns-then-rows-termcount c m of described lined = let inv = c.loop-i.invariant in
    let state = inv.2 m of described lined in
    let told = (rw c.in-Whole.is at c.take_row.ensures).fact_1 m (row_of c.loop-i.i of inv.0 inv.1) state.2 in
    refusal_of_lem m 21 _ (omega (arith, of.rows, c.if-rows-termcount.true)) (state.0 c.if-rows-termcount.true) told.0

pub returns-then-i-eq0 : goal.returns-then-i-eq0
returns-then-i-eq0 c m of described lined = let inv = c.loop-i.invariant in
    let stop = (rw c.in-Stopped.is at c.take_row.ensures).fact_1 m (row_of c.loop-i.i of inv.0 inv.1) (inv.2 m of described lined).2 in
    refusal_first m 21 of.lines.some (subst (Fails m 21) c.if-i-eq0.true stop)

pub loop-i-smaller : goal.loop-i-smaller
loop-i-smaller c = let inv = c.loop-i.invariant in omega (arith, inv.0, inv.1, few c.requires.1)

pub loop-i-preserved : goal.loop-i-preserved
loop-i-preserved c = let inv = c.loop-i.invariant in
    let step = rw c.in-Stopped.is at c.take_row.ensures in
    let anew = rw c.in-Ok.is at c.again.ensures in (
      omega (arith, c.if-i-eq0.false),
      omega (arith, inv.0, inv.1),
      λ m of described lined.
          let state = inv.2 m of described lined in
          let row = row_of c.loop-i.i of inv.0 inv.1 in
          let still = step.fact_2 m row state.1 in
          let begun = anew m of.lines of.noted still in
          (λ fewer. step.fact_1 m row state.2, still, begun.0, begun.1),
    )
