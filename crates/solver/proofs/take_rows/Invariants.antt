-- `solver::take_rows`: before each turn the state is the one after the rows taken, and the rows of a further run are fewer; that run shows the rows before
-- the last stop typable.
use Prim.Native.Nat.{ℕ, ◌+◌, ◌*◌, ◌-◌, ◌<◌, ◌≤◌}
use mathlib.Core.List.{List}
use Rattle.model.specs.Machine.{Machine}
use Rattle.graph.specs.Types.{Types}
use Rattle.qualifiers.specs.Classes.{Qualifiers}
use Rattle.setup.specs.Descriptors.{Described}
use Rattle.pending.specs.Pending.{Pending, pending_in}
use Rattle.rows.specs.Steps.{Ready}
use Rattle.solver.specs.State.{After}
use Rattle.solver.specs.Runs.{Fails, AfterLines, Held}
use Rattle.solver.proofs.take_rows.Given as goal

-- Before row i of a run over so many of all rows: where they are fewer, the row behind them leaves no typing.
abbrev pub Before : (R : List ℕ) (m : Machine) (kids : List ℕ) (T : Types) (Q : Qualifiers) (P : Pending) (i rows all : ℕ) → Type 0
Before R m kids T Q P i rows all = (rows < all → Fails m 21 rows) × Described m kids × After R m kids T Q P i × Ready R i kids T Q P

abbrev pub invariant-loop-i : goal.invariant-loop-i
invariant-loop-i l = (l.i < l.rows)
    × (l.rows ≤ l.termcount)
    × ((m : Machine) → Held l.rule m l.lines.formkinds l.lines.qualifiers l.lines.typerows l.terms l.lines.typecount l.lines.paramcount l.termcount → Described m l.initial.kids →
    AfterLines l.rule m l.initial.kids l.initial.state.types l.initial.state.qualifiers (pending_in l.initial.state.pending) →
    Before l.rule m l.kids l.state.types l.state.qualifiers (pending_in l.state.pending) l.i l.rows l.termcount)

-- A further run has fewer rows, of at most 256; in a run the rows that are left fall.
abbrev pub decreases-loop-i : goal.decreases-loop-i
decreases-loop-i l = 257 * l.rows + (l.rows - l.i)
