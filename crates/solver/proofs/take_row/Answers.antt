-- `solver::take_row`: the row's descriptor, its step, and what each outcome comes to for every machine that has the row.
use Prim.Native.Nat.{ℕ, ◌+◌, ◌<◌, ◌≤◌}
use mathlib.Core.List.{List}
use mathlib.Core.Path.{◌≡◌}
use native.Mathlib.Omega.{arith}
use Rattle.model.specs.Machine.{Machine}
use Rattle.graph.specs.Types.{Types}
use Rattle.qualifiers.specs.Classes.{Qualifiers}
use Rattle.model.specs.declared.Term.{Term}
use Rattle.layout.specs.Layout.{row_type}
use Rattle.readings.specs.Nodes.{node_named}
use Rattle.setup.specs.Descriptors.{Describes}
use Rattle.setup.specs.Passes.{Only, RowLeft}
use Rattle.pending.specs.Pending.{Pending}
use Rattle.rows.specs.Rows.{RowStands}
use Rattle.rows.specs.Steps.{Ready, left_in}
use Rattle.solver.specs.State.{After}
use Rattle.solver.specs.Runs.{RowOf, StillDescribed}
use Rattle.solver.proofs.Descriptors.{ready_kept, after_kept}
use Rattle.solver.proofs.Named.{written_next, described_next}
use Rattle.solver.proofs.Exits.{Taking, went_on, stopped_shapes, stopped_lost, stopped_apart, stopped_broken, ran_out}
use Rattle.solver.proofs.take_row.Goals as goal

-- The turn of the row, once its descriptor is written; the state before the row, by the descriptors with its own; and what is still described by them.
module _ {R qs tys kids kids' : List ℕ} {T : Types} {Q : Qualifiers} {P : Pending} {i : ℕ} {term : Term} (stands : RowStands i term (node_named qs term) (node_named tys term)) (ready : Ready R i kids T Q P)
    (wrote : Only (row_type i) kids kids' × Describes kids' i term (node_named qs term) (node_named tys term) × RowLeft term kids kids') where
  taking : {rows : ℕ} → i < rows → rows ≤ 256 → Taking R qs tys kids' T Q P i rows term
  taking below few = record { below = below; few = few; stands = stands; parts = wrote.0.parts; ready = ready_kept wrote.0 ready }

  after : (m : Machine) → RowOf R m qs tys i term → After R m kids T Q P i → After R m kids' T Q P i
  after m row before = after_kept wrote.0 ready (written_next row stands _ _ wrote.0 wrote.1 wrote.2 before.written) before

  still : StillDescribed R qs tys i term kids kids'
  still m row = described_next row stands _ _ wrote.0 wrote.1 wrote.2

-- The row is the last one.
last_row_lem : (i rows : ℕ) → i + 1 ≤ rows → rows ≤ i + 1 → i + 1 ≡ rows
last_row_lem i rows low high = omega arith

pub returns-then-i-rows : goal.returns-then-i-rows
returns-then-i-rows c = let step = rw c.in-Ok.is at c.step.ensures in
    record {
      fact_1 = λ m row before. went_on (taking c.requires.fact_1.2 c.requires.fact_5 c.describe_term.ensures c.requires.fact_1.0 c.requires.fact_1.1) row (after c.requires.fact_1.2 c.requires.fact_5 c.describe_term.ensures m row before) (left_in c.step.new.state) step c.if-i-rows.true;
      fact_2 = still c.requires.fact_1.2 c.requires.fact_5 c.describe_term.ensures;
    }

pub returns-else-i-rows : goal.returns-else-i-rows
returns-else-i-rows c = let step = rw c.in-Ok.is at c.step.ensures in
    let last = last_row_lem c.args.i c.args.rows (omega arith) (omega arith) in
    record {
      fact_1 = λ m row before. ran_out (taking c.requires.fact_1.2 c.requires.fact_5 c.describe_term.ensures c.requires.fact_1.0 c.requires.fact_1.1) row (after c.requires.fact_1.2 c.requires.fact_5 c.describe_term.ensures m row before) (left_in c.step.new.state) _ _ _ c.finish.result c.finish.ensures.fact_2 step last c.finish.ensures.fact_1;
      fact_2 = still c.requires.fact_1.2 c.requires.fact_5 c.describe_term.ensures;
    }

pub returns-in-Err-Types-Clash : goal.returns-in-Err-Types-Clash
returns-in-Err-Types-Clash c = let out = c.in-Err-Types-Clash in
    let step = rw (out.is, out.field-0-is, out.field-0-0-is) at c.step.ensures in
    record {
      fact_1 = λ m row before. stopped_shapes (taking c.requires.fact_1.2 c.requires.fact_5 c.describe_term.ensures c.requires.fact_1.0 c.requires.fact_1.1) row (after c.requires.fact_1.2 c.requires.fact_5 c.describe_term.ensures m row before) (left_in c.step.new.state) c.stop.result step c.stop.ensures;
      fact_2 = still c.requires.fact_1.2 c.requires.fact_5 c.describe_term.ensures;
    }

pub returns-in-Err-Types-Lost : goal.returns-in-Err-Types-Lost
returns-in-Err-Types-Lost c = let out = c.in-Err-Types-Lost in
    let step = rw (out.is, out.field-0-is, out.field-0-0-is) at c.step.ensures in
    record {
      fact_1 = λ m row before. stopped_lost (taking c.requires.fact_1.2 c.requires.fact_5 c.describe_term.ensures c.requires.fact_1.0 c.requires.fact_1.1) row (after c.requires.fact_1.2 c.requires.fact_5 c.describe_term.ensures m row before) (left_in c.step.new.state) step;
      fact_2 = still c.requires.fact_1.2 c.requires.fact_5 c.describe_term.ensures;
    }

pub returns-in-Err-Apart : goal.returns-in-Err-Apart
returns-in-Err-Apart c = let out = c.in-Err-Apart in
    let step = rw (out.is, out.field-0-is) at c.step.ensures in
    record {
      fact_1 = λ m row before. stopped_apart (taking c.requires.fact_1.2 c.requires.fact_5 c.describe_term.ensures c.requires.fact_1.0 c.requires.fact_1.1) row (after c.requires.fact_1.2 c.requires.fact_5 c.describe_term.ensures m row before) (left_in c.step.new.state) c.stop-in-Err-Apart.result step c.stop-in-Err-Apart.ensures;
      fact_2 = still c.requires.fact_1.2 c.requires.fact_5 c.describe_term.ensures;
    }

pub returns-in-Err-Broken : goal.returns-in-Err-Broken
returns-in-Err-Broken c = let out = c.in-Err-Broken in
    let step = rw (out.is, out.field-0-is) at c.step.ensures in
    record {
      fact_1 = λ m row before. stopped_broken (taking c.requires.fact_1.2 c.requires.fact_5 c.describe_term.ensures c.requires.fact_1.0 c.requires.fact_1.1) row (after c.requires.fact_1.2 c.requires.fact_5 c.describe_term.ensures m row before) (left_in c.step.new.state) c.stop-in-Err-Broken.result step c.stop-in-Err-Broken.ensures;
      fact_2 = still c.requires.fact_1.2 c.requires.fact_5 c.describe_term.ensures;
    }
