-- `solver::solve`: the arrays hold the program's machines and the start of a run, and what the run tells of them is the answer.
use Prim.Native.Nat.{ℕ, ◌<◌}
use mathlib.Core.List.{List}
use mathlib.Core.Path.{◌≡◌, refl}
use lib.ListN.{take, replicate}
use Rattle.layout.specs.Layout.{part_places}
use Rattle.scheme.specs.Schemes.{SchemeTable}
use Rattle.scheme.specs.Rule.{top_at}
use Rattle.model.specs.declared.Program.{Program}
use Rattle.model.proofs.Programs.{Owned, types_whole, params_whole, terms_whole}
use Rattle.graph.specs.Types.{Types, Parts}
use Rattle.qualifiers.specs.Classes.{Qualifiers}
use Rattle.readings.specs.Programs.{Counted, machine_of}
use Rattle.setup.specs.Passes.{FormsDescribed, FormsLeft, ParamsNoted, KindsNoted}
use Rattle.setup.specs.Started.{Started}
use Rattle.setup.proofs.Descriptors.{described, zero_blank}
use Rattle.setup.proofs.Writing.{parts_none, zeros}
use Rattle.solver.specs.Runs.{Governed, Held, Begun}
use Rattle.solver.proofs.Start.{begun_at}
use Rattle.solver.proofs.Ready.{held_of}
use Rattle.solver.proofs.solve.Goals as goal

-- The arrays hold each machine of the program, and the start of its run.
module _ {R : List ℕ} (T : SchemeTable) (program : Program) (gov : Governed R (machine_of T program)) (good : Owned program) (counted : Counted program) {kids : List ℕ} (kinds : List ℕ)
    (forms : Parts kids × FormsDescribed program.types program.typecount kids × FormsLeft program.types program.typecount (replicate part_places 0) kids × KindsNoted (take program.typecount program.types) kinds) where
  held : {q ty : List ℕ} → 0 < program.termcount → ParamsNoted (take program.paramcount program.params) q ty → Held R (machine_of T program) kinds q ty program.terms program.typecount program.paramcount program.termcount
  held some noted = held_of R T program gov (types_whole program good) (params_whole program good) (terms_whole program good) counted some forms.3 noted

  begun : {T' : Types} {Q : Qualifiers} {top : ℕ} → top ≡ top_at R → Started (machine_of T program) top T' Q → Begun R (machine_of T program) kids T' Q
  begun top started =
      begun_at top
      (described (machine_of T program) _ _ gov.is_well_formed refl (types_whole program good) counted.types (replicate part_places 0) _ (λ d h. zero_blank (zeros part_places) d) forms.0 forms.1 forms.2)
      started

pub describe_forms-requires-clause-fact_1 : goal.describe_forms-requires-clause-fact_1
describe_forms-requires-clause-fact_1 c = parts_none

pub run-requires-clause-fact_1 : goal.run-requires-clause-fact_1
run-requires-clause-fact_1 c = let T = c.requires.fact_1.0 in
    let gov = c.requires.fact_1.1 in
    let good = c.well_formed.1.0 in (
      machine_of T c.args.program,
      held T c.args.program gov good c.requires.fact_2.0 _ c.describe_forms.ensures c.requires.fact_2.1 c.note_params.ensures,
      begun T c.args.program gov good c.requires.fact_2.0 _ c.describe_forms.ensures c.top-top.ensures (c.start.ensures (machine_of T c.args.program) gov.is_well_formed.types_fit c.describe_forms.ensures.3),
    )

pub read_off-requires-clause-fact_3 : goal.read_off-requires-clause-fact_3
read_off-requires-clause-fact_3 c T gov = let good = c.well_formed.1.0 in
    (rw c.in-Ok.is at c.run.ensures) (machine_of T c.args.program)
    (held T c.args.program gov good c.requires.fact_2.0 _ c.describe_forms.ensures c.requires.fact_2.1 c.note_params.ensures)
    (begun T c.args.program gov good c.requires.fact_2.0 _ c.describe_forms.ensures c.top-top.ensures (c.start.ensures (machine_of T c.args.program) gov.is_well_formed.types_fit c.describe_forms.ensures.3))

pub returns-in-Err : goal.returns-in-Err
returns-in-Err c T gov = let good = c.well_formed.1.0 in
    (rw c.in-Err.is at c.run.ensures) (machine_of T c.args.program)
    (held T c.args.program gov good c.requires.fact_2.0 _ c.describe_forms.ensures c.requires.fact_2.1 c.note_params.ensures)
    (begun T c.args.program gov good c.requires.fact_2.0 _ c.describe_forms.ensures c.top-top.ensures (c.start.ensures (machine_of T c.args.program) gov.is_well_formed.types_fit c.describe_forms.ensures.3))
