-- A step of demand 3's list is what the contract of its function ensures: each lemma is over the clauses made of the source, so a changed contract breaks it.
use Prim.Native.Nat.{ℕ}
use Rattle.std.specs.Prelude.{Result}
use mathlib.Core.List.{List}
use mathlib.Core.Path.{◌≡◌}
use seplogic.Ra.Ura.{Ura}
use base.Logic.{SProp, ent, emp, id⊢}
use prog.Memory.{Memory}
use prog.Routine.{Routine}
use types.Logic.{Logic}
use contract.Monad.{Fun, fact, fact_mono}
use contract.Lifetimes.{Lfts}
use denote.Ref.{Bor}
use denote.MutBor.{MutBor}
use Rattle.scheme.specs.Six.{six_table}
use Rattle.schemes.specs.Schemes.{Kept}
use Rattle.model.specs.Machine.{fresh_machine}
use Rattle.model.specs.SchemeFile.{opened}
use Rattle.model.specs.Session.{returning, add, redeclare, take_back, infer}
use Rattle.table.specs.declared.Table.{Table}
use Rattle.table.specs.declared.Answered.{Answered}
use Rattle.table.specs.Lists.{lists, change}
use Rattle.table.specs.Called.{adds, redeclares, takes_back}
use Rattle.table.specs.contracts.Table.fresh as table-fresh
use Rattle.table.specs.contracts.Table.open as table-open
use Rattle.table.specs.contracts.Table.add as table-add
use Rattle.table.specs.contracts.Table.redeclare as table-redeclare
use Rattle.table.specs.contracts.Table.take_back as table-take-back
use Rattle.inference.specs.Outcome.{outcome}
use Rattle.table.specs.Ready.{Ready}
use Rattle.inference.specs.Ran.{Step, changes, infers}
use Rattle.solver.specs.declared.Refused.{Refused}
use Rattle.inference.specs.contracts.infer as inference-infer

-- A primed name is the parameter at exit.
module _ {M : Type 1} {𝓤 : Ura M} (𝓛 : Logic 𝓤) (at_mem : Memory → SProp 𝓤) (run : Routine → Fun 𝓤) where
  -- The premise of demand 3.
  pub fresh_contract : (κs : Lfts 0) (r : Table) → ent 𝓤 ((table-fresh.clauses 𝓛 at_mem run κs tt).ensures tt r tt) (fact 𝓤 ((lists r ≡ fresh_machine six_table) × Kept r.schemes))
  fresh_contract κs r = fact_mono 𝓤 _ _ (λ e. e)

  pub open_contract : (κs : Lfts 1) (file file' : Bor (List ℕ)) (r : Answered) →
      ent 𝓤 ((table-open.clauses 𝓛 at_mem run κs (file, tt)).ensures tt r (file', tt)) (fact 𝓤 ((change r ≡ opened file.now) × Kept r.table.schemes))
  open_contract κs file file' r = fact_mono 𝓤 _ _ (λ e. e)

  module _ (t t' : Table) where
    pub add_contract : (κs : Lfts 1) (line line' : Bor (List ℕ)) (r : Answered) →
        ent 𝓤 ((table-add.clauses 𝓛 at_mem run κs (t, (line, tt))).ensures tt r (t', (line', tt))) (fact 𝓤 (Step t (add line.now) (returning r.number) r.table))
    add_contract κs line line' r = fact_mono 𝓤 _ _ (λ e. changes (adds e.0 e.1))

    pub redeclare_contract : (κs : Lfts 0) (p p' code code' : ℕ) (r : Answered) →
        ent 𝓤 ((table-redeclare.clauses 𝓛 at_mem run κs (t, (p, (code, tt)))).ensures tt r (t', (p', (code', tt)))) (fact 𝓤 (Step t (redeclare p code) (returning r.number) r.table))
    redeclare_contract κs p p' code code' r = fact_mono 𝓤 _ _ (λ e. changes (redeclares e.0 e.1))

    pub take_back_contract : (κs : Lfts 0) (r : Answered) →
        ent 𝓤 ((table-take-back.clauses 𝓛 at_mem run κs (t, tt)).ensures tt r (t', tt)) (fact 𝓤 (Step t take_back (returning r.number) r.table))
    take_back_contract κs r = fact_mono 𝓤 _ _ (λ e. changes (takes_back e.0 e.1))

    pub infer_contract : (κs : Lfts 1) (buffer buffer' : MutBor (List ℕ)) (r : Result ℕ Refused) →
        ent 𝓤 ((inference-infer.clauses 𝓛 at_mem run κs (t, (buffer, tt))).ensures tt r (t', (buffer', tt))) (fact 𝓤 (Step t (infer buffer.now) (outcome r buffer'.now) t))
    infer_contract κs buffer buffer' r = fact_mono 𝓤 _ _ (λ said. infers buffer'.now r (λ ready. said.0))

  -- The three calls, the fresh table and a file's ask for nothing.
  pub fresh-requires : (κs : Lfts 0) → ent 𝓤 (emp 𝓤) ((table-fresh.clauses 𝓛 at_mem run κs tt).requires tt)
  fresh-requires κs = id⊢ 𝓤 _

  pub open_requires : (κs : Lfts 1) (file : Bor (List ℕ)) → ent 𝓤 (emp 𝓤) ((table-open.clauses 𝓛 at_mem run κs (file, tt)).requires tt)
  open_requires κs file = id⊢ 𝓤 _

  pub add_requires : (κs : Lfts 1) (t : Table) (line : Bor (List ℕ)) → ent 𝓤 (emp 𝓤) ((table-add.clauses 𝓛 at_mem run κs (t, (line, tt))).requires tt)
  add_requires κs t line = id⊢ 𝓤 _

  pub redeclare_requires : (κs : Lfts 0) (t : Table) (p code : ℕ) → ent 𝓤 (emp 𝓤) ((table-redeclare.clauses 𝓛 at_mem run κs (t, (p, (code, tt)))).requires tt)
  redeclare_requires κs t p code = id⊢ 𝓤 _

  pub take_back_requires : (κs : Lfts 0) (t : Table) → ent 𝓤 (emp 𝓤) ((table-take-back.clauses 𝓛 at_mem run κs (t, tt)).requires tt)
  take_back_requires κs t = id⊢ 𝓤 _

  -- The premise under which a step speaks of infer is enough for the call.
  pub infer_requires : (κs : Lfts 1) (t : Table) (buffer : MutBor (List ℕ)) → ent 𝓤 (fact 𝓤 (Ready t)) ((inference-infer.clauses 𝓛 at_mem run κs (t, (buffer, tt))).requires tt)
  infer_requires κs t buffer = fact_mono 𝓤 _ _ (λ ready. ready)
