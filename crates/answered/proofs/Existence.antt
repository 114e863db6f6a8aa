-- A table that is ready and that a machine can hold has something judged of it: `judge` returns on it, and then its contract says so.
use mathlib.Core.Logic.{∥∥₁_prop, ∥∥₁_elim}
use mathlib.Core.List.{[], ◌∷◌}
use Prim.Native.Nat.{ℕ}
use base.Fraction.{full_share}
use mir.Syntax.{w8}
use mir.Val.{Val}
use base.Logic.{SProp, ent, sep, ex, emp, id⊢, via, mono∗, mono_l, fst∗, snd∗, emp∗, ex_e}
use types.Logic.{sem}
use prog.Memory.{Memory}
use prog.Wp.{run}
use prog.AdequacyRun.{start_mem}
use ghost.Model as Closed
use contract.Monad.{fact, fact_i}
use contract.Closed.{model⁺, real⁺, real⁺_strict}
use contract.Running.{Running, within, tables}
use contract.BorrowModel.{logic₀}
use contract.Adequate.{Satisfies, sat_weaken, sat_⇛, sat_ex∗, sat_fact, start_Satisfies}
use denote.Laws.{Ises, owns_make}
use denote.Struct.Laws as Struct
use denote.Triple.Spec.{triple_of, Back}
use denote.Triple.Statement.{Contract}
use denote.Triple.End.{lasts_of}
use denote.Triple.Adequate.{adequate}
use Rattle.table.specs.declared.Table.{Table}
use Rattle.table.specs.Lists.{lists}
use Rattle.table.specs.Ready.{Ready}
use Rattle.table.specs.contracts.Table as TableType
use Rattle.table.proofs.Table.TheLaws as TableLaws
use Rattle.table.proofs.Counts.{Owned}
use Rattle.answered.specs.Judgement.{HasJudgement}
use Rattle.answered.specs.contracts.judge as judge
use Rattle.answered.proofs.judge.Symbol as symbol
use Rattle.answered.proofs.judge.Met.{met}
use Rattle.answered.proofs.Linking.{environment, judge_wired}

-- The closed model, and assertions in it.
abbrev Assertion : Type 2
Assertion = SProp Closed.𝓤

abbrev runs : Running Closed.𝓤 Closed.H model⁺
runs = within Closed.𝓤 Closed.H model⁺ real⁺ environment

abbrev says : Contract Closed.𝓤
says = triple_of logic₀ judge.signature (judge.spec logic₀ model⁺.mem runs.returns)

-- What a run begins with.
abbrev begun : Assertion
begun = sep Closed.𝓤 (run Closed.𝓤 Closed.H full_share w8 0 0 []) (run Closed.𝓤 Closed.H full_share w8 1 0 [])

module _ (t : Table) (owned : Owned t) (ready : Ready t) where
  abbrev asked : says.Ghost
  asked = ((tt, tt, tt, (t, tt), (Struct.vals TableType.the_type TableLaws.the_laws t, tt)), tt)

  -- the table is passed for nothing
  entry : ent Closed.𝓤 (emp Closed.𝓤) (says.pre asked)
  entry =
      via Closed.𝓤 _ (emp∗ Closed.𝓤 (emp Closed.𝓤))
      (mono∗ Closed.𝓤
      (via Closed.𝓤 _ (emp∗ Closed.𝓤 (emp Closed.𝓤))
      (mono∗ Closed.𝓤 (id⊢ Closed.𝓤 (emp Closed.𝓤))
      (owns_make logic₀ (TableType.the_row ∷ []) (Ises (TableType.the_row ∷ [])) (Struct.makes TableType.the_type TableLaws.the_plain logic₀, tt) (t, tt) asked.0.4 (owned, tt))))
      (fact_i Closed.𝓤 (Ready t) (emp Closed.𝓤) ready))

  -- what it returns with, whatever that is, says what is judged
  exit : (v : Val) (σ : Memory) → Satisfies Closed.𝓤 Closed.H model⁺ σ (sep Closed.𝓤 (says.post asked v) begun) → ∥ HasJudgement (lists t) ∥₁
  exit v σ s =
      ∥∥₁_elim (sat_ex∗ Closed.𝓤 Closed.H model⁺ σ Ended begun (sat_⇛ Closed.𝓤 Closed.H model⁺ σ (ex Closed.𝓤 Ended) begun s)) ∥∥₁_prop (λ r.
      sat_fact Closed.𝓤 Closed.H model⁺ σ (sep Closed.𝓤 (Ended r.0) begun) (HasJudgement (lists t))
      (via Closed.𝓤 _ (snd∗ Closed.𝓤 (model⁺.mem σ) (sep Closed.𝓤 (Ended r.0) begun))
      (via Closed.𝓤 _ (fst∗ Closed.𝓤 (Ended r.0) begun)
      (via Closed.𝓤 _ (snd∗ Closed.𝓤 (Given r.0) (Ensured r.0))
      (ex_e Closed.𝓤 _ (λ ws. snd∗ Closed.𝓤 (sem logic₀ (lasts_of tt (judge.signature).params (judge.ended).kept (t, tt) ws)) (fact Closed.𝓤 (HasJudgement (lists t))))))))
      r.1)
    where
      Given : ℕ → Assertion
      Given r = Back logic₀ judge.signature asked.0 v r

      Ensured : ℕ → Assertion
      Ensured r = (judge.spec logic₀ model⁺.mem runs.returns tt (t, tt)).ensures tt r

      Ended : ℕ → Assertion
      Ended r = sep Closed.𝓤 (Given r) (Ensured r)

  pub has_judgement : ∥ HasJudgement (lists t) ∥₁
  has_judgement =
      ∥∥₁_elim
      (adequate Closed.𝓤 Closed.H model⁺ (tables Closed.𝓤 Closed.H model⁺ runs environment) real⁺_strict symbol.name says (met Closed.𝓤 logic₀ model⁺ runs judge_wired) asked (start_mem [] []) begun
      (sat_weaken Closed.𝓤 Closed.H model⁺ (start_mem [] []) (via Closed.𝓤 _ (emp∗ Closed.𝓤 begun) (mono_l Closed.𝓤 begun entry)) (start_Satisfies Closed.𝓤 Closed.H model⁺ [] [] tt tt)))
      ∥∥₁_prop
      (λ c. exit c.1 c.2 c.4)
