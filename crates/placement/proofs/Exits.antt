-- Each exit of the functions is one of the answers of document 01.
use Prim.Native.Nat.{ℕ, ◌+◌, ◌*◌, ◌≤◌}
use native.Mathlib.Omega.{arith}
use native.Mathlib.Decide.{ℕ_discrete}
use mathlib.Core.List.{List}
use mathlib.Core.Path.{◌≡◌, sym, ap, ap₂, subst, ◌∙◌}
use lib.ListN.{length, take}
use lib.Seq.{take-append_seam}
use borrow.Author.Tests.{eq-eqb, ne_eqb}
use Rattle.scheme.specs.Schemes.{SchemeTable, Sound}
use Rattle.schemes.specs.Schemes.{table_in}
use Rattle.schemes.specs.Reads.{Reads}
use Rattle.schemes.specs.declared.Opened.{Opened}
use Rattle.model.specs.Lists.{bytes}
use Rattle.model.specs.Report.{report}
use Rattle.model.specs.Session.{Outcome, Infers}
use Rattle.model.specs.Text.{load, Prints, shown, Returns, ReturnsUnder}
use Rattle.model.proofs.Limits.{well_formed_within}
use Rattle.table.specs.Lists.{lists}
use Rattle.text.specs.Loads.{Loads}
use Rattle.text.specs.declared.Loaded.{Loaded}
use Rattle.text.proofs.Front.{load-front, returns_front}
use Rattle.dryrun.specs.Run.{DryRuns}
use Rattle.dryrun.specs.Entry.{RunReturns, RunReturnsUnder}
use Rattle.evaluator.specs.Evaluation.{outcome as ranOutcome}
use Rattle.evaluator.specs.declared.Ran.{Ran}
use Rattle.run.specs.Answered.{Answered}
use Rattle.report.specs.Writing.{Room, Wrote, Front, pair_text}
use Rattle.report.proofs.Fronts.{front_written, pair_room}
use Rattle.inference.specs.Printed.{Printed}
use Rattle.inference.proofs.Corollaries.{refused_judged, reported_judged, infers_bounded}

-- An infer call on what was loaded returns small numbers.
pub bounded : (T : SchemeTable) (part buffer : List ℕ) (r : Loaded) (o : Outcome) → Loads T part r → Infers (lists r.table) buffer o →
    (o.number ≤ 24) × (o.row ≤ 255) × (o.size ≤ 6280)
bounded T part buffer r o loads infers = infers_bounded (well_formed_within _ loads.ready.is_well_formed) infers

-- The loader's entry, which looks at the part of the text that decides.
module _ {T : SchemeTable} (sound : Sound T) (text part buffer : List ℕ) (is : part ≡ take 25025 text) (r : Loaded) (loads : Loads T part r) where
  decides : {n : ℕ} {after : List ℕ} → Returns T part buffer n after → Returns T text buffer n after
  decides {n} {after} returns = returns_front sound (subst (λ (front : List ℕ). Returns T front buffer n after) is returns)

  pub add_returned : ¬ (r.number ≡ 0) → 6280 ≤ length buffer → Returns T text buffer (r.number * 1000 + r.line) buffer
  add_returned stop long = decides (Returns.refused_add long (loads.stop stop))

  module _ (o : Outcome) (infers : Infers (lists r.table) buffer o) where
    module _ (all : r.number ≡ 0) (long : 6280 ≤ length buffer) where
      pub inference_returned : ¬ (o.number ≡ 0) → Returns T text buffer (o.number * 1000 + o.row) o.buffer
      inference_returned stop = decides (Returns.refused_inference long (loads.all all) infers stop)

      pub report_returned : o.number ≡ 0 → Returns T text buffer (100000 + o.size) o.buffer
      report_returned accepted = decides (Returns.reported long (loads.all all) infers accepted)

-- The entry under a scheme file.
module _ (file text buffer : List ℕ) (r : Opened) (reads : Reads file r) where
  pub file_refused : ¬ (r.number ≡ 0) → 6280 ≤ length buffer → ReturnsUnder file text buffer (r.number * 1000) buffer
  file_refused stop long =
      subst (λ (k : ℕ). ReturnsUnder file text buffer (k * 1000) buffer) (sym reads.refusal) (ReturnsUnder.refused_file long (λ z. stop (reads.refusal ∙ z)))

  pub file_accepted : {n : ℕ} {after : List ℕ} → r.number ≡ 0 → Returns (table_in r.schemes) text buffer n after → ReturnsUnder file text buffer n after
  file_accepted {n} {after} all returns =
      ReturnsUnder.accepted_file (sym reads.refusal ∙ all) (subst (λ (T : SchemeTable). Returns T text buffer n after) reads.table returns)

-- The entry for dry runs.
module _ {T : SchemeTable} (sound : Sound T) (text part numbers : List ℕ) (budget : ℕ) (answer : List ℕ) (is : part ≡ take 25025 text) (r : Loaded) (loads : Loads T part r)
    (long : 4 ≤ length answer) where
  same_load : load T part ≡ load T text
  same_load = ap (load T) is ∙ load-front T sound text

  pub run_stopped : ¬ (r.number ≡ 0) → RunReturns T text numbers budget answer (r.number * 1000 + r.line) answer
  run_stopped stop = RunReturns.refused_add long (sym same_load ∙ loads.stop stop)

  pub run_answered : {ran : Ran} {after : List ℕ} {n : ℕ} → r.number ≡ 0 → DryRuns (lists r.table) numbers budget (ranOutcome ran) → Answered ran answer after n →
      RunReturns T text numbers budget answer n after
  run_answered all runs answered = rw (answered.array, answered.number) (RunReturns.ran long (sym same_load ∙ loads.all all) runs)

module _ (file text numbers : List ℕ) (budget : ℕ) (answer : List ℕ) (r : Opened) (reads : Reads file r) where
  pub run_file_refused : ¬ (r.number ≡ 0) → 4 ≤ length answer → RunReturnsUnder file text numbers budget answer (r.number * 1000) answer
  run_file_refused stop long =
      subst (λ (k : ℕ). RunReturnsUnder file text numbers budget answer (k * 1000) answer) (sym reads.refusal) (RunReturnsUnder.refused_file long (λ z. stop (reads.refusal ∙ z)))

  pub run_file_accepted : {n : ℕ} {after : List ℕ} → r.number ≡ 0 → RunReturns (table_in r.schemes) text numbers budget answer n after → RunReturnsUnder file text numbers budget answer n after
  run_file_accepted {n} {after} all returns =
      RunReturnsUnder.accepted_file (sym reads.refusal ∙ all) (subst (λ (T : SchemeTable). RunReturns T text numbers budget answer n after) reads.table returns)

-- What is printed.
module _ {T : SchemeTable} (text buffer : List ℕ) (r : Loaded) (loads : Loads T text r) (long : 6280 ≤ length buffer) where
  module _ (stop : ¬ (r.number ≡ 0)) where
    pub add_room : Room buffer 0 (pair_text (bytes "X") r.number r.line)
    add_room = pair_room (bytes "X") buffer r.number r.line (omega arith) (omega (arith, loads.number_most)) (omega (arith, loads.line_most)) long

    add_front : (after : List ℕ) (n : ℕ) → Wrote buffer 0 (pair_text (bytes "X") r.number r.line) after n → Front (pair_text (bytes "X") r.number r.line) after n
    add_front after n wrote = front_written _ buffer after n add_room wrote

    pub add_printed : (after : List ℕ) (n : ℕ) → Wrote buffer 0 (pair_text (bytes "X") r.number r.line) after n → Prints T text (take n after) × (n ≤ length after)
    unfolding pair_text
    add_printed after n wrote =
        (subst (Prints T text) (sym (add_front after n wrote).bytes) (Prints.refused_add (loads.stop stop)), (add_front after n wrote).fits)

  pub inference_printed : (after : List ℕ) (n : ℕ) → r.number ≡ 0 → Printed (lists r.table) buffer after n → Prints T text (take n after) × (n ≤ length after)
  inference_printed after n all printed = (subst (Prints T text) (sym printed.front.bytes) (by (ℕ_discrete o.number 0)), printed.front.fits)
    where
      o : Outcome
      o = printed.outcome

      by : Dec (o.number ≡ 0) → Prints T text (shown o)
      by (yes accepted) =
          let said = reported_judged printed.infers accepted in
          let is : shown o ≡ report (lists r.table) said.0 said.1 = simp (eq-eqb o.number 0 accepted) (ap₂ take said.2 said.3 ∙ take-append_seam (report (lists r.table) said.0 said.1) _) in
          subst (Prints T text) (sym is) (Prints.reported (loads.all all) said.4)
      by (no refused) =
          rw (ne_eqb o.number 0 refused) (Prints.refused_inference (loads.all all) (refused_judged printed.infers long refused).2 refused)
