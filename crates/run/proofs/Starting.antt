-- An accepted program's job, as the first point of a run.
use Prim.Native.Nat.{ℕ, ◌-◌, ◌≤◌, ◌<◌}
use native.Mathlib.Omega.{arith}
use mathlib.Core.Bool.{Bool, true, false, false≢true}
use mathlib.Core.List.{List}
use mathlib.Core.Path.{◌≡◌, refl, sym, ap, subst, ◌∙◌}
use lib.ListN.{length}
use Rattle.scheme.specs.Schemes.{words}
use Rattle.model.specs.Machine.{Machine, term_in, term_at}
use Rattle.model.specs.Closed.{Closed}
use Rattle.model.specs.WellFormed.{TermStands}
use Rattle.model.specs.Inference.{ruling, Slot, Shape, GreatestTyping, Judged}
use Rattle.model.specs.declared.TermRow.{TermRow}
use Rattle.model.proofs.Unique.{judged_accepted}
use Rattle.table.specs.Lists.{lists}
use Rattle.table.specs.Ready.{Ready}
use Rattle.table.specs.declared.Table.{Table}
use Rattle.table.proofs.Entries.{row_at}
use Rattle.report.specs.Codes.{coded_word, coded_shape}
use Rattle.report.specs.declared.Codes.{Codes}
use Rattle.dryrun.specs.Expression.{Expression, variable}
use Rattle.dryrun.specs.Transition.{Tagged}
use Rattle.dryrun.specs.Run.{nothing_made, refused, Outcome, Runs, itself, most_contexts, last_row, leading, job, NoArrow, allowed, DryRuns, not_accepted, wrong_count, arrow, ran}
use Rattle.dryrun.proofs.Same.{judged_closed}
use Rattle.dryrun.proofs.Promises.{never_stuck, never_free}
use Rattle.environments.specs.Standing.{Safe, close, plug, row_of, nothing, a_row}
use Rattle.environments.specs.declared.Frame.{Frame}
use Rattle.environments.proofs.Close.{close_none}
use Rattle.std.specs.Prelude.{Err}
use Rattle.moves.specs.declared.Refusal.{Refusal}
use Rattle.moves.specs.declared.Point.{Point}
use Rattle.leading.specs.Leading.{Led, Unfit, Leads, LamsStand}
use Rattle.leading.specs.Leading as Leading
use Rattle.evaluator.specs.Evaluation.{outcome, Begins, Evaluates}
use Rattle.evaluator.specs.declared.Ran.{Ran}
use Rattle.run.specs.First.{first_point}

module _ (t : Table) (ready : Ready t) (codes : Codes) (judged : Judged (ruling (lists t)) (lists t) 0 0 (coded_word codes) (coded_shape codes)) where
  abbrev m : Machine
  m = lists t

  abbrev word : Slot → ℕ
  word = coded_word codes

  accepted : GreatestTyping (ruling m) m word (coded_shape codes)
  accepted = judged_accepted judged refl

  closed : Closed m
  closed = judged_closed judged refl

  pub some_row : 0 < length m.terms
  some_row = closed.some_row

  pub few_rows : length m.terms ≤ 256
  few_rows = ready.is_well_formed.terms_fit

  pub rows_in : (i : ℕ) → i < length m.terms → term_at m i ≡ term_in t.terms i
  rows_in i h = ap (λ (r : TermRow). r.term) (row_at t i h)

  pub lams_stand : {count : ℕ} → count ≡ length m.terms → LamsStand t.terms count
  lams_stand {count} counted i p b h is =
      let in_list : i < length m.terms = omega arith in
      let (hp, hb) = subst (TermStands (words m.schemes) (length m.params) i) (rows_in i in_list ∙ is) (ready.is_well_formed.terms_stand i in_list) in
      (omega (arith, ready.is_well_formed.params_fit), hb)

  pub led_rows : {count : ℕ} → count ≡ length m.terms → Leading.RowsIn m t.terms count
  led_rows {count} counted = record { counted = sym counted; same = λ i h. rows_in i (omega arith) }

  module _ (numbers : List ℕ) where
    -- What the numbers were put for, by what `lead` answers.
    pub unled : (f : List Frame) (r : Bool) → r ≡ false → Leads m word (coded_shape codes) numbers f r → Unfit m (coded_shape codes) numbers
    unled f false e leads = leads
    unled f true e leads = absurd (false≢true (sym e))

    pub led : (f : List Frame) (r : Bool) → r ≡ true → Leads m word (coded_shape codes) numbers f r →
        (length numbers ≡ length (leading m)) × NoArrow m (coded_shape codes) × Led m word numbers f
    led f true e leads = leads
    led f false e leads = absurd (false≢true e)

    -- 28
    pub unfit_refused : (budget : ℕ) {r : Ran} → Unfit m (coded_shape codes) numbers → r ≡ record { applications = 0; operations = 0; answer = Err Refusal.NotRun } → DryRuns m numbers budget (outcome r)
    unfit_refused budget (Unfit.wrong_count h) is = rw is (wrong_count judged h)
    unfit_refused budget (Unfit.arrow p h shape) is = rw is (arrow judged p h shape)

    module _ (no_arrow : NoArrow m (coded_shape codes)) where
      job_safe : Safe m (job m word numbers)
      job_safe =
          record {
            goes = never_stuck (record { is_well_formed = ready.is_well_formed; judged = judged; no_arrow = no_arrow }) numbers;
            none_free = never_free (record { is_well_formed = ready.is_well_formed; judged = judged; no_arrow = no_arrow }) numbers;
          }

      -- The first point stands for the job, whatever the cells hold.
      pub begins : (steps : ℕ) (f : List Frame) → Led m word numbers f → Begins m word t.terms codes.rowwords steps (job m word numbers) f (first_point (last_row m))
      begins steps f led =
          record {
            job = record { is_well_formed = ready.is_well_formed; safe = job_safe };
            rows = λ i h. (rows_in i h, refl);
            stands = λ c.
                let same : job m word numbers ≡ plug led.contexts (close variable (row_of m word (last_row m))) = sym (ap (plug led.contexts) (close_none (row_of m word (last_row m))) ∙ led.plugged) in
                record {
                  expression = close variable (row_of m word (last_row m));
                  contexts = led.contexts;
                  control = a_row {i = last_row m} (omega (arith, some_row)) nothing;
                  stack = led.stack c;
                  reached = subst (λ (e : Expression). Rattle.dryrun.specs.Run.Reaches (Tagged (ruling m)) (job m word numbers) nothing_made e nothing_made) same itself;
                  within = omega arith;
                  tail = λ o r. subst (λ (e : Expression). Runs (Tagged (ruling m)) steps e nothing_made o) (sym same) r;
                };
          }

      -- What the moves come to is what the call answers.
      pub evaluated : (steps : ℕ) (f : List Frame) (r : Ran) → Led m word numbers f → length numbers ≡ length (leading m) →
          Evaluates t.terms codes.rowwords steps f (first_point (last_row m)) r → (budget : ℕ) → steps ≡ allowed budget → DryRuns m numbers budget (outcome r)
      evaluated steps f r led count evaluates budget is =
          ran judged count no_arrow (subst (λ (n : ℕ). Runs (Tagged (ruling m)) n (job m word numbers) nothing_made (outcome r)) is (evaluates m word (job m word numbers) (begins steps f led)))

      -- The same at the point that the code makes.
      module _ (steps : ℕ) (f : List Frame) {count : ℕ} {p : Point} (counted : count ≡ length m.terms) (first : p ≡ first_point (count - 1)) where
        same_point : p ≡ first_point (last_row m)
        same_point = first ∙ ap (λ (n : ℕ). first_point (n - 1)) counted

        pub begins_at : Led m word numbers f → Begins m word t.terms codes.rowwords steps (job m word numbers) f p
        begins_at led = rw same_point (begins steps f led)

        pub evaluated_at : (r : Ran) → Led m word numbers f → length numbers ≡ length (leading m) → Evaluates t.terms codes.rowwords steps f p r →
            (budget : ℕ) → steps ≡ allowed budget → DryRuns m numbers budget (outcome r)
        evaluated_at r led count evaluates budget is = evaluated steps f r led count (rw same_point at evaluates) budget is

-- A program that infer refuses is refused with 28.
pub not_judged : {m : Machine} {numbers : List ℕ} {n k : ℕ} {word : Slot → ℕ} {shape : Slot → Shape} (budget : ℕ) {r : Ran} → Judged (ruling m) m n k word shape → ¬ (n ≡ 0) →
    r ≡ record { applications = 0; operations = 0; answer = Err Refusal.NotRun } → DryRuns m numbers budget (outcome r)
not_judged budget judged some is = rw is (not_accepted judged some)
