-- Each exit of `print` is what is printed of an infer call.
use Prim.Native.Nat.{ℕ, ◌≤◌}
use native.Mathlib.Omega.{arith}
use mathlib.Core.List.{List}
use mathlib.Core.Path.{◌≡◌, refl, sym, subst}
use Rattle.std.specs.Prelude.{Ok, Err}
use lib.ListN.{length}
use borrow.Author.Tests.{ne_eqb}
use Rattle.model.specs.Lists.{bytes}
use Rattle.model.specs.Machine.{Machine}
use Rattle.model.specs.WellFormed.{WellFormed}
use Rattle.model.specs.Report.{report}
use Rattle.model.specs.Session.{Infers}
use Rattle.model.proofs.Limits.{well_formed_within}
use Rattle.report.specs.Writing.{Room, Wrote, Front, pair_text}
use Rattle.report.proofs.Fronts.{front_of, front_written, pair_room}
use Rattle.inference.specs.Outcome.{outcome}
use Rattle.inference.specs.Printed.{Printed}
use Rattle.solver.specs.declared.Refused.{Refused}
use Rattle.inference.proofs.Corollaries.{reported_judged, infers_bounded}

module _ (m : Machine) (buffer : List ℕ) (middle : List ℕ) (is_well_formed : WellFormed m) where
  module _ (r : Refused) (infers : Infers m buffer (outcome (Err r) middle)) where
    pub refusal_bounded : (r.number ≤ 24) × (r.row ≤ 255)
    refusal_bounded = let bounded = infers_bounded (well_formed_within m is_well_formed) infers in (bounded.0, bounded.1)

    pub refusal_room : (word : List ℕ) → length word ≤ 2 → 6280 ≤ length middle → Room middle 0 (pair_text word r.number r.row)
    refusal_room word short = pair_room word middle r.number r.row short (omega (arith, refusal_bounded.0)) (omega (arith, refusal_bounded.1))

    pub refusal_printed : ¬ (r.number ≡ 0) → (after : List ℕ) (n : ℕ) → 6280 ≤ length middle → Wrote middle 0 (pair_text (bytes "NO") r.number r.row) after n → Printed m buffer after n
    unfolding pair_text
    refusal_printed refused after n long wrote =
        record {
          outcome = outcome (Err r) middle;
          infers = infers;
          front = subst (λ (w : List ℕ). Front w after n) (sym (simp (ne_eqb r.number 0 refused))) (front_written _ middle after n (refusal_room _ (omega arith) long) wrote);
        }

  pub report_printed : (size : ℕ) → Infers m buffer (outcome (Ok size) middle) → Printed m buffer middle size
  report_printed size infers =
      let said = reported_judged infers refl in
      let stands = front_of (report m said.0 said.1) _ middle size said.2 said.3 in
      record { outcome = outcome (Ok size) middle; infers = infers; front = record { bytes = refl; fits = stands.fits } }
