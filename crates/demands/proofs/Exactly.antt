-- Demand 1 of one call: refused exactly under the table's conditions, in the order of the checks, and nothing touched.
use Prim.Native.Nat.{ℕ, ◌≤◌}
use native.Mathlib.Omega.{arith}
use native.Mathlib.Decide.{ℕ_discrete}
use mathlib.Core.Bool.{true, or-false, false≢true}
use mathlib.Core.List.{List, []}
use mathlib.Core.Path.{◌≡◌, refl, sym, subst, ◌∙◌}
use lib.ListN.{length}
use borrow.Author.Tests.{eqb-true, ne_eqb}
use Rattle.model.specs.Lists.{contains}
use Rattle.model.specs.Machine.{Machine}
use Rattle.model.specs.Inference.{ruling, Slot, Shape, Cause, shapes, qualifiers, bounds, Judged, not_closed, not_typable, below_floor, typed}
use Rattle.model.specs.Session.{Call, infer, Outcome, returning, Infers, short, refused, accepted, Answers, adds, redeclares, takes_back, infers}
use Rattle.model.proofs.Unique.{refusal_same, typed_not_refused}
use Rattle.inference.proofs.Corollaries.{cause_number, infers_zero}
use Rattle.demands.specs.Refusals.{Breaks, checks, in_front_of, lent, RefusedExactly, buffer_short, program_open, no_typing, floors_missed}
use Rattle.demands.proofs.Members.{not_in_front, rising, in_front_less}
use Rattle.demands.proofs.Refusals.{First, add_refused, add_first, redeclare_refused, redeclare_first, take_back_refused, take_back_first}
use Rattle.demands.proofs.Standing.{answers_described}
use Rattle.demands.proofs.Floors.{some_meets, none_meets}

-- "Accepted is everything else"
otherwise : {m : Machine} {call : Call} {number : ℕ} → (¬ (number ≡ 0) → Breaks m call number) → ((n : ℕ) → ¬ Breaks m call n) → number ≡ 0
otherwise {number = number} breaks none = by (ℕ_discrete number 0)
  where
    by : Dec (number ≡ 0) → number ≡ 0
    by (yes e) = e
    by (no some) = absurd (none number (breaks some))

-- A refused call leaves the machine and the buffer.
left_alone : {m after : Machine} {call : Call} {o : Outcome} → Answers m call o after → ¬ (o.number ≡ 0) → after ≡ m
left_alone {m} {call = call} {o} a some = answers_described a ∙ rw (ne_eqb o.number 0 some)

buffer_kept : {m : Machine} {buffer : List ℕ} {o : Outcome} → Infers m buffer o → ¬ (o.number ≡ 0) → o.buffer ≡ buffer
buffer_kept (short h) some = refl
buffer_kept (refused h j z) some = refl
buffer_kept (accepted h j) some = absurd (some refl)

cause_checked : {m : Machine} {k number : ℕ} (buffer : List ℕ) → Cause (ruling m) m k number → contains number (checks (infer buffer)) ≡ true
cause_checked buffer (shapes none) = refl
cause_checked buffer (qualifiers some none) = refl
cause_checked buffer (bounds some) = refl

-- "after 21 to 23": 24 stands in front of none of the three.
cause_before_floors : {m : Machine} {k number : ℕ} (buffer : List ℕ) → Cause (ruling m) m k number → ¬ (contains 24 (in_front_of number (checks (infer buffer))) ≡ true)
cause_before_floors buffer (shapes none) h = false≢true h
cause_before_floors buffer (qualifiers some none) h = false≢true h
cause_before_floors buffer (bounds some) h = false≢true h

-- Each number of the table is one of its call's checks.
broken_checked : {m : Machine} {call : Call} {n : ℕ} → Breaks m call n → contains n (checks call) ≡ true
broken_checked (Breaks.line_too_long h) = refl
broken_checked (Breaks.no_form e) = refl
broken_checked (Breaks.type_not_next e h) = refl
broken_checked (Breaks.param_not_next e h) = refl
broken_checked (Breaks.term_not_next e h) = refl
broken_checked (Breaks.types_full e h) = refl
broken_checked (Breaks.params_full e h) = refl
broken_checked (Breaks.terms_full e h) = refl
broken_checked (Breaks.part_not_below e t among h) = refl
broken_checked (Breaks.type_not_declared e h) = refl
broken_checked (Breaks.named_not_declared e p among h) = refl
broken_checked (Breaks.param_not_declared h) = refl
broken_checked (Breaks.child_not_below e c among h) = refl
broken_checked (Breaks.child_used e c among h) = refl
broken_checked (Breaks.both_children e same) = refl
broken_checked (Breaks.already_bound e h) = refl
broken_checked (Breaks.without_term_row e) = refl
broken_checked (Breaks.code_above h) = refl
broken_checked (Breaks.buffer_short h) = refl
broken_checked (Breaks.program_open never) = refl
broken_checked (Breaks.no_typing {buffer = buffer} refusal) = cause_checked buffer refusal.cause
broken_checked (Breaks.floors_missed none) = refl

-- Where every condition that is broken gives the number or a later one, none that is checked before the number is broken.
module _ {m after : Machine} {call : Call} {number : ℕ} (orderly : rising (checks call) ≡ true) (lends_none : lent call ≡ [])
    (breaks : ¬ (number ≡ 0) → Breaks m call number) (first : (n : ℕ) → Breaks m call n → First number n)
    (answers : Answers m call (returning number) after) where
  not-before : (n : ℕ) → contains n (in_front_of number (checks call)) ≡ true → ¬ Breaks m call n
  not-before n h broken =
      let f = first n broken in
      let less = in_front_less number n (checks call) orderly (broken_checked (breaks (λ e. omega (arith, f.0)))) h in
      omega (arith, f.1)

  change_exactly : RefusedExactly m call (returning number) after
  change_exactly =
      record {
        refused = breaks;
        in_order = not-before;
        accepted = λ e n broken. omega (arith, (first n broken).0);
        everything_else = otherwise breaks;
        untouched = λ some. (left_alone answers some, sym lends_none);
      }

-- The conditions of an infer: each is tested before those after it, and the three numbers of a program without a typing exclude each other and 24.
module _ {m : Machine} {buffer : List ℕ} where
  infer_refused : {o : Outcome} → Infers m buffer o → ¬ (o.number ≡ 0) → Breaks m (infer buffer) o.number
  infer_refused (short h) some = buffer_short h
  infer_refused (refused h (not_closed never) z) some = program_open never
  infer_refused (refused h (not_typable closed refusal) z) some = no_typing refusal
  infer_refused (refused h (below_floor closed a missed) z) some = floors_missed (none_meets a missed)
  infer_refused (refused h (typed closed a met) z) some = absurd (z refl)
  infer_refused (accepted h j) some = absurd (some refl)

  -- A number's condition is broken: the call is refused, and the number does not stand in front of the one returned.
  judged_first : {number k n : ℕ} {word : Slot → ℕ} {shape : Slot → Shape} → 6280 ≤ length buffer → Judged (ruling m) m number k word shape → Breaks m (infer buffer) n →
      ¬ (number ≡ 0) × ¬ (contains n (in_front_of number (checks (infer buffer))) ≡ true)
  judged_first long j (buffer_short h) = absurd (omega arith)
  judged_first long (not_closed never) (program_open never') = (λ e. omega arith, λ h. false≢true h)
  judged_first long (not_typable closed refusal) (program_open never) = absurd (never closed)
  judged_first long (below_floor closed a missed) (program_open never) = absurd (never closed)
  judged_first long (typed closed a met) (program_open never) = absurd (never closed)
  judged_first long (not_closed never) (no_typing {number = n} refusal) =
      (λ e. omega arith, λ h. omega (arith, eqb-true n 11 (simp or-false at h), (cause_number refusal.cause).0))
  judged_first long (not_typable closed refusal) (no_typing {number = n} refusal') =
      let same = (refusal_same (ruling m) m refusal' refusal).0 in (
        λ e. omega (arith, (cause_number refusal.cause).0),
        subst (λ (number : ℕ). ¬ (contains n (in_front_of number (checks (infer buffer))) ≡ true)) same (not_in_front n (checks (infer buffer))),
      )
  judged_first long (below_floor closed a missed) (no_typing refusal) = absurd (typed_not_refused (ruling m) m a refusal)
  judged_first long (typed closed a met) (no_typing refusal) = absurd (typed_not_refused (ruling m) m a refusal)
  judged_first long (not_closed never) (floors_missed none) = (λ e. omega arith, λ h. false≢true h)
  judged_first long (not_typable closed refusal) (floors_missed none) = (λ e. omega (arith, (cause_number refusal.cause).0), cause_before_floors buffer refusal.cause)
  judged_first long (below_floor closed a missed) (floors_missed none) = (λ e. omega arith, λ h. false≢true h)
  judged_first long (typed closed a met) (floors_missed none) = absurd (none (some_meets a met))

  infer_first : {o : Outcome} {n : ℕ} → Infers m buffer o → Breaks m (infer buffer) n →
      ¬ (o.number ≡ 0) × ¬ (contains n (in_front_of o.number (checks (infer buffer))) ≡ true)
  infer_first (short h) broken = (λ e. omega arith, λ h. false≢true h)
  infer_first (refused h j z) broken = judged_first h j broken
  infer_first (accepted h j) broken = judged_first h j broken

  infer_exactly : {o : Outcome} → Infers m buffer o → RefusedExactly m (infer buffer) o m
  infer_exactly {o} i =
      record {
        refused = infer_refused i;
        in_order = λ n h broken. (infer_first i broken).1 h;
        accepted = λ e n broken. (infer_first i broken).0 e;
        everything_else = otherwise (infer_refused i);
        untouched = λ some. (refl, buffer_kept i some);
      }

pub refused_exactly : {m after : Machine} {call : Call} {o : Outcome} → Answers m call o after → RefusedExactly m call o after
refused_exactly {m} (adds {line}) = change_exactly refl refl (add_refused m line) (λ n. add_first m line) adds
refused_exactly {m} (redeclares {p} {code}) = change_exactly refl refl (redeclare_refused m p code) (λ n. redeclare_first m p code) redeclares
refused_exactly {m} takes_back = change_exactly refl refl (take_back_refused m) (λ n. take_back_first m) takes_back
refused_exactly (infers i) = infer_exactly i

-- "The row outside 21 to 23, and the length of a refusal, are 0."
pub answers_zero : {m after : Machine} {call : Call} {o : Outcome} → Answers m call o after →
    (¬ (o.row ≡ 0) → (21 ≤ o.number) × (o.number ≤ 24)) × (¬ (o.number ≡ 0) → o.size ≡ 0)
answers_zero adds = (λ some. absurd (some refl), λ some. refl)
answers_zero redeclares = (λ some. absurd (some refl), λ some. refl)
answers_zero takes_back = (λ some. absurd (some refl), λ some. refl)
answers_zero (infers i) = infers_zero i
