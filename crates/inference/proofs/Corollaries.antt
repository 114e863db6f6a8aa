-- What demand 3 says of one infer call, in typings.
use Prim.Native.Nat.{ℕ, ◌≤◌}
use native.Mathlib.Omega.{arith}
use mathlib.Core.List.{List, ◌++◌}
use mathlib.Core.Path.{◌≡◌, refl}
use lib.ListN.{length, drop}
use Rattle.model.specs.Machine.{Machine}
use Rattle.model.specs.Closed.{Closed}
use Rattle.model.specs.Typing.{Typable}
use Rattle.model.specs.Strength.{whole}
use Rattle.model.specs.Inference.{ruling, Slot, Shape, Cause, Refusal, GreatestTyping, Judged, not_closed, not_typable, below_floor, typed}
use Rattle.model.specs.Report.{report}
use Rattle.model.specs.Session.{Outcome, Infers, short, refused, accepted}
use Rattle.model.proofs.Fewer.{typable_fewer}
use Rattle.model.proofs.Unique.{judged_accepted}
use Rattle.model.proofs.Limits.{Within}
use Rattle.model.proofs.Length.{report_length}

pub cause_number : {m : Machine} {k number : ℕ} → Cause (ruling m) m k number → (21 ≤ number) × (number ≤ 23)
cause_number (Cause.shapes none) = (omega arith, omega arith)
cause_number (Cause.qualifiers some none) = (omega arith, omega arith)
cause_number (Cause.bounds some) = (omega arith, omega arith)

judged_closed : {m : Machine} {n k : ℕ} {word : Slot → ℕ} {shape : Slot → Shape} → Judged (ruling m) m n k word shape → n ≡ 0 → Closed m
judged_closed (not_closed never) e = absurd (omega arith)
judged_closed (not_typable closed refusal) e = closed
judged_closed (below_floor closed a f) e = closed
judged_closed (typed closed a met) e = closed

-- Some row leaves no typing, so the program has none.
pub untypable : {m : Machine} {number k : ℕ} → Refusal (ruling m) m number k → ¬ Typable (whole (ruling m)) m (length m.terms)
untypable refusal some = refusal.none (typable_fewer (omega (arith, refusal.in_list)) some)

-- 10 exactly where the program is not closed, once the buffer passes 11.
pub open_exactly : {m : Machine} {buffer : List ℕ} {o : Outcome} → Infers m buffer o → 6280 ≤ length buffer →
    (o.number ≡ 10 → ¬ Closed m) × (¬ Closed m → o.number ≡ 10)
open_exactly (short h) long = absurd (omega arith)
open_exactly (refused h (not_closed never) z) long = (λ e. never, λ e. refl)
open_exactly (refused h (not_typable closed refusal) z) long = (λ e. absurd (omega (arith, (cause_number refusal.cause).0)), λ never. absurd (never closed))
open_exactly (refused h (below_floor closed a f) z) long = (λ e. absurd (omega arith), λ never. absurd (never closed))
open_exactly (refused h (typed closed a met) z) long = absurd (z refl)
open_exactly (accepted h j) long = (λ e. absurd (omega arith), λ never. absurd (never (judged_closed j refl)))

-- 21 to 23 only where no typing exists, naming the least row that leaves none.
pub refused_untypable : {m : Machine} {buffer : List ℕ} {o : Outcome} → Infers m buffer o → 21 ≤ o.number → o.number ≤ 23 →
    Refusal (ruling m) m o.number o.row × ¬ Typable (whole (ruling m)) m (length m.terms)
refused_untypable (short h) n n' = absurd (omega arith)
refused_untypable (refused h (not_closed none) z) n n' = absurd (omega arith)
refused_untypable (refused h (not_typable closed refusal) z) n n' = (refusal, untypable refusal)
refused_untypable (refused h (below_floor closed a f) z) n n' = absurd (omega arith)
refused_untypable (refused h (typed closed a met) z) n n' = absurd (z refl)
refused_untypable (accepted h j) n n' = absurd (omega arith)

-- And always where none exists, once the buffer and the program pass 11 and 10.
pub untypable_refused : {m : Machine} {buffer : List ℕ} {o : Outcome} → Infers m buffer o → 6280 ≤ length buffer → Closed m →
    ¬ Typable (whole (ruling m)) m (length m.terms) → (21 ≤ o.number) × (o.number ≤ 23)
untypable_refused (short h) long closed none = absurd (omega arith)
untypable_refused (refused h (not_closed never) z) long closed none = absurd (never closed)
untypable_refused (refused h (not_typable _ refusal) z) long closed none = cause_number refusal.cause
untypable_refused (refused h (below_floor _ a f) z) long closed none = absurd (none (a.together.0, a.together.1))
untypable_refused (refused h (typed _ a met) z) long closed none = absurd (z refl)
untypable_refused (accepted h j) long closed none = let a = judged_accepted j refl in absurd (none (a.together.0, a.together.1))

-- A refused call names what is judged of the machine, and leaves the buffer.
pub refused_judged : {m : Machine} {buffer : List ℕ} {o : Outcome} → Infers m buffer o → 6280 ≤ length buffer → ¬ (o.number ≡ 0) →
    (word : Slot → ℕ) × (shape : Slot → Shape) × Judged (ruling m) m o.number o.row word shape
refused_judged (short h) long some = absurd (omega arith)
refused_judged (refused {word} {shape} h j z) long some = (word, shape, j)
refused_judged (accepted h j) long some = absurd (some refl)

-- An accepted call's bytes are the report of the words and shapes that are judged.
pub reported_judged : {m : Machine} {buffer : List ℕ} {o : Outcome} → Infers m buffer o → o.number ≡ 0 →
    (word : Slot → ℕ)
    × (shape : Slot → Shape)
    × (o.size ≡ length (report m word shape))
    × (o.buffer ≡ report m word shape ++ drop (length (report m word shape)) buffer)
    × Judged (ruling m) m 0 0 word shape
reported_judged (short h) e = absurd (omega arith)
reported_judged (refused h j z) e = absurd (z e)
reported_judged (accepted {word} {shape} h j) e = (word, shape, refl, refl, j)

-- Every typing is at or below the report's words, and one typing has all of them.
pub reported_greatest : {m : Machine} {buffer : List ℕ} {o : Outcome} → Infers m buffer o → o.number ≡ 0 →
    (word : Slot → ℕ)
    × (shape : Slot → Shape)
    × (o.size ≡ length (report m word shape))
    × (o.buffer ≡ report m word shape ++ drop (length (report m word shape)) buffer)
    × GreatestTyping (ruling m) m word shape
reported_greatest i e =
    let r = reported_judged i e in
    (r.0, r.1, r.2, r.3, judged_accepted r.4 refl)

-- The row outside 21 to 24, and the length of a refusal, are 0.
pub infers_zero : {m : Machine} {buffer : List ℕ} {o : Outcome} → Infers m buffer o → (¬ (o.row ≡ 0) → (21 ≤ o.number) × (o.number ≤ 24)) × (¬ (o.number ≡ 0) → o.size ≡ 0)
infers_zero (short h) = (λ some. absurd (some refl), λ some. refl)
infers_zero (refused h (not_closed none) z) = (λ some. absurd (some refl), λ some. refl)
infers_zero (refused h (not_typable closed refusal) z) = let number = cause_number refusal.cause in (λ some. (number.0, omega (arith, number.1)), λ some. refl)
infers_zero (refused h (below_floor closed a f) z) = (λ some. (omega arith, omega arith), λ some. refl)
infers_zero (refused h (typed closed a met) z) = absurd (z refl)
infers_zero (accepted h j) = (λ some. absurd (some refl), λ some. absurd (some refl))

-- No number, row or size is past its limit.
pub infers_bounded : {m : Machine} {buffer : List ℕ} {o : Outcome} → Within m → Infers m buffer o → (o.number ≤ 24) × (o.row ≤ 255) × (o.size ≤ 6280)
infers_bounded w (short h) = (omega arith, omega arith, omega arith)
infers_bounded w (refused h (not_closed none) z) = (omega arith, omega arith, omega arith)
infers_bounded w (refused h (not_typable closed refusal) z) = (omega (arith, (cause_number refusal.cause).1), omega (arith, refusal.in_list, w.terms), omega arith)
infers_bounded w (refused h (below_floor closed a f) z) = (omega arith, omega (arith, f.declared, w.params), omega arith)
infers_bounded w (refused h (typed closed a met) z) = (omega arith, omega arith, omega arith)
infers_bounded {m} w (accepted {word} {shape} h j) = (omega arith, omega arith, report_length m w word shape)
