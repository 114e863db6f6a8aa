-- Where the greatest typing misses a floor, every typing misses one, since each is at or below it.
use Prim.Native.Nat.{ℕ, ◌≤◌}
use native.Mathlib.Omega.{arith}
use mathlib.Core.List.{List}
use mathlib.Core.Path.{◌≡◌, refl, sym, ap, subst}
use lib.ListN.{length}
use Rattle.scheme.specs.Qualifier.{code}
use Rattle.scheme.specs.Schemes.{Sound}
use Rattle.scheme.proofs.Schemes.{transitive}
use Rattle.model.specs.Machine.{Machine, param_at}
use Rattle.model.specs.Closed.{Closed}
use Rattle.model.specs.Typing.{Assignment, Typable}
use Rattle.model.specs.Strength.{whole}
use Rattle.model.specs.Inference.{ruling, Slot, param, Shape, Types, GreatestTyping, MeetsFloor, FloorsMet, FloorMissed, not_closed, not_typable, below_floor, typed}
use Rattle.model.specs.Session.{Outcome, Infers, short, refused, accepted}
use Rattle.model.proofs.Answers.{infers_same}
use Rattle.model.proofs.Unique.{judged_accepted, judged_floors}
use Rattle.inference.proofs.Corollaries.{cause_number, untypable, reported_judged}
use Rattle.demands.specs.Floors.{MeetsFloors, SomeMeetsFloors, GreatestMeetsFloors, GreatestMissesFloor}
use Rattle.demands.specs.Completion.{Completes, ReportsAboveFloors}
use Rattle.demands.proofs.Completion.{completes}

module _ {m : Machine} {word : Slot → ℕ} {shape : Slot → Shape} (a : GreatestTyping (ruling m) m word shape) where
  -- The words are at or above what a typing gives, so they meet the floors that it meets.
  words_meet : (s : Assignment (ruling m).Q) → Types (ruling m) m s → MeetsFloors m s → FloorsMet (ruling m) m word
  words_meet s types met p below =
      let floor = (ruling m).word (param_at m p).floor in
      let reported = (ruling m).word (word (param p)) in
      transitive m.schemes (code floor) (code (s.param p).qualifier) (code reported) (met p below) (a.greatest s types (param p) below)

  -- A typing that has all the words meets the floors that they meet.
  completed_meets : (c : Completes m word shape) → FloorsMet (ruling m) m word → MeetsFloors m c.typing
  completed_meets c met p below = subst (MeetsFloor (ruling m) m p) (sym (c.has_words (param p) below)) (met p below)

  pub some_meets : FloorsMet (ruling m) m word → SomeMeetsFloors m
  some_meets met = let c = completes a in (c.typing, c.types, completed_meets c met)

  pub none_meets : {p : ℕ} → FloorMissed (ruling m) m word p → ¬ SomeMeetsFloors m
  none_meets {p} missed some = missed.missed (words_meet some.0 some.1 some.2 p missed.declared)

greatest_meets : {m : Machine} {buffer : List ℕ} {o : Outcome} → Infers m buffer o → o.number ≡ 0 → GreatestMeetsFloors m
greatest_meets i e = let (word, shape, size, bytes, j) = reported_judged i e in (word, shape, judged_accepted j refl, judged_floors j refl)

greatest_misses : {m : Machine} {buffer : List ℕ} {o : Outcome} → Infers m buffer o → o.number ≡ 24 → GreatestMissesFloor m o.row
greatest_misses (short h) e = absurd (omega arith)
greatest_misses (refused h (not_closed never) z) e = absurd (omega arith)
greatest_misses (refused h (not_typable closed refusal) z) e = absurd (omega (arith, (cause_number refusal.cause).1))
greatest_misses (refused {word = word} {shape = shape} h (below_floor closed a missed) z) e = (word, shape, a, missed)
greatest_misses (refused h (typed closed a met) z) e = absurd (z refl)
greatest_misses (accepted h j) e = absurd (omega arith)

met_accepted : {m : Machine} {buffer : List ℕ} {o : Outcome} → Infers m buffer o → 6280 ≤ length buffer → Closed m → SomeMeetsFloors m → o.number ≡ 0
met_accepted (short h) long closed some = absurd (omega arith)
met_accepted (refused h (not_closed never) z) long closed some = absurd (never closed)
met_accepted (refused h (not_typable _ refusal) z) long closed some = absurd (untypable refusal (some.0, some.1))
met_accepted (refused h (below_floor _ a missed) z) long closed some = absurd (none_meets a missed some)
met_accepted (refused h (typed _ a met) z) long closed some = absurd (z refl)
met_accepted (accepted h j) long closed some = refl

none_refused : {m : Machine} {buffer : List ℕ} {o : Outcome} → Infers m buffer o → 6280 ≤ length buffer → Closed m → Typable (whole (ruling m)) m (length m.terms) → ¬ SomeMeetsFloors m → o.number ≡ 24
none_refused (short h) long closed typable none = absurd (omega arith)
none_refused (refused h (not_closed never) z) long closed typable none = absurd (never closed)
none_refused (refused h (not_typable _ refusal) z) long closed typable none = absurd (untypable refusal typable)
none_refused (refused h (below_floor _ a missed) z) long closed typable none = refl
none_refused (refused h (typed _ a met) z) long closed typable none = absurd (z refl)
none_refused (accepted h j) long closed typable none = absurd (none (some_meets (judged_accepted j refl) (judged_floors j refl)))

pub above_floors : {m : Machine} {buffer : List ℕ} {o : Outcome} → Infers m buffer o → o.number ≡ 0 → ReportsAboveFloors m buffer o
above_floors i e =
    let (word, shape, size, bytes, j) = reported_judged i e in
    let a = judged_accepted j refl in
    (word, shape, size, bytes, (completes a, completed_meets a (completes a) (judged_floors j refl)))

module _ {m : Machine} {buffer : List ℕ} {o : Outcome} (i : Infers m buffer o) (long : 6280 ≤ length buffer) (closed : Closed m) where
  pub accepted_greatest : Sound m.schemes → (o.number ≡ 0 → GreatestMeetsFloors m) × (GreatestMeetsFloors m → o.number ≡ 0)
  accepted_greatest sound = (greatest_meets i, λ (word, shape, a, met). ap (λ (o : Outcome). o.number) (infers_same sound i (accepted long (typed closed a met))))

  pub missed_greatest : Sound m.schemes → (o.number ≡ 24 → GreatestMissesFloor m o.row) × ((p : ℕ) → GreatestMissesFloor m p → (o.number ≡ 24) × (o.row ≡ p))
  missed_greatest sound = (
    greatest_misses i,
    λ p (word, shape, a, missed).
        let same = infers_same sound i (refused long (below_floor closed a missed) (λ z. omega arith)) in
        (ap (λ (o : Outcome). o.number) same, ap (λ (o : Outcome). o.row) same),
  )

  pub accepted_some : (o.number ≡ 0 → SomeMeetsFloors m) × (SomeMeetsFloors m → o.number ≡ 0)
  accepted_some = (λ e. let (word, shape, a, met) = greatest_meets i e in some_meets a met, met_accepted i long closed)

  pub missed_every : (o.number ≡ 24 → Typable (whole (ruling m)) m (length m.terms) × ¬ SomeMeetsFloors m)
      × (Typable (whole (ruling m)) m (length m.terms) → ¬ SomeMeetsFloors m → o.number ≡ 24)
  missed_every = (
    λ e. let (word, shape, a, missed) = greatest_misses i e in ((a.together.0, a.together.1), none_meets a missed),
    none_refused i long closed,
  )
