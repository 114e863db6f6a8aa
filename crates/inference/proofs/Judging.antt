-- Each exit of an infer call is one of the answers of document 01.
use Prim.Native.Nat.{ℕ, zero, suc, ◌≤◌, ◌<◌}
use native.Mathlib.Omega.{arith}
use mathlib.Core.Bool.{Bool, false}
use Rattle.std.specs.Prelude.{Ok, Err}
use mathlib.Core.List.{List, [], ◌∷◌}
use mathlib.Core.Path.{◌≡◌, refl, sym, ap, subst, subst₂}
use lib.ListN.{length, take}
use Rattle.model.specs.Machine.{Machine}
use Rattle.model.specs.Closed.{Closed}
use Rattle.model.specs.Inference.{ruling, Slot, Shape, Cause, Refusal, FloorsMet, FloorMissed, Judged, not_closed, not_typable, below_floor, typed}
use Rattle.model.specs.Session.{Infers, short, refused, accepted}
use Rattle.scheme.proofs.Schemes.{sound_short}
use Rattle.schemes.specs.Schemes.{table_in}
use Rattle.model.specs.Line.{fields}
use Rattle.table.specs.Lists.{lists}
use Rattle.table.specs.declared.Table.{Table}
use Rattle.closed.specs.Decides.{Decides}
use Rattle.readings.specs.Programs.{machine_of}
use Rattle.report.specs.Codes.{coded_word, coded_shape}
use Rattle.report.specs.declared.Codes.{Codes}
use Rattle.report.specs.Written.{Short, Matches, Written}
use Rattle.solver.specs.Runs.{Placed, Governed}
use Rattle.solver.specs.declared.Refused.{Refused}
use Rattle.inference.specs.Outcome.{outcome}
use Rattle.table.specs.Ready.{Ready}
use Rattle.inference.specs.Judges.{Judges, Refuses}
use Rattle.inference.specs.declared.Unaccepted.{Unaccepted}

-- Taking as many as were taken takes the same.
take_taken : {A : Type 0} (n : ℕ) (l : List A) → take (length (take n l)) l ≡ take n l
take_taken zero l = refl
take_taken (suc n) [] = refl
take_taken (suc n) (x ∷ l) = ap (λ k. x ∷ k) (take_taken n l)

-- A program of the table's arrays with the numbers of entries that stand has the table's lists.
pub same_machine : (t : Table) (a b d : ℕ) → a ≡ length (lists t).types → b ≡ length (lists t).params → d ≡ length (lists t).terms →
    machine_of (table_in t.schemes) (record { types = t.types; params = t.params; terms = t.terms; typecount = a; paramcount = b; termcount = d }) ≡ lists t
unfolding lists
same_machine t a b d e f g = rw (e, f, g, take_taken t.typecount t.types, take_taken t.paramcount t.params, take_taken t.termcount t.terms)

-- The ruling of a table that is ready governs its machine.
pub ready_governed : (t : Table) → Ready t → Governed t.schemes.rule (lists t)
unfolding lists
ready_governed t ready = record { ruled = ready.kept.ruled; is_well_formed = ready.is_well_formed }

-- The names that the report is written with are the machine's.
module _ (t : Table) (text : List ℕ) (is : text ≡ take t.schemes.size t.schemes.names) where
  pub front_names : (lists t).schemes.names ≡ fields text
  unfolding lists table_in
  front_names = ap fields (sym is)

  pub front_short : Ready t → Short (fields text)
  front_short ready =
      let sound = ready.is_well_formed.schemes_sound in
      rw (← front_names) (record { few = sound.few; short = sound_short sound })

-- A cause's number is none of an accepted call.
cause_numbered : {m : Machine} {k number : ℕ} → Cause (ruling m) m k number → ¬ (number ≡ 0)
cause_numbered (Cause.shapes none) z = omega arith
cause_numbered (Cause.qualifiers some none) z = omega arith
cause_numbered (Cause.bounds some) z = omega arith

-- The row of an accepted program is 0.
pub accepted_row : {m : Machine} {n k : ℕ} {word : Slot → ℕ} {shape : Slot → Shape} → n ≡ 0 → Judged (ruling m) m n k word shape → Judged (ruling m) m 0 0 word shape
accepted_row z (not_closed none) = let no : ⊥ = omega arith in absurd no
accepted_row z (not_typable closed refusal) = absurd (cause_numbered refusal.cause z)
accepted_row z (below_floor closed a missed) = let no : ⊥ = omega arith in absurd no
accepted_row z (typed closed a met) = typed closed a met

module _ {m : Machine} where
  -- 10
  pub judges_open : {r : Refused} (closed : Bool) → Decides m closed → closed ≡ false → r ≡ record { number = 10; row = 0 } → Judges m (Err (Unaccepted.Refused r))
  judges_open closed decides e is = rw is (λ z. omega (arith, z), λ word shape. not_closed (decides.not_closed e))

  -- 21 to 23
  pub judges_untypable : {r : Refused} → Closed m → Refusal (ruling m) m r.number r.row → Judges m (Err (Unaccepted.Refused r))
  judges_untypable closed refusal = (cause_numbered refusal.cause, λ word shape. not_typable closed refusal)

  module _ {codes : Codes} (closed : Closed m) (placed : Placed m codes) where
    -- 24
    pub judges_missed : {p : ℕ} → FloorMissed (ruling m) m (coded_word codes) p → Judges m (Err (Unaccepted.BelowFloor p codes))
    judges_missed missed = below_floor closed placed.0 missed

    -- accepted
    pub judges_accepted : FloorsMet (ruling m) m (coded_word codes) → Judges m (Ok codes)
    judges_accepted met = (typed closed placed.0 met, placed.1)

-- What is not accepted has a refusal, with some words and shapes.
module _ {m : Machine} where
  pub refused_refuses : {r : Refused} → Judges m (Err (Unaccepted.Refused r)) → Refuses m r
  refused_refuses judges = (judges.0, ((λ s. 0), (λ s. Shape.any), judges.1 _ _))

  pub unaccepted_refuses : (e : Unaccepted) → Judges m (Err e) → (r : Refused) × Refuses m r
  unaccepted_refuses (Unaccepted.Refused r) judges = (r, refused_refuses judges)
  unaccepted_refuses (Unaccepted.BelowFloor p codes) judges = (record { number = 24; row = p }, (λ z. omega (arith, z), (coded_word codes, coded_shape codes, judges)))

module _ (m : Machine) (buffer : List ℕ) where
  -- 11
  pub short_refused : (r : Refused) → length buffer < 6280 → r ≡ record { number = 11; row = 0 } → Infers m buffer (outcome (Err r) buffer)
  short_refused r h is = rw is (short h)

  -- a refusal
  pub judged_refused : (r : Refused) → 6280 ≤ length buffer → Refuses m r → Infers m buffer (outcome (Err r) buffer)
  judged_refused r h refuses = refused h refuses.1.2 refuses.0

  -- the report
  pub report_written : (codes : Codes) → 6280 ≤ length buffer → Judges m (Ok codes) → (names : List (List ℕ)) (after : List ℕ) (params rows size : ℕ) → m.schemes.names ≡ names →
      length m.params ≡ params → length m.terms ≡ rows → Written names codes params rows buffer after size → Infers m buffer (outcome (Ok size) after)
  report_written codes h judges names after params rows size same e f written =
      let matches = subst₂ (Matches m codes) e f judges.1 in
      subst (Infers m buffer) (cc (written.buffer m same matches, written.size m same matches)) (accepted h judges.0)
