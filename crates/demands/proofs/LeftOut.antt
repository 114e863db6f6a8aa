-- A call that no script can hold is refused, and so changes nothing.
use Prim.Native.Nat.{ℕ, ◌+◌, ◌≤◌}
use native.Mathlib.Omega.{arith}
use mathlib.Core.Bool.{Bool, true, false, not, cond, false≢true}
use mathlib.Core.List.{List, [], ◌∷◌, ◌++◌}
use mathlib.Core.Path.{◌≡◌, refl, sym, ap, subst, ◌∙◌}
use lib.Dec.{eqb, ltb}
use lib.ListN.{length}
use borrow.Author.Tests.{ltb-true}
use Rattle.scheme.specs.Schemes.{SchemeTable, words, Sound}
use Rattle.scheme.proofs.Schemes.{sound_few}
use Rattle.model.specs.Lists.{all_of, contains}
use Rattle.model.specs.Machine.{Machine, fresh_machine, first_failing, settled, added, redeclared}
use Rattle.model.specs.WellFormed.{WellFormed}
use Rattle.model.specs.Session.{Call, add, redeclare, take_back, infer, Outcome, Infers, short, refused, accepted, Answers, adds, redeclares, takes_back, infers, Session, next}
use Rattle.model.proofs.Names.{names_without}
use Rattle.table.proofs.WellFormed.{fresh_well_formed, answers_well_formed}
use Rattle.demands.specs.Standing.{described, standing}
use Rattle.demands.specs.Scripts.{Spelled, unspelled_numbers}
use Rattle.demands.proofs.Refusals.{added_none}
use Rattle.demands.proofs.Exactly.{refused_exactly}
use Rattle.demands.proofs.Standing.{answers_described, session_standing}
use Rattle.demands.proofs.LineFeed.{feed_no_form}

-- Every machine of a list of calls is well-formed where the first is.
standing_well_formed : {m : Machine} (before rest : List (Call × Outcome)) → WellFormed m → Session m (before ++ rest) → WellFormed (standing m before)
standing_well_formed [] rest w session = w
standing_well_formed {m} ((call, o) ∷ before) rest w (next a session) =
    standing_well_formed {m = cond (eqb o.number 0) (described m call) m} before rest
    (subst WellFormed (answers_described a) (answers_well_formed m w a))
    (subst (λ (after : Machine). Session after (before ++ rest)) (answers_described a) session)

feed_number : (m : Machine) → Sound m.schemes → (s : List ℕ) → ¬ (contains 10 s ≡ false) → (added m s).number ≡ 1
feed_number m sound s held = by (contains 10 s) refl
  where
    clean : all_of (λ name. not (contains 10 name)) m.schemes.names ≡ true
    clean = names_without 10 (omega arith) m.schemes.names sound.named

    by : (t : Bool) → contains 10 s ≡ t → (added m s).number ≡ 1
    by true e = added_none m s (feed_no_form m.schemes.names clean s e)
    by false e = absurd (held e)

either_number : (declared small : Bool) → ¬ ((declared ≡ true) × (small ≡ true)) →
    contains (cond declared (cond small 0 12) 5) (5 ∷ 12 ∷ []) ≡ true
either_number true true large = absurd (large (refl, refl))
either_number true false large = refl
either_number false small large = refl

large_number : {m : Machine} (p code : ℕ) → WellFormed m → ¬ ((p ≤ 4294967295) × (code ≤ 4294967295)) →
    contains (redeclared m p code).number (5 ∷ 12 ∷ []) ≡ true
unfolding redeclared settled first_failing
large_number {m} p code w large =
    either_number (ltb p (length m.params)) (ltb code (words m.schemes + 64)) λ (declared, small).
    large (omega (arith, ltb-true p (length m.params) declared, w.params_fit), omega (arith, ltb-true code (words m.schemes + 64) small, sound_few w.schemes_sound))

short_number : {m : Machine} {buffer : List ℕ} {o : Outcome} → Infers m buffer o → ¬ (6280 ≤ length buffer) → contains o.number (11 ∷ []) ≡ true
short_number (short h) less = refl
short_number (refused long j z) less = absurd (less long)
short_number (accepted long j) less = absurd (less long)

unspelled_number : {m after : Machine} {call : Call} {o : Outcome} → WellFormed m → Answers m call o after → ¬ Spelled call → contains o.number (unspelled_numbers call) ≡ true
unspelled_number {m} w (adds {line = s}) left = ap (λ (n : ℕ). contains n (1 ∷ [])) (feed_number m w.schemes_sound s left)
unspelled_number w (redeclares {p} {code}) left = large_number p code w left
unspelled_number w takes_back left = absurd (left tt)
unspelled_number w (infers i) left = short_number i left

-- None of these numbers accepts.
refuses : (call : Call) (n : ℕ) → contains n (unspelled_numbers call) ≡ true → ¬ (n ≡ 0)
refuses call n among e = false≢true (sym (none call) ∙ ap (λ (n : ℕ). contains n (unspelled_numbers call)) (sym e) ∙ among)
  where
    none : (call : Call) → contains 0 (unspelled_numbers call) ≡ false
    none (add s) = refl
    none (redeclare p code) = refl
    none take_back = refl
    none (infer buffer) = refl

pub unspelled_refused : {T : SchemeTable} → Sound T → (before rest : List (Call × Outcome)) (call : Call) (o : Outcome) → Session (fresh_machine T) (before ++ ((call, o) ∷ rest)) → ¬ Spelled call →
    (contains o.number (unspelled_numbers call) ≡ true) × (standing (fresh_machine T) (before ++ ((call, o) ∷ [])) ≡ standing (fresh_machine T) before)
unspelled_refused {T} sound before rest call o session left =
    let answers = session_standing before rest session in
    let among = unspelled_number (standing_well_formed before ((call, o) ∷ rest) (fresh_well_formed T sound) session) answers left in
    (among, ((refused_exactly answers).untouched (refuses call o.number among)).0)
