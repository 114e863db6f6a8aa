-- Document 02, f): what a report and a refusal say of functions, which are never ciphertext.
use Prim.Native.Nat.{ℕ, zero, suc, ◌+◌, ◌<◌, ◌≤◌}
use native.Mathlib.Omega.{arith}
use mathlib.Core.List.{List}
use mathlib.Core.Path.{◌≡◌, refl, sym, subst, ◌∙◌}
use lib.ListN.{length}
use borrow.Author.Tests.{lt-ltb}
use Rattle.model.specs.Machine.{Machine, param_at}
use Rattle.model.specs.Closed.{Closed}
use Rattle.model.specs.WellFormed.{WellFormed}
use Rattle.model.specs.Typing.{Ty, Assignment, PlainArrows, Typable}
use Rattle.model.specs.Strength.{Schemes, whole, unordered}
use Rattle.model.specs.Inference.{ruling, Slot, variable, param, row, Listed, slot_qualifier, type_of, IsArrow, is_arrow, Shape, Types, ShapeSays, GreatestTyping, Cause, Refusal}
use Rattle.model.specs.Session.{Outcome, Infers}
use Rattle.model.proofs.Fewer.{typable_fewer}
use Rattle.model.proofs.Unique.{Lawful}
use Rattle.readings.proofs.Lines.{first_row_typable}
use Rattle.inference.proofs.Corollaries.{refused_untypable, untypable_refused}

-- What stands with an arrow is PLAIN.
head_plain : {Q : Type 0} {plain q : Q} {τ : Ty Q} → IsArrow τ → PlainArrows plain q τ → q ≡ plain
head_plain is_arrow plain = plain.0

module _ (S : Schemes) (lawful : Lawful S) (some : 0 < S.words) {m : Machine} where
  -- A typing gives PLAIN to each slot that it makes a function.
  slot_plain : (s : Assignment S.Q) → Types S m s → (x : Slot) → Listed S m x → IsArrow (type_of s x) → slot_qualifier s x ≡ S.word 0
  slot_plain s typing (variable _) l is = elim is [ ]
  slot_plain s typing (param p) l is = head_plain is (typing.functions.params p l)
  slot_plain s typing (row i) l is = head_plain is (typing.functions.rows i l l)

  pub reported_plain : {word : Slot → ℕ} {shape : Slot → Shape} → GreatestTyping S m word shape → (x : Slot) → Listed S m x → shape x ≡ Shape.arrow → word x ≡ 0
  reported_plain a x l e =
      let s = a.together.0 in
      let typing = a.together.1 in
      let is = (subst (ShapeSays S m x) e (a.shaped x l)) s typing in
      lawful.distinct _ 0 (a.worded x l) some (sym (a.together.2 x l) ∙ slot_plain s typing x l is)

  -- A parameter whose line names a scheme is no function in any typing.
  no_function : (p : ℕ) → p < length m.params → 0 < (param_at m p).qualifier → (param_at m p).qualifier < S.words →
      (s : Assignment S.Q) → Types S m s → IsArrow (type_of s (param p)) → ⊥
  no_function p h scheme word s typing is =
      let c = (param_at m p).qualifier in
      let declared : (s.param p).qualifier ≡ S.word c = (typing.follows.params_agree p h).0 ∙ rw (lt-ltb c S.words word) in
      let same = lawful.distinct c 0 word some (sym declared ∙ slot_plain s typing (param p) h is) in
      omega arith

  pub declared_int : {word : Slot → ℕ} {shape : Slot → Shape} → GreatestTyping S m word shape → (p : ℕ) → p < length m.params →
      0 < (param_at m p).qualifier → (param_at m p).qualifier < S.words → shape (param p) ≡ Shape.int
  declared_int {shape = shape} a p h scheme word = go (shape (param p)) refl
    where
      go : (k : Shape) → shape (param p) ≡ k → k ≡ Shape.int
      go Shape.int e = refl
      go Shape.arrow e = absurd (no_function p h scheme word a.together.0 a.together.1 (subst (ShapeSays S m (param p)) e (a.shaped (param p) h) a.together.0 a.together.1))
      go Shape.any e = let other = (subst (ShapeSays S m (param p)) e (a.shaped (param p) h)).1 in absurd (no_function p h scheme word other.0 other.1 other.2)

-- Without rows no operation asks for a bound.
lines-whole : (S : Schemes) {m : Machine} → Typable (unordered S) m 0 → Typable (whole S) m 0
lines-whole S (s, typing) = (
  s,
  record {
    follows =
        record {
          types_agree = typing.follows.types_agree;
          params_agree = typing.follows.params_agree;
          rows_meet = λ i below h. let z : ⊥ = omega arith in absurd z;
        };
    functions = record { types = typing.functions.types; params = typing.functions.params; rows = λ i below h. let z : ⊥ = omega arith in absurd z };
  },
)

by_zero : {G : Type 0} (n : ℕ) → (n ≡ 0 → G) → (0 < n → G) → G
by_zero zero none some = none refl
by_zero (suc n) none some = some (omega arith)

-- At row 0 the types never clash, and no bound is asked for before the first operation.
first_cause : {m : Machine} {number : ℕ} → WellFormed m → 0 < length m.terms → ¬ Typable (whole (ruling m)) m 0 → Cause (ruling m) m 1 number → number ≡ 22
first_cause {m} wf rows none (Cause.shapes untypable) = absurd (untypable (first_row_typable m wf rows))
first_cause wf rows none (Cause.qualifiers erased untypable) = refl
first_cause {m} wf rows none (Cause.bounds loose) = absurd (none (lines-whole (ruling m) (typable_fewer (omega arith) loose)))

-- Where the lines alone have no typing the least row is 0, and it is for their qualifiers.
first_refused : {m : Machine} {number k : ℕ} → WellFormed m → ¬ Typable (whole (ruling m)) m 0 → Refusal (ruling m) m number k → (number ≡ 22) × (k ≡ 0)
first_refused {m} {number} {k} wf none refusal =
    let least : k ≡ 0 = by_zero k (λ e. e) (λ positive. absurd (none (typable_fewer (omega arith) (refusal.before 0 positive)))) in
    (first_cause wf (omega (arith, refusal.in_list)) none (subst (λ (n : ℕ). Cause (ruling m) m (n + 1) number) least refusal.cause), least)

pub lines_refused : {m : Machine} {buffer : List ℕ} {o : Outcome} → Infers m buffer o → 6280 ≤ length buffer → Closed m → WellFormed m → ¬ Typable (whole (ruling m)) m 0 →
    (o.number ≡ 22) × (o.row ≡ 0)
lines_refused infers long closed wf none =
    let number = untypable_refused infers long closed (λ typable. none (typable_fewer (omega arith) typable)) in
    first_refused wf none (refused_untypable infers number.0 number.1).0
