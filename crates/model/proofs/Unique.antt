-- Two answers of one call on one machine are the same: a refusal's row or parameter is the least, and words are greatest and attained.
use Prim.Native.Nat.{ℕ, zero, suc, ◌+◌, ◌≤◌, ◌<◌}
use native.Mathlib.Omega.{arith}
use native.Mathlib.Decide.{dec_lt}
use mathlib.Core.Bool.{Bool, true, false}
use mathlib.Core.List.{List, ◌++◌}
use mathlib.Core.Path.{◌≡◌, refl, sym, ap₂, subst}
use lib.ListN.{length}
use Rattle.model.specs.Machine.{Machine}
use Rattle.scheme.specs.Schemes.{words}
use Rattle.model.specs.Typing.{Ty, Assignment}
use Rattle.model.specs.Strength.{Schemes}
use Rattle.model.specs.Inference.{ruling, Cause, shapes, qualifiers, bounds, Refusal, Slot, variable, param, row, Listed, IsInt, is_int, IsArrow, is_arrow, Shape, Types, ShapeSays, GreatestTyping, MeetsFloor, WordMeetsFloor, FloorsMet, FloorMissed, Judged, not_closed, not_typable, below_floor, typed, mentions}
use Rattle.model.specs.Report.{report, lines, variable_line, param_line, row_line}
use Rattle.model.proofs.Fewer.{typable_fewer}
use Rattle.model.proofs.Weaker.{weaker_rules, unordered_erased}

-- What uniqueness needs of the schemes.
pub record Lawful (S : Schemes) : Type 0 where
  pub antisymmetric : (q r : S.Q) → S.AtOrBelow q r → S.AtOrBelow r q → q ≡ r
  pub distinct : (a b : ℕ) → a < S.words → b < S.words → S.word a ≡ S.word b → a ≡ b

module _ (S : Schemes) (m : Machine) (k : ℕ) where
  -- The three causes exclude each other.
  cause_same : {n n' : ℕ} → Cause S m k n → Cause S m k n' → n ≡ n'
  cause_same (shapes no-erased) (shapes no-erased') = refl
  cause_same (shapes no-erased) (qualifiers some_erased no-unordered) = absurd (no-erased some_erased)
  cause_same (shapes no-erased) (bounds some) = absurd (no-erased (weaker_rules (unordered_erased S) some))
  cause_same (qualifiers some_erased no-unordered) (shapes no-erased) = absurd (no-erased some_erased)
  cause_same (qualifiers some_erased no-unordered) (qualifiers some-erased' no-unordered') = refl
  cause_same (qualifiers some_erased no-unordered) (bounds some) = absurd (no-unordered some)
  cause_same (bounds some) (shapes no-erased) = absurd (no-erased (weaker_rules (unordered_erased S) some))
  cause_same (bounds some) (qualifiers some_erased no-unordered) = absurd (no-unordered some)
  cause_same (bounds some) (bounds some') = refl

module _ (S : Schemes) (m : Machine) where
  -- No refusal names a later row than another.
  not_later : {n n' k k' : ℕ} → Refusal S m n k → Refusal S m n' k' → k' ≤ k
  not_later {k = k} {k'} r r' = go (dec_lt k k')
    where
      go : Dec (k < k') → k' ≤ k
      go (yes h) = absurd (r.none (r'.before k h))
      go (no h) = omega arith

  pub refusal_same : {n n' k k' : ℕ} → Refusal S m n k → Refusal S m n' k' → (n ≡ n') × (k ≡ k')
  refusal_same {n} {n'} {k} {k'} r r' =
      let e : k ≡ k' = omega (arith, not_later r r', not_later r' r) in
      (cause_same S m (k + 1) r.cause (subst (λ (j : ℕ). Cause S m (j + 1) n') (sym e) r'.cause), e)

  -- A program that has a typing is refused at no row.
  pub typed_not_refused : {word : Slot → ℕ} {shape : Slot → Shape} {n k : ℕ} → GreatestTyping S m word shape → Refusal S m n k → ⊥
  typed_not_refused a r = r.none (typable_fewer {k = length m.terms} (omega (arith, r.in_list)) (a.together.0, a.together.1))

arrow_only : {Q : Type 0} → Ty Q → Type 0
arrow_only Ty.int = ⊥
arrow_only (Ty.arrow q t q' t') = Unit {0}

int_is_no_arrow : {Q : Type 0} (t : Ty Q) → IsInt t → IsArrow t → ⊥
unfolding arrow_only
int_is_no_arrow {Q} t i a = not_arrow i (arrow a)
  where
    arrow : {t : Ty Q} → IsArrow t → arrow_only t
    arrow is_arrow = tt

    not_arrow : {t : Ty Q} → IsInt t → arrow_only t → ⊥
    not_arrow is_int h = h

module _ (S : Schemes) (m : Machine) (x : Slot) where
  -- A slot has one shape, since some typing exists.
  shape_same : (a b : Shape) → ((s : Assignment S.Q) × Types S m s) → ShapeSays S m x a → ShapeSays S m x b → a ≡ b
  shape_same Shape.int Shape.int (s, t) h h' = refl
  shape_same Shape.int Shape.arrow (s, t) h h' = absurd (int_is_no_arrow _ (h s t) (h' s t))
  shape_same Shape.int Shape.any (s, t) h h' = absurd (int_is_no_arrow _ (h h'.1.0 h'.1.1) h'.1.2)
  shape_same Shape.arrow Shape.int (s, t) h h' = absurd (int_is_no_arrow _ (h' s t) (h s t))
  shape_same Shape.arrow Shape.arrow (s, t) h h' = refl
  shape_same Shape.arrow Shape.any (s, t) h h' = absurd (int_is_no_arrow _ h'.0.2 (h h'.0.0 h'.0.1))
  shape_same Shape.any Shape.int (s, t) h h' = absurd (int_is_no_arrow _ (h' h.1.0 h.1.1) h.1.2)
  shape_same Shape.any Shape.arrow (s, t) h h' = absurd (int_is_no_arrow _ h.0.2 (h' h.0.0 h.0.1))
  shape_same Shape.any Shape.any (s, t) h h' = refl

module _ (S : Schemes) (lawful : Lawful S) (m : Machine) {word word' : Slot → ℕ} {shape shape' : Slot → Shape} (a : GreatestTyping S m word shape) (a' : GreatestTyping S m word' shape') where
  -- The word of one is a typing's, so the other is above it.
  below : (x : Slot) → Listed S m x → S.AtOrBelow (S.word (word' x)) (S.word (word x))
  below x l = subst (λ (q : S.Q). S.AtOrBelow q (S.word (word x))) (a'.together.2 x l) (a.greatest a'.together.0 a'.together.1 x l)

  above : (x : Slot) → Listed S m x → S.AtOrBelow (S.word (word x)) (S.word (word' x))
  above x l = subst (λ (q : S.Q). S.AtOrBelow q (S.word (word' x))) (a.together.2 x l) (a'.greatest a.together.0 a.together.1 x l)

  pub word_same : (x : Slot) → Listed S m x → word x ≡ word' x
  word_same x l = lawful.distinct _ _ (a.worded x l) (a'.worded x l) (lawful.antisymmetric _ _ (above x l) (below x l))

  pub shapes_same : (x : Slot) → Listed S m x → shape x ≡ shape' x
  shapes_same x l = shape_same S m x _ _ (a.together.0, a.together.1) (a.shaped x l) (a'.shaped x l)

  -- So both meet the same floors, and neither names a later parameter than the other.
  floor_met : (p : ℕ) → p < length m.params → WordMeetsFloor S m word p → WordMeetsFloor S m word' p
  floor_met p l = subst (λ (c : ℕ). MeetsFloor S m p (S.word c)) (word_same (param p) l)

  missed_not_later : {p p' : ℕ} → FloorMissed S m word p → FloorMissed S m word' p' → p ≤ p'
  missed_not_later {p} {p'} f f' = go (dec_lt p' p)
    where
      go : Dec (p' < p) → p ≤ p'
      go (yes h) = absurd (f'.missed (floor_met p' f'.declared (f.before p' h)))
      go (no h) = omega arith

-- What is judged of a machine is the number and the row or parameter, and for each listed slot the word and the shape.
pub judged_same : (S : Schemes) → Lawful S → (m : Machine) {n n' k k' : ℕ} {word word' : Slot → ℕ} {shape shape' : Slot → Shape} →
    Judged S m n k word shape → Judged S m n' k' word' shape' → (n ≡ n') × (k ≡ k')
judged_same S lawful m (not_closed no-closed) (not_closed no-closed') = (refl, refl)
judged_same S lawful m (not_closed no-closed) (not_typable closed r) = absurd (no-closed closed)
judged_same S lawful m (not_closed no-closed) (below_floor closed a f) = absurd (no-closed closed)
judged_same S lawful m (not_closed no-closed) (typed closed a met) = absurd (no-closed closed)
judged_same S lawful m (not_typable closed r) (not_closed no-closed) = absurd (no-closed closed)
judged_same S lawful m (not_typable closed r) (not_typable closed' r') = refusal_same S m r r'
judged_same S lawful m (not_typable closed r) (below_floor closed' a f) = absurd (typed_not_refused S m a r)
judged_same S lawful m (not_typable closed r) (typed closed' a met) = absurd (typed_not_refused S m a r)
judged_same S lawful m (below_floor closed a f) (not_closed no-closed) = absurd (no-closed closed)
judged_same S lawful m (below_floor closed a f) (not_typable closed' r) = absurd (typed_not_refused S m a r)
judged_same S lawful m (below_floor closed a f) (below_floor closed' a' f') = (refl, omega (arith, missed_not_later S lawful m a a' f f', missed_not_later S lawful m a' a f' f))
judged_same S lawful m (below_floor {p = p} closed a f) (typed closed' a' met) = absurd (f.missed (floor_met S lawful m a' a p f.declared (met p f.declared)))
judged_same S lawful m (typed closed a met) (not_closed no-closed) = absurd (no-closed closed)
judged_same S lawful m (typed closed a met) (not_typable closed' r) = absurd (typed_not_refused S m a r)
judged_same S lawful m (typed closed a met) (below_floor {p = p} closed' a' f) = absurd (f.missed (floor_met S lawful m a a' p f.declared (met p f.declared)))
judged_same S lawful m (typed closed a met) (typed closed' a' met') = (refl, refl)

-- No cause has the number 0.
cause_number : {S : Schemes} {m : Machine} {k n : ℕ} → Cause S m k n → n ≡ 0 → ⊥
cause_number (shapes no-erased) e = omega arith
cause_number (qualifiers some_erased no-unordered) e = omega arith
cause_number (bounds some) e = omega arith

-- The number 0 is of programs alone that have typings, of which the greatest meets every floor.
judged_typed : {S : Schemes} {m : Machine} {n k : ℕ} {word : Slot → ℕ} {shape : Slot → Shape} → Judged S m n k word shape → n ≡ 0 → GreatestTyping S m word shape × FloorsMet S m word
judged_typed (not_closed no-closed) e = let z : ⊥ = omega arith in absurd z
judged_typed (not_typable closed r) e = absurd (cause_number r.cause e)
judged_typed (below_floor closed a f) e = let z : ⊥ = omega arith in absurd z
judged_typed (typed closed a met) e = (a, met)

pub judged_accepted : {S : Schemes} {m : Machine} {n k : ℕ} {word : Slot → ℕ} {shape : Slot → Shape} → Judged S m n k word shape → n ≡ 0 → GreatestTyping S m word shape
judged_accepted j e = (judged_typed j e).0

pub judged_floors : {S : Schemes} {m : Machine} {n k : ℕ} {word : Slot → ℕ} {shape : Slot → Shape} → Judged S m n k word shape → n ≡ 0 → FloorsMet S m word
judged_floors j e = (judged_typed j e).1

-- Lines that agree at each number are the same text.
lines_same : (f g : ℕ → List ℕ) (i n : ℕ) → ((k : ℕ) → i ≤ k → k < i + n → f k ≡ g k) → lines f i n ≡ lines g i n
unfolding lines
lines_same f g i zero h = refl
lines_same f g i (suc n) h = ap₂ ◌++◌ (h i (omega arith) (omega arith)) (lines_same f g (i + 1) n (λ k low high. h k (omega arith) (omega arith)))

-- A report says no more than the words and shapes of its slots.
module _ (m : Machine) {word word' : Slot → ℕ} {shape shape' : Slot → Shape} (w : (x : Slot) → Listed (ruling m) m x → word x ≡ word' x) (h : (x : Slot) → Listed (ruling m) m x → shape x ≡ shape' x) where
  variable_same : (k : ℕ) → k < 64 → variable_line m word shape k ≡ variable_line m word' shape' k
  unfolding variable_line
  variable_same k below = go (mentions m (k + words m.schemes)) refl
    where
      go : (b : Bool) → mentions m (k + words m.schemes) ≡ b → variable_line m word shape k ≡ variable_line m word' shape' k
      go true e = let same = w (variable k) (below, e) in simp (e, same)
      go false e = simp e

  param_same : (p : ℕ) → p < length m.params → param_line m word shape p ≡ param_line m word' shape' p
  unfolding param_line
  param_same p below = simp (w (param p) below, h (param p) below)

  row_same : (i : ℕ) → i < length m.terms → row_line m word shape i ≡ row_line m word' shape' i
  unfolding row_line
  row_same i below = simp (w (row i) below, h (row i) below)

  pub report_same : report m word shape ≡ report m word' shape'
  unfolding report
  report_same =
      simp (
        lines_same (variable_line m word shape) (variable_line m word' shape') 0 64 (λ k low high. variable_same k (omega arith)),
        lines_same (param_line m word shape) (param_line m word' shape') 0 (length m.params) (λ k low high. param_same k (omega arith)),
        lines_same (row_line m word shape) (row_line m word' shape') 0 (length m.terms) (λ k low high. row_same k (omega arith)),
      )
