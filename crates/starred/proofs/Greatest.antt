-- The words and shapes of a program from two typings: the first has the words and takes ANY as INT, the second takes ANY as an arrow, and every typing passes a test against both.
use Prim.Native.Nat.{ℕ, ◌+◌}
use native.Mathlib.Omega.{arith}
use mathlib.Core.Bool.{Bool, true, false, ◌&&◌, false≢true}
use mathlib.Core.Path.{◌≡◌, refl, sym, subst}
use lib.ListN.{length}
use Rattle.scheme.specs.Qualifier.{code}
use Rattle.scheme.specs.Schemes.{below}
use Rattle.scheme.proofs.Qualifier.{qualifier_code, code_below}
use Rattle.scheme.proofs.Every.{and_left, and_right, implies, implies_true, every, every_at}
use Rattle.model.specs.Machine.{Machine}
use Rattle.model.specs.Typing.{Ty, int, arrow, Assignment}
use Rattle.model.specs.Inference.{ruling, Slot, variable, param, row, mentions, Listed, slot_qualifier, type_of, IsInt, is_int, IsArrow, is_arrow, Shape, Types, ShapeSays, GreatestTyping}

-- The test passes at every slot of the report: at the variables, the parameters and the rows.
abbrev pub EverySlot : Machine → (Slot → Bool) → Type 0
EverySlot m test =
    (every 64 (λ k. implies (mentions m (k + (ruling m).words)) (test (variable k))) ≡ true)
    × (every (length m.params) (λ p. test (param p)) ≡ true)
    × (every (length m.terms) (λ i. test (row i)) ≡ true)

slot_at : (m : Machine) (test : Slot → Bool) → EverySlot m test → (x : Slot) → Listed (ruling m) m x → test x ≡ true
slot_at m test h (variable k) l =
    implies_true (mentions m (k + (ruling m).words)) (test (variable k)) (every_at 64 (λ k. implies (mentions m (k + (ruling m).words)) (test (variable k))) h.0 k l.0) l.1
slot_at m test h (param p) l = every_at (length m.params) (λ p. test (param p)) h.1 p l
slot_at m test h (row i) l = every_at (length m.terms) (λ i. test (row i)) h.2 i l

abbrev pub shape_of : {Q : Type 0} → Ty Q → Shape
shape_of int = Shape.int
shape_of (arrow q t q' t') = Shape.arrow

-- The shape from those of the two typings: ANY where the first has INT and the second an arrow.
abbrev pub between : Shape → Shape → Shape
between Shape.int Shape.int = Shape.int
between Shape.int Shape.arrow = Shape.any
between Shape.int Shape.any = Shape.any
between Shape.arrow second = Shape.arrow
between Shape.any second = Shape.any

-- A type of the second shape is no exception to the first.
abbrev pub suits : Shape → Shape → Bool
suits Shape.int Shape.int = true
suits Shape.int Shape.arrow = false
suits Shape.int Shape.any = false
suits Shape.arrow Shape.int = false
suits Shape.arrow Shape.arrow = true
suits Shape.arrow Shape.any = false
suits Shape.any other = true

is_int_of : {Q : Type 0} (τ : Ty Q) → suits Shape.int (shape_of τ) ≡ true → IsInt τ
is_int_of int h = is_int
is_int_of (arrow q t q' t') h = absurd (false≢true h)

is_arrow_of : {Q : Type 0} (τ : Ty Q) → suits Shape.arrow (shape_of τ) ≡ true → IsArrow τ
is_arrow_of int h = absurd (false≢true h)
is_arrow_of (arrow q t q' t') h = is_arrow

module _ (m : Machine) (first second : Assignment (ruling m).Q) where
  abbrev pub words : Slot → ℕ
  words x = code (slot_qualifier first x)

  abbrev pub shapes : Slot → Shape
  shapes x = between (shape_of (type_of first x)) (shape_of (type_of second x))

  -- At the slot the typing has a qualifier at or below the word, and a type of the shape.
  abbrev pub within : Assignment (ruling m).Q → Slot → Bool
  within s x = below m.schemes (code (slot_qualifier s x)) (words x) && suits (shapes x) (shape_of (type_of s x))

  module _ (typed-first : Types (ruling m) m first) (typed-second : Types (ruling m) m second) (all-within : (s : Assignment (ruling m).Q) → Types (ruling m) m s → EverySlot m (within s)) where
    module _ (x : Slot) (l : Listed (ruling m) m x) where
      at : (s : Assignment (ruling m).Q) → Types (ruling m) m s → within s x ≡ true
      at s typing = slot_at m (within s) (all-within s typing) x l

      at_or_below_lem : (s : Assignment (ruling m).Q) → Types (ruling m) m s → below m.schemes (code (slot_qualifier s x)) (code ((ruling m).word (words x))) ≡ true
      at_or_below_lem s typing = rw (qualifier_code (slot_qualifier first x)) (and_left _ _ (at s typing))

      suiting : (s : Assignment (ruling m).Q) → Types (ruling m) m s → suits (shapes x) (shape_of (type_of s x)) ≡ true
      suiting s typing = and_right (below m.schemes (code (slot_qualifier s x)) (words x)) _ (at s typing)

      says : (τ σ : Ty (ruling m).Q) → type_of first x ≡ τ → type_of second x ≡ σ →
          ((s : Assignment (ruling m).Q) → Types (ruling m) m s → suits (between (shape_of τ) (shape_of σ)) (shape_of (type_of s x)) ≡ true) →
          ShapeSays (ruling m) m x (between (shape_of τ) (shape_of σ))
      says int int e e' h = λ s typing. is_int_of (type_of s x) (h s typing)
      says int (arrow q t q' t') e e' h = ((first, typed-first, subst IsInt (sym e) is_int), (second, typed-second, subst IsArrow (sym e') is_arrow))
      says (arrow q t q' t') σ e e' h = λ s typing. is_arrow_of (type_of s x) (h s typing)

      any_int : (τ σ : Ty (ruling m).Q) → type_of first x ≡ τ → between (shape_of τ) (shape_of σ) ≡ Shape.any → IsInt (type_of first x)
      any_int int σ e any = subst IsInt (sym e) is_int
      any_int (arrow q t q' t') σ e any = let z : ◌≡◌ {A = ℕ} 0 1 = cc in absurd (omega arith)

    pub greatest_typing : GreatestTyping (ruling m) m words shapes
    greatest_typing =
        record {
          worded = λ x l. code_below (slot_qualifier first x);
          greatest = λ s typing x l. at_or_below_lem x l s typing;
          shaped = λ x l. says x l (type_of first x) (type_of second x) refl refl (suiting x l);
          together = (first, typed-first, (λ x l. sym (qualifier_code (slot_qualifier first x))), (λ x l any. any_int x l (type_of first x) (type_of second x) refl any));
        }
