-- Two nodes are made one: what is foreseen of their classes, and that the types may be put back.
use Prim.Native.Nat.{ℕ, ◌<◌}
use native.Mathlib.Omega.{arith}
use mathlib.Core.Bool.{false}
use mathlib.Core.List.{List}
use mathlib.Core.Logic.{inl, inr, ⊎_elim}
use mathlib.Core.Path.{◌≡◌, refl, sym, ap, subst, ◌∙◌}
use lib.ListN.{length, get_or, set, length-set}
use lib.Seq.{get_or-set_same, get_or-set_other}
use Rattle.std.specs.Prelude.{Err}
use Rattle.layout.specs.Layout.{nodes}
use Rattle.layout.specs.Kinds.{first_arrow}
use Rattle.model.specs.Typing.{Ty}
use Rattle.forest.specs.Forest.{Found}
use Rattle.forest.specs.Pairs.{Notes}
use Rattle.forest.proofs.Links.{by_eq}
use Rattle.forest.proofs.Roots.{found_same}
use Rattle.graph.specs.Types.{Types, kind_at, TypeClasses, Reads, Joined, Clashes, Intact, Same, types_of}
use Rattle.graph.specs.Steady.{NoArrow}
use Rattle.unification.specs.Answers.{Enforces}
use Rattle.unification.specs.declared.Conflict.{Conflict}
use Rattle.unification.specs.declared.Conflict.TheVariants.{Clash, Lost}
use Rattle.unification.proofs.Erasing.{erase, erased}
use Rattle.rows.specs.Applying.{Foreseen}

-- A mark more.
module _ (c : List ℕ) (x : ℕ) (node : x < length c) where
  mark_set : {s : ℕ} → s ≡ x → 0 < get_or (set c x 1) s 0
  mark_set e = omega (arith, ap (λ (j : ℕ). get_or (set c x 1) j 0) e, get_or-set_same c x 1 0 node)

  mark_stays : (s : ℕ) → 0 < get_or c s 0 → 0 < get_or (set c x 1) s 0
  mark_stays s marked = by_eq s x mark_set (λ n. omega (arith, get_or-set_other c x s 1 0 n))

-- The roots of the two nodes are one, or two that are no arrows.
module _ {u : List ℕ} (k : List ℕ) {x y a b : ℕ} (first : Found u x a) (second : Found u y b) where
  module _ {c : List ℕ} (room : (x < nodes) × (y < nodes) × (length c ≡ nodes)) where
    pub foreseen_one : a ≡ b → Foreseen (types_of u k) c (set c a 1) x y false
    foreseen_one e =
        let first_in : a < length c = omega (arith, first.low, room) in
        let calm : (r : ℕ) → Found u x r → Found u y r = λ r found. subst (Found u y) (sym e ∙ found_same first found) second in
        record {
          calm = λ _. inl calm;
          marked = λ _ s. ⊎_elim (λ f. mark_set c a first_in (found_same f first)) (λ f. mark_set c a first_in (found_same f second ∙ sym e));
          stays = mark_stays c a first_in;
          size = sym (length-set c a 1);
        }

    pub foreseen_none : kind_at k a < first_arrow → kind_at k b < first_arrow → Foreseen (types_of u k) c (set (set c a 1) b 1) x y false
    foreseen_none ha hb =
        let first_in : a < length c = omega (arith, first.low, room) in
        let none : NoArrow (types_of u k) x × NoArrow (types_of u k) y =
        ((λ r found. omega (arith, ap (kind_at k) (found_same first found))), λ r found. omega (arith, ap (kind_at k) (found_same second found))) in
        let second_in : b < length (set c a 1) = omega (arith, second.low, room, length-set c a 1) in
        record {
          calm = λ _. inr none;
          marked = λ _ s. ⊎_elim (λ f. mark_stays (set c a 1) b second_in s (mark_set c a first_in (found_same f first))) (λ f. mark_set (set c a 1) b second_in (found_same f second));
          stays = λ s marked. mark_stays (set c a 1) b second_in s (mark_stays c a first_in s marked);
          size = sym (length-set (set c a 1) b 1 ∙ length-set c a 1);
        }

module _ {x y : ℕ} where
  -- Whatever the conflict, no reading meets the equation.
  pub refused : {kids : List ℕ} {T : Types} (N : Notes) (T' : Types) (N' : Notes) (n : ℕ) (e : Conflict) → Enforces kids T N T' N' n (Same x y) (Err e) → Clashes kids T (Same x y)
  refused N T' N' n Clash clash = clash.0
  refused N T' N' n Lost clash = clash

  -- The types were put back.
  pub put_back : {kids : List ℕ} {T : Types} → TypeClasses T → Clashes kids T (Same x y) → Clashes kids T (Same x y) × Intact kids T T
  put_back types none = (none, record { classes = types; outof = λ t reads. reads })

  -- A type would contain itself, whatever the qualifiers are.
  pub cyclic : {kids : List ℕ} {T T' : Types} {N N' : Notes} {n n' : ℕ} → Joined kids T N T' N' n n' (Same x y) → ((t : ℕ → Ty ℕ) (v : ℕ → ℕ) → Reads T' kids t v → ⊥) → Clashes kids T (Same x y)
  cyclic joined none t v reads e = none _ _ (joined.into _ _ (erased reads) (λ j h. refl) (ap erase e)).0
