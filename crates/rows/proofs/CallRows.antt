-- An APP row whose function is an arrow, exit by exit.
use Prim.Native.Nat.{ℕ, ◌+◌, ◌-◌, ◌<◌}
use native.Mathlib.Omega.{arith}
use mathlib.Core.Bool.{Bool, true, false}
use mathlib.Core.List.{List}
use mathlib.Core.Path.{◌≡◌, refl, sym, subst, ◌∙◌}
use Rattle.std.specs.Prelude.{⊤, Result, Ok, Err}
use Rattle.layout.specs.Layout.{row_type, row_qualifier, qualifiers_from}
use Rattle.model.specs.Typing.{Ty}
use Rattle.forest.specs.Pairs.{Notes, PairsBelow}
use Rattle.graph.specs.Types.{Types, types_of, kind_at, argument, result, result_qualifier, Joined, Equation}
use Rattle.graph.specs.Unused.{Unused}
use Rattle.graph.specs.Steady.{Steady, Calm, RootOfEither}
use Rattle.qualifiers.specs.Classes.{Qualifiers, Classes, UnitedAll, Tested}
use Rattle.qualifiers.specs.declared.Apart.{Apart}
use Rattle.qualifiers.proofs.Uniting.{untouched_more}
use Rattle.readings.specs.Standing.{PlainAt}
use Rattle.unification.specs.Answers.{Enforces, Confined}
use Rattle.unification.specs.Merging.{InUse}
use Rattle.unification.specs.declared.Conflict.{Conflict}
use Rattle.unification.specs.declared.Conflict.TheVariants.{Clash, Lost}
use Rattle.unification.proofs.Unused.{unused_more}
use Rattle.pending.specs.Pending.{Pending, Held}
use Rattle.rows.specs.Steps.{Carried, PlainBefore, Extended, Ready, PartsPlain, PlainAtRow, left_by, Stepped, Calls}
use Rattle.rows.specs.Applying.{Foreseen, LookedIf, swept, still}
use Rattle.rows.specs.declared.Failure.{Failure}
use Rattle.rows.specs.declared.Failure.TheVariants as failures
use Rattle.rows.proofs.Steps.{taken_noted, equated, extended, parted}
use Rattle.rows.proofs.Watching.{remarked, watched_next}
use Rattle.rows.proofs.Clearing.{Cleared, cleared_none, cleared_swept, arrows_plain, extended_cleared, parted_cleared, carried_cleared}

-- The row has the type and the qualifier of the arrow's result, which is PLAIN if it is a function.
result_plain : (kids u k : List ℕ) (d i a : ℕ) (t : ℕ → Ty ℕ) (v : ℕ → ℕ) → InUse k d → Calls kids d i a t v → PartsPlain (types_of u k) kids t v → PlainAtRow i t v
result_plain kids u k d i a t v used calls parts x s y w e =
    let is : kind_at k used.0 - 2 ≡ d = omega (arith, used.2) in
    let plain = subst (λ (j : ℕ). PlainAt t v (result_qualifier kids j) (result kids j)) is (parts used.0 used.1 (omega (arith, used.2))).1 in
    let same = plain x s y w (cc (calls, e)) in
    cc (calls, same)

module _ (R kids u k : List ℕ) (Q : Qualifiers) (P : Pending) (i a d : ℕ) (stands : (i < 256) × (a < i) × InUse k d) (ready : Ready R i kids (types_of u k) Q P)
    (N : Notes) (T' : Types) (N' : Notes) (r : Result ℕ Conflict) (answer : Enforces kids (types_of u k) N T' N' 0 (Calls kids d i a) r) (confined : Confined (row_type (i + 1)) kids (types_of u k) N T' N' 0 r) where
  abbrev T : Types
  T = types_of u k

  abbrev Plain : Equation
  Plain = PlainBefore P i

  -- The row answers so, and leaves these qualifiers and pending pairs.
  abbrev Answers : Qualifiers → Pending → Result ⊤ Failure → Type 0
  Answers Q' P' = Stepped R i kids T Q P (left_by T' Q' P') (Calls kids d i a) (λ v. Unit {0}) (PlainAtRow i)

  none_noted : PairsBelow (qualifiers_from (row_type (i + 1))) N 0
  none_noted = record { left_below = λ j h. absurd (omega arith); right_below = λ j h. absurd (omega arith) }

  next : Unused (row_type (i + 1)) T kids
  next = unused_more ready.types (omega arith)

  unused_after : Unused (row_type (i + 1)) T' kids
  unused_after = (confined next none_noted).0

  pub call_conflict : (crowded₁ : List ℕ) (conflict : Conflict) → r ≡ Err conflict → Answers Q (remarked P crowded₁) (Err (failures.Types conflict))
  call_conflict crowded₁ Clash e = let clash = rw e at answer in (clash.0, clash.1, unused_after, refl)
  call_conflict crowded₁ Lost e = (rw e at answer, refl)

  module _ {m : ℕ} (e : r ≡ Ok m) where
    noted : Joined kids T N T' N' 0 m (Calls kids d i a)
    noted = rw e at answer

    pairs_below : PairsBelow (row_qualifier (i + 1)) N' m
    pairs_below = subst (λ (j : ℕ). PairsBelow j N' m) (omega arith) (rw e at (confined next none_noted)).1

    pub call_apart : {Q₁ : Qualifiers} → UnitedAll R Q Q₁ N' m false → Answers Q₁ P (Err failures.Apart)
    call_apart apart = (parted (taken_noted noted) (λ j h. refl) (apart.clash refl), unused_after, refl)

    module _ {Q₁ : Qualifiers} (united : UnitedAll R Q Q₁ N' m true) where
      called : Extended R kids T Q T' Q₁ Plain (Calls kids d i a) (λ v. Unit {0})
      called = extended (taken_noted noted) (equated united)

      module _ {crowded₁ : List ℕ} {closes : Bool} (foreseen : Foreseen T P.crowded crowded₁ (row_type a) (argument kids d) closes)
          (steady : Calm T (row_type a) (argument kids d) → Steady (row_type i) T T' (RootOfEither T (row_type a) (argument kids d))) where
        abbrev P₁ : Pending
        P₁ = remarked P crowded₁

        held : Held (i + 1) P₁
        held =
            record {
              few = omega (arith, ready.watched.held.few);
              marks = sym foreseen.size ∙ ready.watched.held.marks;
              qualifier_nodes = λ j h. omega (arith, ready.watched.held.qualifier_nodes j h);
              type_nodes = λ j h. omega (arith, ready.watched.held.type_nodes j h);
            }

        module _ {Q₂ : Qualifiers} {P₂ : Pending} where
          cleared : {x : ⊤} → LookedIf R T' Q₁ Q₂ P₁ P₂ closes (Ok x) → Cleared R (i + 1) kids T' Q₁ Q₂ P₁ P₂ Plain
          cleared (swept look) = cleared_swept (omega arith) held look (λ t v plain. plain.0)
          cleared (still closed same pairs) =
              let steadily = steady (foreseen.calm closed) in
              let watched = watched_next ready.watched steadily (foreseen.marked closed) foreseen.stays held.marks called.linked in
              subst (λ (Q' : Qualifiers). Cleared R (i + 1) kids T' Q₁ Q' P₁ P₂ Plain) (sym same)
              (subst (λ (P' : Pending). Cleared R (i + 1) kids T' Q₁ Q₁ P₁ P' Plain) pairs (cleared_none called.classes watched))

          pub call_classes : {x : ⊤} → LookedIf R T' Q₁ Q₂ P₁ P₂ closes (Ok x) → Classes R Q₂
          call_classes looked = (cleared looked).classes

          module _ {x : ⊤} (looked : LookedIf R T' Q₁ Q₂ P₁ P₂ closes (Ok x)) {within : Bool} (tested : Tested R Q₂.bounds within) where
            after : Extended R kids T Q T' Q₂ Plain (Calls kids d i a) (λ v. Unit {0})
            after = extended_cleared called (cleared looked)

            carried : Carried i kids T T' Q₂ P P₂ (PlainAtRow i)
            carried = carried_cleared (cleared looked) (λ t v reads linked parts plain. result_plain kids u k d i a t v stands.2 (after.outof t v reads linked).2 parts)

            pub call_fine : {y : ⊤} → within ≡ true → Answers Q₂ P₂ (Ok y)
            call_fine fits =
                let left_over = cleared looked in (
                  after,
                  record {
                    types = unused_after;
                    qualifiers = left_over.untouched (united.stays (row_qualifier (i + 1)) pairs_below (untouched_more (omega arith) ready.qualifiers));
                    within = tested.within fits;
                    watched = left_over.watched;
                  },
                  carried,
                )

            pub call_broken : within ≡ false → Answers Q₂ P₂ (Err failures.Broken)
            call_broken over = (after, unused_after, tested.broken over, ((cleared looked).watched, carried))

          pub call_parted : {e : Apart} → LookedIf R T' Q₁ Q₂ P₁ P₂ closes (Err e) → Answers Q₂ P₂ (Err failures.Apart)
          call_parted (swept look) =
              (parted_cleared called (λ t v constant reads linked plain. look.0.clash refl v constant linked (arrows_plain (omega arith) held reads plain.0)), unused_after, look.1)
