-- An APP row whose function is an unknown root, which becomes the arrow of the row.
use Prim.Native.Nat.{ℕ, ◌+◌, ◌-◌, ◌<◌, ◌≤◌}
use native.Mathlib.Omega.{arith}
use mathlib.Core.Bool.{Bool, true, false, true≢false}
use mathlib.Core.List.{List}
use mathlib.Core.Logic.{⊎_elim}
use mathlib.Core.Path.{◌≡◌, refl, sym, ap, subst, ◌∙◌}
use lib.ListN.{get_or, set}
use lib.Seq.{set-set, set-get_or, get_or-set_same, get_or-set_other}
use Rattle.std.specs.Prelude.{⊤, Result, Ok, Err}
use Rattle.layout.specs.Kinds.{first_arrow, arrow_kind}
use Rattle.layout.specs.Layout.{nodes, pending_places, row_type, row_qualifier, qualifiers_from}
use Rattle.model.specs.Typing.{Ty}
use Rattle.forest.specs.Forest.{up, Linked, Found}
use Rattle.forest.specs.Pairs.{Noted, notes_of}
use Rattle.forest.proofs.Links.{by_eq}
use Rattle.graph.specs.Types.{Types, types_of, kind_at, TypeClasses, Reads, Equation, NodeArrow}
use Rattle.graph.specs.Unused.{Unused}
use Rattle.graph.specs.Steady.{UnknownClass}
use Rattle.qualifiers.specs.Classes.{Qualifiers, Classes, United, Tested}
use Rattle.qualifiers.specs.declared.Apart.{Apart}
use Rattle.qualifiers.proofs.Uniting.{untouched_more, imposed_none}
use Rattle.unification.specs.declared.Conflict.TheVariants.{Clash}
use Rattle.unification.specs.Merging.{Always, Reduced}
use Rattle.unification.proofs.Answering as answering
use Rattle.unification.proofs.Answering.{arrow_local}
use Rattle.unification.proofs.Merging.{AtRoot, at_own}
use Rattle.unification.proofs.Unused.{unused_more}
use Rattle.pending.specs.Pending.{Pending, pending_of, pair_type, Watched}
use Rattle.setup.specs.Descriptors.{HasParts}
use Rattle.rows.specs.Applying.{MadePlain, looked, alone, apart, bare}
use Rattle.rows.specs.Steps.{PlainBefore, Extended, Ready, PlainAtRow, left_by, Stepped, UnknownRoot, made_arrow, Bound}
use Rattle.rows.specs.declared.Failure.{Failure}
use Rattle.rows.specs.declared.Failure.TheVariants as failures
use Rattle.rows.proofs.Steps.{taken_beside, equated, extended}
use Rattle.rows.proofs.Rows.{parts_within}
use Rattle.rows.proofs.Clearing.{Cleared, cleared_same, cleared_none, cleared_swept, arrows_plain, extended_cleared, parted_cleared, watched_noted, carried_noted}

-- A root becomes an arrow, whose kind is m; or it would contain itself, and is unknown again.
module _ {kids : List ℕ} {T : Types} {x d m : ℕ} (is : m ≡ d + 2) where
  pub bound : Bound kids T (types_of T.parents (set T.kinds x m)) x d true
  bound =
      rw is
      record {
        bound = λ _. refl;
        same = λ e. absurd (true≢false e);
        none = λ e. absurd (true≢false e);
      }

  pub unbound : kind_at T.kinds x ≡ 0 → ((t : ℕ → Ty ℕ) (v : ℕ → ℕ) → Reads (types_of T.parents (set T.kinds x m)) kids t v → ⊥) →
      Bound kids T (types_of T.parents (set (set T.kinds x m) x 0)) x d false
  unbound unknown none =
      record {
        bound = λ e. absurd (true≢false (sym e));
        same = λ _. ap (types_of T.parents) (set-set T.kinds x m 0 ∙ ap (set T.kinds x) (sym unknown) ∙ set-get_or T.kinds x 0);
        none = λ _. subst (λ (j : ℕ). (t : ℕ → Ty ℕ) (v : ℕ → ℕ) → Reads (types_of T.parents (set T.kinds x j)) kids t v → ⊥) is none;
      }

-- The row's own pair of a root is made PLAIN.
own_united : {R : List ℕ} {Q Q' : Qualifiers} {r : ℕ} {b : Bool} → row_type 0 ≤ r → United R Q Q' (row_qualifier (r - row_type 0)) 0 b → United R Q Q' (qualifiers_from r) 0 b
own_united {R} {Q} {Q'} {b = b} row united = subst (λ (q : ℕ). United R Q Q' q 0 b) (omega arith) united

module _ {R : List ℕ} {Q Q' : Qualifiers} {T : Types} {P : Pending} (r : ℕ) (row : row_type 0 ≤ r) where
  pub own_apart : {e : Apart} → United R Q Q' (row_qualifier (r - row_type 0)) 0 false → MadePlain R T Q Q' P P r (Err e)
  own_apart united = apart row (own_united row united) refl

  pub own_plain : {x : ⊤} → United R Q Q' (row_qualifier (r - row_type 0)) 0 true → get_or P.crowded r 0 ≡ 0 → MadePlain R T Q Q' P P r (Ok x)
  own_plain united unmarked = alone unmarked row (own_united row united) refl

-- The root is the arrow of row i from now on.
pub record Opened (kids : List ℕ) (T T' : Types) (i r : ℕ) : Type 0 where
  pub reduced : Reduced kids T T' (NodeArrow kids r (row_type i)) Always
  pub unused : Unused (row_type (i + 1)) T' kids
  pub arrow : first_arrow ≤ kind_at T'.kinds r
  pub others : (x : ℕ) → (x ≡ r → ⊥) → kind_at T'.kinds x ≡ kind_at T.kinds x

module _ (R kids : List ℕ) (T : Types) (Q : Qualifiers) (P : Pending) (i a r : ℕ) (types : TypeClasses T) (classes : Classes R Q)
    (stands : (i < 256) × (a < i) × (r < row_type i) × UnknownRoot T r × HasParts kids (row_type i) (row_qualifier a) (row_type a) (row_qualifier i) (row_type i))
    (ready : Ready R i kids T Q P) where
  -- The types once the root is the arrow of the row.
  abbrev T' : Types
  T' = made_arrow T r (row_type i)

  abbrev Plain : Equation
  Plain = PlainBefore P i

  -- The row answers so, and leaves these qualifiers and pending pairs.
  abbrev Answers : Types → Qualifiers → Pending → Result ⊤ Failure → Type 0
  Answers T' Q' P' = Stepped R i kids T Q P (left_by T' Q' P') (NodeArrow kids r (row_type i)) (λ v. Unit {0}) (PlainAtRow i)

  at : AtRoot T.parents T.kinds T.parents r r
  at = at_own types stands.3.node stands.3.root

  own_arrow : Reduced kids T T' (NodeArrow kids r (row_type i)) Always
  own_arrow = answering.made_arrow at (row_type i) (omega arith) stands.3.unknown

  next : Unused (row_type (i + 1)) T kids
  next = unused_more ready.types (omega arith)

  pub bind_cyclic : {T₁ : Types} → Bound kids T T₁ r (row_type i) false → Answers T₁ Q P (Err (failures.Types Clash))
  bind_cyclic bound =
      rw (bound.same refl)
      ((λ t v reads e. bound.none refl t v (own_arrow.into t v reads e).0), record { classes = types; outof = λ t reads. reads }, next, refl)

  opened : Opened kids T T' i r
  opened =
      record {
        reduced = own_arrow;
        unused = arrow_local at (row_type i) (omega (arith, stands.2)) (parts_within stands.4 (omega arith) (omega arith) (omega arith) (omega arith) (omega arith)) next;
        arrow = omega (arith, get_or-set_same T.kinds r (arrow_kind (row_type i)) 0 (omega (arith, stands.3.node, types.size)));
        others = λ x other. get_or-set_other T.kinds r x (arrow_kind (row_type i)) 0 other;
      }

  -- A row that is a function is PLAIN.
  own_reading : row_type 0 ≤ r → (t : ℕ → Ty ℕ) (v : ℕ → ℕ) → Reads T' kids t v → Plain t v → v (qualifiers_from r) ≡ v 0
  own_reading row t v reads plain =
      let type : r ≡ row_type (r - 64) = omega arith in
      let qualifier : qualifiers_from r ≡ row_qualifier (r - 64) = omega arith in
      ap v qualifier ∙ plain.1 (r - 64) (omega (arith, stands.2)) _ _ _ _ (ap t (sym type) ∙ reads.arrows r stands.3.node opened.arrow)

  -- The root has no mark: its pairs are its own alone.
  watched_alone : {Q' : Qualifiers} → get_or P.crowded r 0 ≡ 0 → ((v : ℕ → ℕ) → Linked Q'.parents v → Linked Q.parents v) → ((v : ℕ → ℕ) → Linked Q'.parents v → row_type 0 ≤ r → v (qualifiers_from r) ≡ v 0) →
      Watched i T' Q' P
  watched_alone unmarked linked own =
      let watched = ready.watched in
      record {
        held = watched.held;
        plain = λ v after j s h class.
            by_eq s r
            (λ e.
            let before : UnknownClass T (pair_type P j) r = record { found = subst (Found T.parents (pair_type P j)) e class.found; unknown = stands.3.unknown } in
            ⊎_elim (λ mark. absurd (omega arith)) (λ pair. ap v pair.2 ∙ own v after pair.0) (watched.marked j r h before))
            (λ other. watched.plain v (linked v after) j s h record { found = class.found; arrow = omega (arith, class.arrow, opened.others s other) });
        marked = λ j s h class.
            by_eq s r
            (λ e. absurd (omega (arith, class.unknown, ap (kind_at T'.kinds) e, opened.arrow)))
            (λ other. watched.marked j s h record { found = class.found; unknown = sym (opened.others s other) ∙ class.unknown });
      }

  -- The types were taken in, and nothing is asked of the qualifiers but that functions are PLAIN.
  taken : Extended R kids T Q T' Q Plain (NodeArrow kids r (row_type i)) (λ v. Unit {0})
  taken = extended (taken_beside {F = λ v. Unit {0}} opened.reduced (λ t v e. (e, tt)) (λ t v e _. e)) (equated (imposed_none {Below = λ m. Unit {0}} classes (λ v. tt)))

  module _ {Q' : Qualifiers} where
    cleared : {P' : Pending} {x : ⊤} → MadePlain R T' Q Q' P P' r (Ok x) → Cleared R i kids T' Q Q' P P' Plain
    cleared (looked look) = cleared_swept (omega arith) ready.watched.held look (λ t v plain. plain.0)
    cleared (alone unmarked row imposed pairs) =
        subst (λ (P' : Pending). Cleared R i kids T' Q Q' P P' Plain) pairs
        (cleared_same imposed (omega (arith, stands.2), omega arith) (own_reading row) (watched_alone unmarked (λ v linked. (imposed.outof refl v linked).0) (λ v linked _. (imposed.outof refl v linked).1)))
    cleared {P'} (bare unmarked low same pairs) =
        subst (λ (Q' : Qualifiers). Cleared R i kids T' Q Q' P P' Plain) (sym same)
        (subst (λ (P' : Pending). Cleared R i kids T' Q Q P P' Plain) pairs
        (cleared_none classes (watched_alone unmarked (λ v linked. linked) (λ v linked row. absurd (omega arith)))))

    pub bind_apart : {P' : Pending} {e : Apart} → MadePlain R T' Q Q' P P' r (Err e) → Answers T' Q' P' (Err failures.Apart)
    bind_apart (looked look) =
        (parted_cleared taken (λ t v constant reads linked plain. look.0.clash refl v constant linked (arrows_plain (omega arith) ready.watched.held reads plain.0)), opened.unused, look.1)
    bind_apart (apart row imposed pairs) =
        (parted_cleared taken (λ t v constant reads linked plain. imposed.clash refl v constant linked (own_reading row t v reads plain)), opened.unused, ap (λ (P : Pending). P.count) (sym pairs))

    module _ {left right crowded : List ℕ} {n : ℕ} {x : ⊤} (made : MadePlain R T' Q Q' P (pending_of left right crowded n) r (Ok x)) where
      -- There is room for the row's pair, and the bounds can be tested.
      pub note_ready : (n < pending_places) × (row_qualifier i < nodes) × (row_type i < nodes)
      note_ready = (omega (arith, (cleared made).watched.held.few), omega arith, omega arith)

      pub bind_classes : Classes R Q'
      bind_classes = (cleared made).classes

      after : Extended R kids T Q T' Q' Plain (NodeArrow kids r (row_type i)) (λ v. Unit {0})
      after = extended_cleared taken (cleared made)

      module _ {left' right' : List ℕ} {n' : ℕ} (noted : Noted (notes_of left right) (notes_of left' right') n (row_qualifier i) (row_type i) n') {within : Bool} (tested : Tested R Q'.bounds within) where
        -- The row's own node is a root without a kind, as no row has touched it.
        own : up T.parents (row_type i) ≡ row_type i
        own = ready.types.own (row_type i) (omega arith) (omega arith)

        unknown : kind_at T'.kinds (row_type i) ≡ 0
        unknown = opened.others (row_type i) (λ e. omega (arith, stands.2)) ∙ ready.types.unknown (row_type i) (omega arith) (omega arith)

        pub bind_fine : {y : ⊤} → within ≡ true → Answers T' Q' (pending_of left' right' crowded n') (Ok y)
        bind_fine fits = (
          after,
          record {
            types = opened.unused;
            qualifiers = untouched_more (omega arith) ((cleared made).untouched ready.qualifiers);
            within = tested.within fits;
            watched = watched_noted (cleared made) noted own unknown;
          },
          carried_noted (cleared made) noted own unknown,
        )

        pub bind_broken : within ≡ false → Answers T' Q' (pending_of left' right' crowded n') (Err failures.Broken)
        bind_broken over = (after, opened.unused, tested.broken over, (watched_noted (cleared made) noted own unknown, carried_noted (cleared made) noted own unknown))
