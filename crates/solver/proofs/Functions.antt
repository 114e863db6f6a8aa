-- Readings whose functions are PLAIN, from a state whose pending pairs are watched.
use Prim.Native.Nat.{ℕ, ◌-◌, ◌<◌, ◌≤◌}
use native.Mathlib.Omega.{arith}
use native.Mathlib.Decide.{dec_lt}
use mathlib.Core.List.{List}
use mathlib.Core.Path.{◌≡◌, refl, sym, ap, subst, ◌∙◌}
use lib.ListN.{length}
use Rattle.layout.specs.Layout.{row_type, nodes}
use Rattle.model.specs.Machine.{Machine}
use Rattle.model.specs.WellFormed.{WellFormed, TermStands}
use Rattle.model.specs.Typing.{Ty, int, arrow, PlainArrows}
use Rattle.scheme.specs.Schemes.{words}
use Rattle.forest.specs.Forest.{Linked, Found}
use Rattle.forest.proofs.Links.{find_root}
use Rattle.graph.specs.Types.{kind_at, argument, argument_qualifier, result, result_qualifier, Parts, TypeClasses, Reads, types_of}
use Rattle.graph.specs.Steady.{ArrowClass, UnknownClass}
use Rattle.graph.specs.Unused.{Unused}
use Rattle.qualifiers.specs.Classes.{qualifiers_of}
use Rattle.occurs.proofs.Readings.{part_node, reads_int, reads_arrow}
use Rattle.readings.specs.Nodes.{Meets, Plain}
use Rattle.readings.specs.Standing as standing
use Rattle.readings.specs.Standing.{PlainAt, Stands, param, row}
use Rattle.readings.proofs.Standing.{plain_with, plain_stands, plain_of_stands}
use Rattle.setup.specs.Descriptors.{Written, blank, form, abstraction, application}
use Rattle.pending.specs.Pending.{Pending, pair_qualifier, pair_type, AllPlain, Watched}
use Rattle.rows.specs.Steps.{PlainBefore, PartsPlain}
use Rattle.solver.specs.State.{After}

-- By what is known of a class: nothing, INT, or an arrow.
by_kind : {G : Type 0} (n : ℕ) → (n ≡ 0 → G) → (n ≡ 1 → G) → (2 ≤ n → G) → G
by_kind {G} n none one more = go (dec_lt n 1) (dec_lt n 2)
  where
    go : Dec (n < 1) → Dec (n < 2) → G
    go (yes h) d = none (omega arith)
    go (no h) (yes h') = one (omega arith)
    go (no h) (no h') = more (omega arith)

pub arrow_not_int : {a r : ℕ} {s u : Ty ℕ} → arrow a s r u ≡ int → ⊥
arrow_not_int e = let z : ◌≡◌ {A = ℕ} 0 1 = cc (e) in omega arith

module _ {u k kids : List ℕ} (types : TypeClasses (types_of u k)) {t : ℕ → Ty ℕ} {v : ℕ → ℕ} (reads : Reads (types_of u k) kids t v) where
  -- A node is PLAIN with q where its class is unknown or an arrow only if so.
  pub plain_by_class : (q x : ℕ) → x < nodes → ((y : ℕ) → UnknownClass (types_of u k) x y → PlainAt t v q x) → ((y : ℕ) → ArrowClass (types_of u k) x y → v q ≡ v 0) → PlainAt t v q x
  plain_by_class q x h unknown known a s r w e =
      let root = find_root types.forest x h in
      by_kind (kind_at k root.0)
      (λ none. unknown root.0 (record { found = root.1; unknown = none }) a s r w e)
      (λ one. absurd (arrow_not_int (sym e ∙ reads_int reads h root.1 one)))
      (λ more. known root.0 (record { found = root.1; arrow = more }))

  module _ (parts : Parts kids) (plain : PartsPlain (types_of u k) kids t v) (leaves : (x y : ℕ) → x < nodes → UnknownClass (types_of u k) x y → PlainArrows (v 0) (v 0) (t x)) where
    -- A part of an arrow in use, with what stands with it.
    inside : (τ : Ty ℕ) (x : ℕ) → x < nodes → t x ≡ τ → PlainArrows (v 0) (v 0) τ
    inside int x h e = tt
    inside (arrow a s r w) x h e =
        let root = find_root types.forest x h in
        let y = root.0 in
        let below : y < nodes = omega (arith, root.1.low) in
        by_kind (kind_at k y)
        (λ none. subst (PlainArrows (v 0) (v 0)) e (leaves x y h (record { found = root.1; unknown = none })))
        (λ one. absurd (arrow_not_int (sym e ∙ reads_int reads h root.1 one)))
        (λ more.
        let d = kind_at k y - 2 in
        let same = sym e ∙ reads_arrow reads h root.1 more in
        let both = plain y below more in
        let is_a : a ≡ v (argument_qualifier kids d) = cc (same) in
        let is-s : s ≡ t (argument kids d) = cc (same) in
        let is_r : r ≡ v (result_qualifier kids d) = cc (same) in
        let is-w : w ≡ t (result kids d) = cc (same) in (
          refl,
          plain_with (v 0) a s (λ a' s' r' w' e'. is_a ∙ both.0 a' s' r' w' (sym is-s ∙ e')) (inside s (argument kids d) (part_node types parts y 1 below (omega arith)) (sym is-s)),
          plain_with (v 0) r w (λ a' s' r' w' e'. is_r ∙ both.1 a' s' r' w' (sym is-w ∙ e')) (inside w (result kids d) (part_node types parts y 3 below (omega arith)) (sym is-w)),
        ))

    pub all_inside : (x : ℕ) → x < nodes → PlainArrows (v 0) (v 0) (t x)
    all_inside x h = inside (t x) x h refl

-- Pairs of other nodes that are the same in every reading.
at_nodes : (t : ℕ → Ty ℕ) (v : ℕ → ℕ) {q q' x x' : ℕ} → q' ≡ q → x' ≡ x → PlainAt t v q x → PlainAt t v q' x'
at_nodes t v e e' plain a s r w is = ap v e ∙ plain a s r w (ap t (sym e') ∙ is)

module _ {R : List ℕ} {m : Machine} (wf : WellFormed m) {kids u k p b : List ℕ} {P : Pending} {i : ℕ} (after : After R m kids (types_of u k) (qualifiers_of p b) P i) where
  -- The pending pairs and the rows before i stand together, so they are PLAIN where all functions are.
  pub plain_before : (t : ℕ → Ty ℕ) (v : ℕ → ℕ) → i ≤ length m.terms → Meets m i t v → Plain m i t v → PlainBefore P i t v
  plain_before t v some meets plain = (
    λ j h. plain_stands m wf meets plain (after.sound j h),
    λ j h. plain_stands m wf meets plain (row h (omega arith)),
  )

  module _ (unused : Unused (row_type i) (types_of u k) kids) where
    -- The two pairs of a descriptor in use stand together, or it is blank.
    written_plain : (t : ℕ → Ty ℕ) (v : ℕ → ℕ) → ((q x : ℕ) → Stands m i q x → PlainAt t v q x) → (d : ℕ) → d < row_type i → Written m kids d →
        PlainAt t v (argument_qualifier kids d) (argument kids d) × PlainAt t v (result_qualifier kids d) (result kids d)
    written_plain t v stands d below (blank parts) = (λ a s r w is. ap v parts.has_argument_qualifier, λ a s r w is. ap v parts.has_result_qualifier)
    written_plain t v stands d below (form h is parts) = (
      at_nodes t v parts.has_argument_qualifier parts.argument (stands _ _ (standing.argument h is)),
      at_nodes t v parts.has_result_qualifier parts.result (stands _ _ (standing.result h is)),
    )
    written_plain t v stands d below (abstraction {i = j} at h is parts) =
        let st = subst (TermStands (words m.schemes) (length m.params) j) is (wf.terms_stand j h) in (
          at_nodes t v parts.has_argument_qualifier parts.argument (stands _ _ (param st.0)),
          at_nodes t v parts.has_result_qualifier parts.result (stands _ _ (row (omega (arith, st.1)) (omega (arith, st.1)))),
        )
    written_plain t v stands d below (application {i = j} at h is parts) =
        let st = subst (TermStands (words m.schemes) (length m.params) j) is (wf.terms_stand j h) in (
          at_nodes t v parts.has_argument_qualifier parts.argument (stands _ _ (row (omega (arith, st.1)) (omega (arith, st.1)))),
          at_nodes t v parts.has_result_qualifier parts.result (stands _ _ (row (omega arith) h)),
        )

    pub parts_plain : (t : ℕ → Ty ℕ) (v : ℕ → ℕ) → ((q x : ℕ) → Stands m i q x → PlainAt t v q x) → PartsPlain (types_of u k) kids t v
    parts_plain t v stands x h many =
        let own = (unused.arrows x h many).own in
        written_plain t v stands (kind_at k x - 2) own (after.written (kind_at k x - 2) (omega (arith, after.types.kinds x h)))

    -- A reading of the state in which the pending pairs are PLAIN, and the types that are unknown are too inside.
    pub plain_reading : {t : ℕ → Ty ℕ} {v : ℕ → ℕ} → Parts kids → Watched i (types_of u k) (qualifiers_of p b) P → i ≤ 256 → Reads (types_of u k) kids t v → Linked p v →
        ((j y : ℕ) → j < P.count → UnknownClass (types_of u k) (pair_type P j) y → PlainAt t v (pair_qualifier P j) (pair_type P j)) →
        ((x y : ℕ) → x < nodes → UnknownClass (types_of u k) x y → PlainArrows (v 0) (v 0) (t x)) → Plain m i t v
    plain_reading {t} {v} parts watched few reads linked pairs leaves =
        let listed : AllPlain P t v =
        λ j h. plain_by_class after.types reads (pair_qualifier P j) (pair_type P j) (omega (arith, watched.held.type_nodes j h)) (λ y class. pairs j y h class) (λ y class. watched.plain v linked j y h class) in
        let stands = after.covers t v reads linked listed in
        plain_of_stands m t v i (all_inside after.types reads parts (parts_plain t v stands) leaves) stands wf

    -- With INT for what is unknown.
    pub plain_ints : {t : ℕ → Ty ℕ} {v : ℕ → ℕ} → Parts kids → Watched i (types_of u k) (qualifiers_of p b) P → i ≤ 256 → Reads (types_of u k) kids t v → Linked p v →
        ((x y : ℕ) → x < nodes → Found u x y → kind_at k y ≡ 0 → t x ≡ int) → Plain m i t v
    plain_ints {t} {v} parts watched few reads linked ints =
        plain_reading parts watched few reads linked
        (λ j y h class a s r w e. absurd (arrow_not_int (sym e ∙ ints (pair_type P j) y (omega (arith, watched.held.type_nodes j h)) class.found class.unknown)))
        (λ x y h class. subst (PlainArrows (v 0) (v 0)) (sym (ints x y h class.found class.unknown)) tt)
