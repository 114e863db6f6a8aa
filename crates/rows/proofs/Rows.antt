-- Rows whose nodes are new: their kind or their parent is stored, and their qualifier put under another.
use Prim.Native.Nat.{ℕ, ◌+◌, ◌<◌, ◌≤◌}
use native.Mathlib.Omega.{arith}
use mathlib.Core.Bool.{true}
use mathlib.Core.List.{List}
use mathlib.Core.Path.{◌≡◌, refl, sym, subst, ◌∙◌}
use lib.ListN.{set}
use Rattle.layout.specs.Kinds.{arrow_kind, descriptor_of}
use Rattle.layout.specs.Layout.{row_type, row_qualifier, qualifiers_from}
use Rattle.model.specs.Typing.{Ty, int, arrow}
use Rattle.forest.specs.Forest.{Hung}
use Rattle.graph.specs.Types.{Types, TypeClasses, Equation, arrow_of, types_of}
use Rattle.graph.specs.Unused.{Within, Unused}
use Rattle.graph.specs.Steady.{Steady}
use Rattle.graph.proofs.Steady.{steady_kind, steady_hung}
use Rattle.qualifiers.specs.Classes.{Qualifiers, Classes, United, qualifiers_of}
use Rattle.qualifiers.proofs.Uniting.{new_alike, untouched_more}
use Rattle.unification.specs.Merging.{Always, Reduced}
use Rattle.unification.proofs.Unused.{unused_kind, unused_hung, unused_more}
use Rattle.unification.proofs.Fresh.{new_int, new_arrow, new_same}
use Rattle.setup.specs.Descriptors.{HasParts}
use Rattle.pending.specs.Pending.{Pending}
use Rattle.rows.specs.Steps.{Extended, PlainBefore, Ready, Carried, Known}
use Rattle.rows.proofs.Steps.{taken_beside, equated, extended, extended_as}
use Rattle.rows.proofs.Watching.{watched_same, carried_same}

-- The arrow of a descriptor, by its parts.
pub arrow_parts : {kids : List ℕ} {d aq at rq rt : ℕ} → HasParts kids d aq at rq rt → (t : ℕ → Ty ℕ) (v : ℕ → ℕ) → arrow_of kids t v d ≡ arrow (v aq) (t at) (v rq) (t rt)
arrow_parts parts t v = cc (parts.has_argument_qualifier, parts.argument, parts.has_result_qualifier, parts.result)

-- A descriptor's parts lie where it says.
pub parts_within : {kids : List ℕ} {n d aq at rq rt : ℕ} → HasParts kids d aq at rq rt → d < n → aq < qualifiers_from n → at < n → rq < qualifiers_from n → rt < n → Within n kids d
parts_within parts own aq at rq rt =
    record {
      own = own;
      argument_node = rw parts.argument at;
      result_node = rw parts.result rt;
      has_argument_qualifier = rw parts.has_argument_qualifier aq;
      has_result_qualifier = rw parts.has_result_qualifier rq;
    }

-- A row went through that asks for E and no bound, and leaves the pending pairs as they were.
abbrev Fine : (R : List ℕ) (i : ℕ) (kids : List ℕ) (T : Types) (Q : Qualifiers) (P : Pending) (T' : Types) (Q' : Qualifiers) (E : Equation) → Type 0
Fine R i kids T Q P T' Q' E = Extended R kids T Q T' Q' (PlainBefore P i) E (λ v. Unit {0}) × Ready R (i + 1) kids T' Q' P × Carried i kids T T' Q' P P Always

module _
    {i : ℕ}
    {R kids u k p b : List ℕ}
    {P : Pending}
    (in_list : i < 256)
    (types : TypeClasses (types_of u k))
    (classes : Classes R (qualifiers_of p b))
    (ready : Ready R i kids (types_of u k) (qualifiers_of p b) P) where
  -- The row's qualifier is that of node q, and F says its type.
  abbrev Row : (q : ℕ) (u' k' p' : List ℕ) (F : Equation) → Type 0
  Row q u' k' p' F = Fine R i kids (types_of u k) (qualifiers_of p b) P (types_of u' k') (qualifiers_of p' b) (λ t v. (v (row_qualifier i) ≡ v q) × F t v)

  pub new_qualifier : {p' : List ℕ} {q : ℕ} → q ≤ row_qualifier i → Hung p p' (row_qualifier i) q → United R (qualifiers_of p b) (qualifiers_of p' b) (row_qualifier i) q true
  new_qualifier low hung =
      new_alike classes (omega arith) (omega arith) (ready.qualifiers.own (row_qualifier i) (omega arith) (omega arith)) (ready.qualifiers.unbound (row_qualifier i) (omega arith) (omega arith)) low hung

  row_fine : {u' k' p' : List ℕ} {q : ℕ} {F : Equation} → q ≤ row_qualifier i → Hung p p' (row_qualifier i) q → Reduced kids (types_of u k) (types_of u' k') F Always →
      Unused (row_type (i + 1)) (types_of u' k') kids → Steady (row_type i) (types_of u k) (types_of u' k') (λ r. ⊥) → Row q u' k' p' F
  row_fine low hung reduced unused steady =
      let united = new_qualifier low hung in (
        extended (taken_beside reduced (λ t v e. (e.1, e.0)) (λ t v f q. (q, f))) (equated united),
        record {
          types = unused;
          qualifiers = united.stays (row_qualifier (i + 1)) (omega arith, omega arith) (untouched_more (omega arith) ready.qualifiers);
          within = ready.within;
          watched = watched_same ready.watched steady (λ v linked. (united.outof refl v linked).0);
        },
        carried_same (λ t v. tt),
      )

  -- The row's own node before its step, and the nodes after it.
  abbrev own : ℕ
  own = row_type i

  next : Unused (row_type (i + 1)) (types_of u k) kids
  next = unused_more ready.types (omega arith)

  pub row_int : {k' p' : List ℕ} {q : ℕ} → q ≤ row_qualifier i → Known i q 1 k p k' p' → Row q u k' p' (λ t v. t (row_type i) ≡ int)
  row_int low known =
      rw known.stored
      (row_fine low known.qualifier
      (new_int types (omega arith) (ready.types.own own (omega arith) (omega arith)) (ready.types.unknown own (omega arith) (omega arith)))
      (unused_kind next own 1 (omega arith) (omega arith) types.size (λ two. absurd (omega arith)))
      (steady_kind own 1 (omega arith)))

  -- A row under its own node asks nothing of its qualifier.
  pub row_literal : {k' p' : List ℕ} → Known i (row_qualifier i) 1 k p k' p' →
      Fine R i kids (types_of u k) (qualifiers_of p b) P (types_of u k') (qualifiers_of p' b) (λ t v. t (row_type i) ≡ int)
  row_literal known = let fine = row_int (omega arith) known in (extended_as (λ t v e. (refl, e)) (λ t v e. e.1) fine.0, fine.1, fine.2)

  pub row_same : {u' p' : List ℕ} {q ty : ℕ} → q ≤ row_qualifier i → ty < 64 → Hung u u' (row_type i) ty → Hung p p' (row_qualifier i) q →
      Row q u' k p' (λ t v. t (row_type i) ≡ t ty)
  row_same low small above hung =
      row_fine low hung
      (new_same types (omega arith) (ready.types.own own (omega arith) (omega arith)) (ready.types.unknown own (omega arith) (omega arith)) (omega arith) above)
      (unused_hung next (omega arith) above)
      (steady_hung types.forest (omega arith) (omega arith) above)

  pub row_arrow : {k' p' : List ℕ} {aq at rq rt : ℕ} → Known i 0 (arrow_kind (row_type i)) k p k' p' → HasParts kids (row_type i) aq at rq rt →
      aq < row_qualifier i → at < row_type i → rq < row_qualifier i → rt < row_type i →
      Row 0 u k' p' (λ t v. t (row_type i) ≡ arrow (v aq) (t at) (v rq) (t rt))
  row_arrow {k'} {p'} {aq} {at} {rq} {rt} known parts haq hat hrq hrt =
      let kinds : k' ≡ set k (row_type i) (arrow_kind (row_type i)) = subst (λ (m : ℕ). k' ≡ set k (row_type i) m) (omega arith) known.stored in
      let within : Within (row_type (i + 1)) kids (descriptor_of (arrow_kind (row_type i))) =
      subst (Within (row_type (i + 1)) kids) (omega arith) (parts_within parts (omega arith) (omega arith) (omega arith) (omega arith) (omega arith)) in
      let fine =
      row_fine (omega arith) known.qualifier
      (new_arrow types (omega arith) (ready.types.own own (omega arith) (omega arith)) (ready.types.unknown own (omega arith) (omega arith)) (row_type i) (omega arith))
      (unused_kind next own (arrow_kind (row_type i)) (omega arith) (omega arith) types.size (λ two. within))
      (steady_kind own (arrow_kind (row_type i)) (omega arith)) in
      rw kinds (extended_as (λ t v e. (e.0, e.1 ∙ sym (arrow_parts parts t v))) (λ t v e. (e.0, e.1 ∙ arrow_parts parts t v)) fine.0, fine.1, fine.2)
