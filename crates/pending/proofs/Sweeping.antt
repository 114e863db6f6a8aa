-- A look at all pairs, one after the other: what holds after the first j of them, and how each turn keeps it.
use Prim.Native.Nat.{ℕ, ◌+◌, ◌<◌, ◌≤◌}
use native.Mathlib.Omega.{arith}
use borrow.Author.Count.{below_more}
use mathlib.Core.Bool.{Bool, true, false, false≢true}
use mathlib.Core.List.{List}
use mathlib.Core.Logic.{◌⊎◌, inl, inr}
use mathlib.Core.Path.{◌≡◌, refl, sym, subst, ◌∙◌}
use lib.ListN.{length, get_or, set, length-set}
use lib.Seq.{get_or-set_same, get_or-set_other}
use Rattle.layout.specs.Layout.{nodes, row_type, qualifiers_from, pending_places}
use Rattle.layout.specs.Kinds as Kinds
use Rattle.layout.specs.Kinds.{first_arrow}
use Rattle.forest.specs.Forest.{Found}
use Rattle.forest.specs.Pairs.{PairsIn}
use Rattle.forest.proofs.Links.{by_eq}
use Rattle.graph.specs.Types.{Types, kind_at}
use Rattle.graph.specs.Steady.{ArrowClass, UnknownClass}
use Rattle.qualifiers.specs.Classes.{Qualifiers, Imposed, United}
use Rattle.qualifiers.proofs.Uniting.{imposed_none, imposed_both}
use Rattle.forest.specs.Pairs.{Noted}
use Rattle.pending.specs.Pending.{Pending, pair_qualifier, pair_type, ArrowsPlain, QualifiersBelow, Marked, SamePair, Swept}
use Rattle.forest.proofs.Roots.{found_same}

-- The first j pairs of P alone.
abbrev pub first : Pending → ℕ → Pending
first P j = record { pairs = P.pairs; crowded = P.crowded; count = j }

-- The first j pairs of P were looked at, and P' has those that were kept. The places from j on are as they were.
pub record Sweeping (R : List ℕ) (T : Types) (Q Q' : Qualifiers) (P P' : Pending) (j : ℕ) : Type 0 where
  pub within : j ≤ P.count
  pub swept : Swept R T Q Q' (first P j) P'
  pub rest : (k : ℕ) → j ≤ k → (pair_qualifier P' k ≡ pair_qualifier P k) × (pair_type P' k ≡ pair_type P k)

-- The pair k of P is among those of P', or its type is known.
abbrev Placed : Types → (P P' : Pending) → ℕ → Type 0
Placed T P P' k = ((i : ℕ) × (i < P'.count) × SamePair P' i P k) ⊎ ((r : ℕ) × Found T.parents (pair_type P k) r × ¬ (kind_at T.kinds r ≡ Kinds.unknown))

-- The pair of q and x is found once its root r becomes an arrow: Marked, said of the pair alone.
abbrev Seen : (crowded : List ℕ) (q x r : ℕ) → Type 0
Seen crowded q x r = (0 < get_or crowded r 0) ⊎ ((row_type 0 ≤ r) × (x ≡ r) × (q ≡ qualifiers_from r))

seen_on : (crowded crowded' : List ℕ) {q q' x x' r : ℕ} → (0 < get_or crowded r 0 → 0 < get_or crowded' r 0) → (q' ≡ q) × (x' ≡ x) → Seen crowded q x r → Seen crowded' q' x' r
seen_on crowded crowded' stays same (inl marked) = inl (stays marked)
seen_on crowded crowded' stays same (inr own) = inr (own.0, same.1 ∙ own.1, same.0 ∙ own.2)

-- After a mark of root r for the pair of q and x: the roots that were marked are, and the pair is found.
pub record Marks (crowded crowded' : List ℕ) (q x r : ℕ) : Type 0 where
  pub size : length crowded' ≡ length crowded
  pub old : (s : ℕ) → 0 < get_or crowded s 0 → 0 < get_or crowded' s 0
  pub new : Seen crowded' q x r

pub marks_from : {crowded crowded' : List ℕ} {q x r : ℕ} → r < length crowded → ((crowded' ≡ crowded) × (row_type 0 ≤ r) × (x ≡ r) × (q ≡ qualifiers_from r)) ⊎ (crowded' ≡ set crowded r 1) → Marks crowded crowded' q x r
marks_from h (inl own) = rw own.0 record { size = refl; old = λ s marked. marked; new = inr (own.1, own.2, own.3) }
marks_from {crowded} {r = r} h (inr e) =
    rw e
    record {
      size = length-set crowded r 1;
      old = λ s marked. by_eq s r (λ same. rw same omega (arith, get_or-set_same crowded r 1 0 h)) (λ other. omega (arith, get_or-set_other crowded r s 1 0 other));
      new = inl (omega (arith, get_or-set_same crowded r 1 0 h));
    }

-- One turn, which reads pair j.
module _ {R : List ℕ} {T : Types} {Q Q₁ : Qualifiers} {P P₁ : Pending} {j : ℕ} (turn : Sweeping R T Q Q₁ P P₁ j) (less : j < P.count) where
  read : (pair_qualifier P₁ j ≡ pair_qualifier P j) × (pair_type P₁ j ≡ pair_type P j)
  read = turn.rest j (omega arith)

  found_read : {r : ℕ} → Found T.parents (pair_type P₁ j) r → Found T.parents (pair_type P j) r
  found_read {r} found = subst (λ (y : ℕ). Found T.parents y r) read.1 found

  pub pair_nodes : PairsIn pending_places P.pairs P.count → (pair_qualifier P₁ j < nodes) × (pair_type P₁ j < nodes)
  pair_nodes pairs = (omega (arith, read.0, pairs.left_node j less), omega (arith, read.1, pairs.right_node j less))

  -- What the first j pairs and pair j ask is what the first j + 1 ask.
  plain_more : (v : ℕ → ℕ) → ArrowsPlain T (first P j) v → ((r : ℕ) → ArrowClass T (pair_type P j) r → v (pair_qualifier P j) ≡ v 0) → ArrowsPlain T (first P (j + 1)) v
  plain_more v plain last k r h = below_more (λ k. (r : ℕ) → ArrowClass T (pair_type P k) r → v (pair_qualifier P k) ≡ v 0) j (λ k h r. plain k r h) last k h r

  below_both : {n : ℕ} → j < n → (m : ℕ) → QualifiersBelow (first P n) m → QualifiersBelow (first P j) m × ((pair_qualifier P₁ j < m) × (0 < m))
  below_both more m below = ((below.0, λ k h. below.1 k (omega arith)), (omega (arith, read.0, below.1 j more), below.0))

  -- The pairs kept before stay where they are when P₁ becomes P₂.
  same_on : {P₂ : Pending} {i k : ℕ} → (pair_qualifier P₂ i ≡ pair_qualifier P₁ i) × (pair_type P₂ i ≡ pair_type P₁ i) → SamePair P₁ i (first P j) k → SamePair P₂ i (first P (j + 1)) k
  same_on stays same = record { in_list = omega (arith, same.in_list); qualifier = stays.0 ∙ same.qualifier; type = stays.1 ∙ same.type }

  placed_on : {P₂ : Pending} {k : ℕ} → P₁.count ≤ P₂.count → ((i : ℕ) → i < P₁.count → (pair_qualifier P₂ i ≡ pair_qualifier P₁ i) × (pair_type P₂ i ≡ pair_type P₁ i)) → Placed T (first P j) P₁ k → Placed T (first P (j + 1)) P₂ k
  placed_on room stays (inl (i, h, same)) = inl (i, omega arith, same_on (stays i h) same)
  placed_on room stays (inr known) = inr known

  -- A pair whose type is no arrow asks for nothing.
  imposed_nothing : {r : ℕ} → Found T.parents (pair_type P₁ j) r → kind_at T.kinds r < first_arrow → Imposed R Q Q₁ (ArrowsPlain T (first P (j + 1))) (QualifiersBelow (first P (j + 1))) true
  imposed_nothing {r} found low =
      imposed_both turn.swept.imposed
      (imposed_none {E = λ v. (s : ℕ) → ArrowClass T (pair_type P j) s → v (pair_qualifier P j) ≡ v 0} {Below = λ m. (pair_qualifier P₁ j < m) × (0 < m)} turn.swept.imposed.classes
      (λ v s class.
      let same : r ≡ s = found_same (found_read found) class.found in
      let z : ⊥ = omega (arith, class.arrow, rw same at low) in
      absurd z))
      (λ v plain. ((λ k s h. plain k s (omega arith)), λ s. plain j s (omega arith)))
      (λ _. plain_more)
      (below_both (omega arith))

  -- A pair whose type is known is not kept.
  passed : {Q₂ : Qualifiers} {r : ℕ} → Imposed R Q Q₂ (ArrowsPlain T (first P (j + 1))) (QualifiersBelow (first P (j + 1))) true → Found T.parents (pair_type P₁ j) r → ¬ (kind_at T.kinds r ≡ Kinds.unknown) → Sweeping R T Q Q₂ P P₁ (j + 1)
  passed {r = r} imposed found known =
      record {
        within = omega arith;
        swept = record {
          imposed = imposed;
          fewer = omega (arith, turn.swept.fewer);
          marks = turn.swept.marks;
          from = λ i h. let one = turn.swept.from i h in (one.0, same_on (refl, refl) one.1);
          unknown = turn.swept.unknown;
          kept = below_more (Placed T (first P (j + 1)) P₁) j
              (λ k h. placed_on (omega arith) (λ i h. (refl, refl)) (turn.swept.kept k h))
              (inr (r, found_read found, known));
        };
        rest = λ k h. turn.rest k (omega arith);
      }

  pub sweeping_dropped : {r : ℕ} → Found T.parents (pair_type P₁ j) r → ¬ (kind_at T.kinds r ≡ Kinds.unknown) → kind_at T.kinds r < first_arrow → Sweeping R T Q Q₁ P P₁ (j + 1)
  sweeping_dropped found known low = passed (imposed_nothing found low) found known

  -- The pair's type is an arrow, and its qualifier met PLAIN.
  module _ {Q₂ : Qualifiers} {r : ℕ} {b : Bool} (found : Found T.parents (pair_type P₁ j) r) (arrow : first_arrow ≤ kind_at T.kinds r) (u : United R Q₁ Q₂ (pair_qualifier P₁ j) 0 b) where
    asked : {n : ℕ} → j < n → (v : ℕ → ℕ) → ArrowsPlain T (first P n) v → ArrowsPlain T (first P j) v × (v (pair_qualifier P₁ j) ≡ v 0)
    asked more v plain =
        let class : ArrowClass T (pair_type P j) r = record { found = found_read found; arrow = arrow } in
        ((λ k s h. plain k s (omega arith)), cc (read.0, plain j r more class))

    pub sweeping_plain : b ≡ true → Sweeping R T Q Q₂ P P₁ (j + 1)
    sweeping_plain done =
        passed
        (imposed_both turn.swept.imposed (rw done at u) (asked (omega arith)) (λ _ v plain same. plain_more v plain (λ _ _. cc read.0)) (below_both (omega arith)))
        found
        (λ e. let z : ⊥ = omega (arith, e, arrow) in absurd z)

    pub sweeping_apart : b ≡ false → Imposed R Q Q₂ (ArrowsPlain T P) (QualifiersBelow P) false
    sweeping_apart apart = imposed_both turn.swept.imposed (rw apart at u) (asked less) (λ e. absurd (false≢true e)) (below_both less)

  -- The pair's type is unknown: it was put behind those kept before, and its root marked.
  module _ {P₂ : Pending} {r : ℕ} (found : Found T.parents (pair_type P₁ j) r) (unknown : kind_at T.kinds r ≡ Kinds.unknown) (marks : Marks P₁.crowded P₂.crowded (pair_qualifier P₁ j) (pair_type P₁ j) r) (noted : Noted P₁.pairs P₂.pairs P₁.count (pair_qualifier P₁ j) (pair_type P₁ j) P₂.count) where
    newest : SamePair P₂ P₁.count (first P (j + 1)) j
    newest = record { in_list = omega arith; qualifier = noted.newest.0 ∙ read.0; type = noted.newest.1 ∙ read.1 }

    pub sweeping_kept : Sweeping R T Q Q₁ P P₂ (j + 1)
    sweeping_kept =
        record {
          within = omega arith;
          swept = record {
            imposed = imposed_nothing found (omega (arith, unknown));
            fewer = omega (arith, turn.swept.fewer, noted.next);
            marks = marks.size ∙ turn.swept.marks;
            from = λ i h.
                below_more (λ i. (k : ℕ) × SamePair P₂ i (first P (j + 1)) k) P₁.count
                (λ i h. let one = turn.swept.from i h in (one.0, same_on (noted.earlier i h) one.1))
                (j, newest) i (omega (arith, noted.next));
            unknown = λ i h.
                below_more (λ i. (s : ℕ) × UnknownClass T (pair_type P₂ i) s × Marked P₂ i s) P₁.count
                (λ i h.
                let one = turn.swept.unknown i h in
                (one.0, subst (λ (y : ℕ). UnknownClass T y one.0) (sym (noted.earlier i h).1) one.1, seen_on P₁.crowded P₂.crowded (marks.old one.0) (noted.earlier i h) one.2))
                (r, subst (λ (y : ℕ). UnknownClass T y r) (sym noted.newest.1) (record { found = found; unknown = unknown }), seen_on P₂.crowded P₂.crowded (λ marked. marked) noted.newest marks.new)
                i (omega (arith, noted.next));
            kept = below_more (Placed T (first P (j + 1)) P₂) j (λ k h. placed_on (omega (arith, noted.next)) noted.earlier (turn.swept.kept k h)) (inl (P₁.count, omega (arith, noted.next), newest));
          };
          rest = λ k h.
              let later = noted.later k (omega (arith, turn.swept.fewer)) in
              let before = turn.rest k (omega arith) in
              (later.0 ∙ before.0, later.1 ∙ before.1);
        }
