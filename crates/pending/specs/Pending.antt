-- Pairs of a qualifier and a type that stand together, kept while the type is unknown: once it is an arrow the qualifier is PLAIN.
use Rattle.std.specs.Prelude.{ℕ, ◌+◌, ◌<◌, ◌≤◌, List, ◌⊎◌, ◌≡◌, true, false, length, get_or, ⊤, Result, Ok, Err}
use Rattle.model.specs.Typing.{Ty}
use Rattle.layout.specs.Layout.{nodes, row_type, row_qualifier, qualifiers_from}
use Rattle.layout.specs.Kinds as Kinds
use Rattle.forest.specs.Forest.{Found, Linked}
use Rattle.forest.specs.Pairs.{Notes, left_at, right_at, notes_of}
use Rattle.graph.specs.Types.{Types, kind_at}
use Rattle.graph.specs.Steady.{ArrowClass, UnknownClass}
use Rattle.qualifiers.specs.Classes.{Qualifiers, Imposed}
use Rattle.readings.specs.Standing.{PlainAt}
use Rattle.qualifiers.specs.declared.Apart.{Apart}
use Rattle.pending.specs.declared.Pending as declared

-- The first `count` pairs, the qualifier's node left and the type's right; and which roots other nodes than their own may have pairs under.
pub record Pending : Type 0 where
  pub pairs : Notes
  pub crowded : List ℕ
  pub count : ℕ

abbrev pub pending_of : List ℕ → List ℕ → List ℕ → ℕ → Pending
pending_of left right crowded count = record { pairs = notes_of left right; crowded = crowded; count = count }

-- The same of the struct.
abbrev pub pending_in : declared.Pending → Pending
pending_in P = pending_of P.pairs.left P.pairs.right P.crowded P.count

abbrev pub pair_qualifier : Pending → ℕ → ℕ
pair_qualifier P j = left_at P.pairs j

abbrev pub pair_type : Pending → ℕ → ℕ
pair_type P j = right_at P.pairs j

-- The lines have at most 192 pairs: 64 of parameters and two of each ARROW row.
abbrev pub line_pairs : ℕ
line_pairs = 192

-- A reading is PLAIN at every pending pair that it makes an arrow.
abbrev pub AllPlain : Pending → (ℕ → Ty ℕ) → (ℕ → ℕ) → Type 0
AllPlain P t v = (j : ℕ) → j < P.count → PlainAt t v (pair_qualifier P j) (pair_type P j)

-- Every pending pair whose type is an arrow by now is PLAIN.
abbrev pub ArrowsPlain : Types → Pending → (ℕ → ℕ) → Type 0
ArrowsPlain T P v = (j r : ℕ) → j < P.count → ArrowClass T (pair_type P j) r → v (pair_qualifier P j) ≡ v 0

-- The pair is found once its root r becomes an arrow: the root is marked, or the pair is that of the row whose node the root is.
abbrev pub Marked : Pending → ℕ → ℕ → Type 0
Marked P j r = (0 < get_or P.crowded r 0) ⊎ ((row_type 0 ≤ r) × (pair_type P j ≡ r) × (pair_qualifier P j ≡ qualifiers_from r))

-- The pairs lie below the nodes of row i.
pub record Held (i : ℕ) (P : Pending) : Type 0 where
  pub few : P.count ≤ line_pairs + i
  pub marks : length P.crowded ≡ nodes
  pub qualifier_nodes : (j : ℕ) → j < P.count → pair_qualifier P j < row_qualifier i
  pub type_nodes : (j : ℕ) → j < P.count → pair_type P j < row_type i

-- Before row i: each pending pair whose type is an arrow is PLAIN in every reading, and each other is found once it becomes one.
pub record Watched (i : ℕ) (T : Types) (Q : Qualifiers) (P : Pending) : Type 0 where
  pub held : Held i P
  pub plain : (v : ℕ → ℕ) → Linked Q.parents v → ArrowsPlain T P v
  pub marked : (j r : ℕ) → j < P.count → UnknownClass T (pair_type P j) r → Marked P j r

-- Pair j of P' is pair k of P.
pub record SamePair (P' : Pending) (j : ℕ) (P : Pending) (k : ℕ) : Type 0 where
  pub in_list : k < P.count
  pub qualifier : pair_qualifier P' j ≡ pair_qualifier P k
  pub type : pair_type P' j ≡ pair_type P k

-- The qualifiers' nodes of all pairs, and PLAIN's, are below m.
abbrev pub QualifiersBelow : Pending → ℕ → Type 0
QualifiersBelow P m = (0 < m) × ((j : ℕ) → j < P.count → pair_qualifier P j < m)

-- Each pair was looked at: those whose type is an arrow were made PLAIN, and those whose type is unknown were kept.
pub record Swept (R : List ℕ) (T : Types) (Q Q' : Qualifiers) (P P' : Pending) : Type 0 where
  pub imposed : Imposed R Q Q' (ArrowsPlain T P) (QualifiersBelow P) true
  pub fewer : P'.count ≤ P.count
  pub marks : length P'.crowded ≡ nodes
  pub from : (j : ℕ) → j < P'.count → (k : ℕ) × SamePair P' j P k
  pub unknown : (j : ℕ) → j < P'.count → (r : ℕ) × UnknownClass T (pair_type P' j) r × Marked P' j r
  pub kept : (k : ℕ) → k < P.count → ((j : ℕ) × (j < P'.count) × SamePair P' j P k) ⊎ ((r : ℕ) × Found T.parents (pair_type P k) r × ¬ (kind_at T.kinds r ≡ Kinds.unknown))

-- Or two constants met, as a scheme stands with an arrow, and the count is as it was.
abbrev pub Sweeps : (R : List ℕ) (T : Types) (Q Q' : Qualifiers) (P P' : Pending) → Result ⊤ Apart → Type 0
Sweeps R T Q Q' P P' (Ok x) = Swept R T Q Q' P P'
Sweeps R T Q Q' P P' (Err e) = Imposed R Q Q' (ArrowsPlain T P) (QualifiersBelow P) false × (P'.count ≡ P.count)
