-- The pairs of the lines T and P, gathered into two lists: the qualifier's node left, the type's right. A pair whose type is INT asks for nothing.
use Rattle.std.specs.Prelude.{ℕ, ◌+◌, ◌<◌, ◌≤◌, List, ◌⊎◌, ◌≡◌, get_or}
use Rattle.layout.specs.Kinds.{int_kind, first_arrow}
use Rattle.forest.specs.Pairs.{Notes, left_at, right_at}
use Rattle.graph.specs.Types as graph
use Rattle.graph.specs.Types.{kind_at, argument_qualifier, result_qualifier}
use Rattle.forest.specs.Pairs.{Noted}

-- A pair of one of the first type rows: by the kinds the row is an ARROW, and its descriptor has the pair.
pub data FormPair (k kids : List ℕ) (count : ℕ) : ℕ → ℕ → Type 0 where
  argument : {d : ℕ} → d < count → first_arrow ≤ kind_at k d → FormPair k kids count (argument_qualifier kids d) (graph.argument kids d)
  result : {d : ℕ} → d < count → first_arrow ≤ kind_at k d → FormPair k kids count (result_qualifier kids d) (graph.result kids d)

-- A pair of one of the first parameters, whose nodes the lists hold.
pub data ParamPair (qualifiers typerows : List ℕ) (count : ℕ) : ℕ → ℕ → Type 0 where
  param : {p : ℕ} → p < count → ParamPair qualifiers typerows count (get_or qualifiers p 0) (get_or typerows p 0)

-- The places from `first` up to n hold pairs of the sort S, and all of it but those of INT.
pub record Gathered (S : ℕ → ℕ → Type 0) (k : List ℕ) (N : Notes) (first n : ℕ) : Type 0 where
  pub rising : first ≤ n
  pub sound : (j : ℕ) → first ≤ j → j < n → S (left_at N j) (right_at N j)
  pub complete : (q x : ℕ) → S q x → ((j : ℕ) × (first ≤ j) × (j < n) × (left_at N j ≡ q) × (right_at N j ≡ x)) ⊎ (kind_at k x ≡ int_kind)

-- The places before n are as they were.
abbrev pub Earlier : Notes → Notes → ℕ → Type 0
Earlier N N' n = (j : ℕ) → j < n → (left_at N' j ≡ left_at N j) × (right_at N' j ≡ right_at N j)

-- One pair: it was noted behind the first n; or its type is INT, and nothing changed.
pub data Added (k : List ℕ) (N N' : Notes) (n q x n' : ℕ) : Type 0 where
  noted : Noted N N' n q x n' → Added k N N' n q x n'
  left_out : N' ≡ N → n' ≡ n → kind_at k x ≡ int_kind → Added k N N' n q x n'

-- A pair is that of q and x; or it is one of a type row.
abbrev pub OnePair : ℕ → ℕ → ℕ → ℕ → Type 0
OnePair q x q' x' = (q' ≡ q) × (x' ≡ x)

abbrev pub PairOf : (k kids : List ℕ) → ℕ → ℕ → ℕ → Type 0
PairOf k kids d s x =
    (first_arrow ≤ kind_at k d) × (OnePair (argument_qualifier kids d) (graph.argument kids d) s x ⊎ OnePair (result_qualifier kids d) (graph.result kids d) s x)

-- The pairs of the sort S were added behind the first n, at most so many.
pub record Adds (S : ℕ → ℕ → Type 0) (k : List ℕ) (N N' : Notes) (n most n' : ℕ) : Type 0 where
  pub gathered : Gathered S k N' n n'
  pub few : n' ≤ n + most
  pub earlier : Earlier N N' n
