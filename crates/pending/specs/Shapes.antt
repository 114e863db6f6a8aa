-- The shapes that functions under no scheme leave: an unknown type with which a scheme stands is INT.
use Rattle.std.specs.Prelude.{ℕ, ◌<◌, List, ◌⊎◌, ◌≡◌, set}
use Rattle.scheme.specs.Rule.{words_at}
use Rattle.layout.specs.Kinds as Kinds
use Rattle.forest.specs.Forest.{Found}
use Rattle.graph.specs.Types.{types_of, kind_at, TypeClasses}
use Rattle.qualifiers.specs.Classes.{Qualifiers}
use Rattle.pending.specs.Pending.{Pending, pair_qualifier, pair_type}

-- Under root r of the types the pair j stands, and its qualifier's class holds a scheme: a constant that is not PLAIN.
pub record SchemeStands (R : List ℕ) (u : List ℕ) (Q : Qualifiers) (P : Pending) (r : ℕ) : Type 0 where
  pub pair : ℕ
  pub in_list : pair < P.count
  pub type : Found u (pair_type P pair) r
  pub root : ℕ
  pub qualifier : Found Q.parents (pair_qualifier P pair) root
  pub scheme : (0 < root) × (root < words_at R)

-- The kind of r is as it was, or a scheme that stands there made it INT.
abbrev pub KeptOrInt : (R u k k' : List ℕ) (Q : Qualifiers) (P : Pending) → ℕ → Type 0
KeptOrInt R u k k' Q P r = (kind_at k' r ≡ kind_at k r) ⊎ ((kind_at k r ≡ Kinds.unknown) × (kind_at k' r ≡ Kinds.int_kind) × SchemeStands R u Q P r)

-- Kinds changed only from unknown to INT, where a scheme stands; and where one is still unknown none does.
pub record Fixed (R u k k' : List ℕ) (Q : Qualifiers) (P : Pending) : Type 0 where
  pub classes : TypeClasses (types_of u k')
  pub kinds : (r : ℕ) → KeptOrInt R u k k' Q P r
  pub free : (r : ℕ) → kind_at k' r ≡ Kinds.unknown → ¬ SchemeStands R u Q P r

-- A scheme stands at node q, where there are so many constants.
pub record SchemeAt (words : ℕ) (p : List ℕ) (q : ℕ) : Type 0 where
  pub root : ℕ
  pub found : Found p q root
  pub scheme : (0 < root) × (root < words)

-- The kinds after the pair of q and x: the root of x is INT from now on if its kind was unknown and a scheme stands at q, and else nothing changed.
pub data PairFixed (words : ℕ) (p u k : List ℕ) (q x : ℕ) : List ℕ → Type 0 where
  kept : {r : ℕ} → Found u x r → (kind_at k r ≡ Kinds.unknown → ¬ SchemeAt words p q) → PairFixed words p u k q x k
  made : {r : ℕ} → Found u x r → kind_at k r ≡ Kinds.unknown → SchemeAt words p q → PairFixed words p u k q x (set k r Kinds.int_kind)
