-- Steps that make no class an arrow, said by the roots of the classes.
use Rattle.std.specs.Prelude.{ℕ, ◌<◌, ◌≤◌, ◌⊎◌, ◌≡◌}
use Rattle.forest.specs.Forest.{Found}
use Rattle.layout.specs.Kinds as Kinds
use Rattle.layout.specs.Kinds.{first_arrow}
use Rattle.graph.specs.Types.{Types, kind_at}

-- The class of node x, whose root is r, is an arrow; or nothing is known of it.
pub record ArrowClass (T : Types) (x r : ℕ) : Type 0 where
  pub found : Found T.parents x r
  pub arrow : first_arrow ≤ kind_at T.kinds r

pub record UnknownClass (T : Types) (x r : ℕ) : Type 0 where
  pub found : Found T.parents x r
  pub unknown : kind_at T.kinds r ≡ Kinds.unknown

-- Of the nodes below n, each whose class is an arrow was in one before, and each whose class is unknown was in an unknown class of the same root
-- before, or is now under a root that C has.
pub record Steady (n : ℕ) (T T' : Types) (C : ℕ → Type 0) : Type 0 where
  pub arrows : (x r : ℕ) → x < n → ArrowClass T' x r → (s : ℕ) × ArrowClass T x s
  pub unknowns : (x r : ℕ) → x < n → UnknownClass T' x r → UnknownClass T x r ⊎ C r

-- Two nodes of one class, or of two that are no arrows.
abbrev pub NoArrow : Types → ℕ → Type 0
NoArrow T x = (r : ℕ) → Found T.parents x r → kind_at T.kinds r < first_arrow

abbrev pub Calm : Types → ℕ → ℕ → Type 0
Calm T a b = ((r : ℕ) → Found T.parents a r → Found T.parents b r) ⊎ (NoArrow T a × NoArrow T b)

-- A node's class is that of one of two nodes.
abbrev pub RootOfEither : Types → ℕ → ℕ → ℕ → Type 0
RootOfEither T a b r = Found T.parents a r ⊎ Found T.parents b r
