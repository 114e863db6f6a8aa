-- The lowest parameter whose word misses its floor, by codes and a ruling.
-- Document 02, a).
use Rattle.std.specs.Prelude.{ℕ, ◌<◌, true, List, ◌≡◌, get_or, Option, Some, None}
use Rattle.scheme.specs.Rule.{words_at, under}
use Rattle.model.specs.Machine.{param_in}
use Rattle.model.specs.declared.Param.{Param}

-- The first parameters have floors and words that are codes of qualifiers.
abbrev pub Worded : List ℕ → ℕ → List Param → List ℕ → Type 0
Worded R count params words = (p : ℕ) → p < count → ((param_in params p).floor < words_at R) × (get_or words p 0 < words_at R)

-- The parameter's word is "at or above the floor".
abbrev pub Holds : List ℕ → List Param → List ℕ → ℕ → Type 0
Holds R params words p = under R (param_in params p).floor (get_or words p 0) ≡ true

-- "the lowest such parameter's number"
abbrev pub Lowest : List ℕ → ℕ → List Param → List ℕ → Option ℕ → Type 0
Lowest R count params words (Some p) = (p < count) × ((r : ℕ) → r < p → Holds R params words r) × ¬ Holds R params words p
Lowest R count params words None = (p : ℕ) → p < count → Holds R params words p
