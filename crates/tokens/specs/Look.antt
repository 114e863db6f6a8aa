-- Where a word stands among others.
use Rattle.std.specs.Prelude.{ℕ, ◌+◌, cond, List, [], ◌∷◌, Result, Ok, Err}
use Rattle.model.specs.Word.{spells}

-- The first place, counted from `at`, whose word the bytes spell; where there is none, the place after the last, which is how many there are.
abbrev pub look_from : ℕ → List (List ℕ) → List ℕ → Result ℕ ℕ
look_from at [] s = Err at
look_from at (word ∷ words) s = cond (spells s word) (Ok at) (look_from (at + 1) words s)

unfoldable pub look_up : List (List ℕ) → List ℕ → Result ℕ ℕ
look_up words s = look_from 0 words s
