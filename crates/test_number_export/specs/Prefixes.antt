-- The numbers that the fronts of some bytes are, for a caller that knows no enum.
-- Document 02, g): "After any bytes it answers as the reader does for them as a whole field."
use Rattle.std.specs.Prelude.{ℕ, zero, suc, cond, List, [], ◌∷◌, ◌++◌, ◌≡◌, leb, length, take, drop, Option, Some, None}
use Rattle.model.specs.Number.{number_of}

-- More than any number is, where there is none.
abbrev pub code_of : Option ℕ → ℕ
code_of (Some n) = n
code_of None = 4294967296

-- Those of the fronts of fewer than n bytes, the empty one first.
unfoldable pub answers_before : ℕ → List ℕ → ℕ → List ℕ
answers_before most s zero = []
answers_before most s (suc n) = answers_before most s n ++ (code_of (number_of most (take n s)) ∷ [])

-- What a call returns and what it leaves in the buffer: the answer for each front and for all of the bytes, or nothing where the buffer has no room for them.
pub record AnswersInto (s : List ℕ) (most : ℕ) (out : List ℕ) (count : ℕ) (out' : List ℕ) : Type 0 where
  pub counted : count ≡ cond (leb (length out) (length s)) 0 (suc (length s))
  pub left : out' ≡ answers_before most s count ++ drop count out
