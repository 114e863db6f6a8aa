-- Where a field starts and ends in the bytes of a line.
use Rattle.std.specs.Prelude.{ℕ, ◌+◌, ◌-◌, ◌≤◌, cond, List, [], ◌∷◌, ◌≡◌, leb, length, take, drop}
use Rattle.model.specs.Line.{fields}
use Rattle.numbers.specs.NumberTo.{next_place}

-- The fields of what stands from i on; past the end there is none.
unfoldable pub fields_from : List ℕ → ℕ → List (List ℕ)
fields_from s i = cond (leb i (length s)) (fields (drop i s)) []

-- The field that starts at `from` is what stands up to `to`, the place of the next comma or the end, and the next one starts after that.
pub record FieldTo (s : List ℕ) (from to : ℕ) : Type 0 where
  pub after : from ≤ to
  pub within : to ≤ length s
  pub place : to ≡ next_place 44 s from
  pub parts : fields_from s from ≡ take (to - from) (drop from s) ∷ fields_from s (to + 1)
