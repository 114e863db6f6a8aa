-- The number that stands from a place on, up to the next byte of a kind.
use Rattle.std.specs.Prelude.{ℕ, ◌+◌, List, take, drop, Option, Some, None}
use Rattle.model.specs.Lists.{length_before}
use Rattle.model.specs.Number.{number_of}

-- A value with the place where its bytes end.
abbrev pub with_end : Option ℕ → ℕ → Option (ℕ × ℕ)
with_end (Some n) end = Some (n, end)
with_end None end = None

-- Where the next `byte` from a place on stands, or the end where there is none; and the bytes up to there.
abbrev pub next_place : ℕ → List ℕ → ℕ → ℕ
next_place byte s from = from + length_before byte (drop from s)

abbrev pub bytes_to : ℕ → List ℕ → ℕ → List ℕ
bytes_to byte s from = take (length_before byte (drop from s)) (drop from s)

-- What these are as a whole field.
unfoldable pub number_to : ℕ → ℕ → List ℕ → ℕ → Option (ℕ × ℕ)
number_to byte most s from = with_end (number_of most (bytes_to byte s from)) (next_place byte s from)
