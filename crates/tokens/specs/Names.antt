-- The names of a scheme table as one text, parted by commas.
-- Document 02, d): names of 1 to 5 capitals, of at most 8 schemes.
use Rattle.std.specs.Prelude.{ℕ, ◌≤◌, List, length}
use Rattle.model.specs.Line.{fields}

-- Eight names of five bytes, with the commas between them, have 47 bytes; no text of that length has more fields than these.
abbrev pub Few : List ℕ → Type 0
Few names = length (fields names) ≤ 48
