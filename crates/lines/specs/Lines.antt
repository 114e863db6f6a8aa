-- Where the first line of a text ends.
-- Document 01, "The report": "line by line (a last line without line feed counts if not empty)".
use Rattle.std.specs.Prelude.{ℕ, List}
use Rattle.model.specs.Lists.{length_before}

-- How many bytes stand before the first line feed, or before the end where there is none.
abbrev pub line_length : List ℕ → ℕ
line_length s = length_before 10 s
