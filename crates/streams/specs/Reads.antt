-- What a read may say of the buffer that it was lent. Of the bytes themselves no contract can speak.
use Rattle.std.specs.Prelude.{ℕ, ◌<◌, List, length, Option, Some, None, Result, Ok, Err}
use Rattle.std.specs.Counts.{IsPrefixLen}
use Rattle.std.specs.declared.io.Error.{Error}

-- The bytes of one read are counted within the buffer; where it has room there is at least one, and only there is the end seen.
abbrev pub ReadInto : List ℕ → Result (Option ℕ) Error → Type 0
ReadInto buffer (Ok (Some n)) = IsPrefixLen n buffer × (0 < length buffer → 0 < n)
ReadInto buffer (Ok None) = 0 < length buffer
ReadInto buffer (Err error) = Unit {0}

-- The bytes of all reads are counted within the buffer.
abbrev pub FilledFrom : List ℕ → Result ℕ Error → Type 0
FilledFrom buffer (Ok n) = IsPrefixLen n buffer
FilledFrom buffer (Err error) = Unit {0}
