-- What the kind of a type node says: nothing yet, INT, or the arrow that a descriptor has the parts of.
use Rattle.std.specs.Prelude.{ℕ, ◌+◌, ◌-◌}

abbrev pub unknown : ℕ
unknown = 0

abbrev pub int_kind : ℕ
int_kind = 1

-- From here on a kind is an arrow's.
abbrev pub first_arrow : ℕ
first_arrow = 2

abbrev pub arrow_kind : ℕ → ℕ
arrow_kind d = d + 2

abbrev pub descriptor_of : ℕ → ℕ
descriptor_of k = k - 2
