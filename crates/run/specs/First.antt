-- Where a run starts.
use Rattle.std.specs.Prelude.{ℕ}
use Rattle.environments.specs.declared.Focus.{Focus}
use Rattle.moves.specs.declared.Point.{Point}

-- At a row, no step made.
abbrev pub first_point : ℕ → Point
first_point row = record { focus = Focus.Row row 0; applications = 0; operations = 0 }
