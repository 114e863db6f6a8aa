-- A scheme table as the bytes that stand for it.
use Rattle.std.specs.Prelude.{map, take}
use Rattle.scheme.specs.Schemes.{SchemeTable, Sound}
use Rattle.scheme.specs.Rule.{Ruled}
use Rattle.model.specs.Line.{fields}
use Rattle.schemes.specs.declared.Schemes.{Schemes}

-- The names are parted by commas. Of each array as much stands as its count says; a count past the array's end says all.
unfoldable pub table_in : Schemes → SchemeTable
table_in s = record { names = fields (take s.size s.names); bits = map (λ b. b.bits) (take s.count s.bits) }

-- What opening a file leaves, and no call changes: a sound table, with its ruling.
pub record Kept (s : Schemes) : Type 0 where
  pub sound : Sound (table_in s)
  pub ruled : Ruled (table_in s) s.rule
