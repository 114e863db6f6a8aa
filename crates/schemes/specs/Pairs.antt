-- Repeated names and bits, by pairs of lines: the definitions' tests over the lines as they stand in the file.
use Rattle.std.specs.Prelude.{ℕ, Bool, false, List, eqb, get_or}
use Rattle.std.specs.Bool.{beq}
use Rattle.scheme.specs.Lists.{implies, every}
use Rattle.model.specs.Lists.{same}
use Rattle.derive.specs.Orders.{bits_at}
use Rattle.derive.specs.declared.Bits.{Bits}
use Rattle.schemes.specs.Lines.{name_at}

-- Lines i and j have the same name.
unfoldable pub same_name : List ℕ → ℕ → ℕ → Bool
same_name file i j = same (name_at file i) (name_at file j)

-- Schemes i and j support the same.
unfoldable pub alike_at : List Bits → ℕ → ℕ → Bool
alike_at bits i j = every 5 (λ o. beq (get_or (bits_at bits i) o false) (get_or (bits_at bits j) o false))

-- Of the first n only i itself is like i.
unfoldable pub alone : (ℕ → ℕ → Bool) → ℕ → ℕ → Bool
alone like n i = every n (λ j. implies (like i j) (eqb i j))

-- No two of the first n are like one another.
unfoldable pub apart : (ℕ → ℕ → Bool) → ℕ → Bool
apart like n = every n (λ i. alone like n i)
