-- What is stored of a scheme file: the digits of its lines, and their names as one text.
use Rattle.std.specs.Prelude.{ℕ, ◌*◌, ◌<◌, List, [], ◌≡◌, length, take}
use Rattle.scheme.specs.Filled.{Filled}
use Rattle.model.specs.Line.{fields, lines_of}
use Rattle.model.specs.SchemeFile.{table_of}
use Rattle.derive.specs.declared.Bits.{Bits}
use Rattle.schemes.specs.Lines.{digits_at}

-- The array holds the digits of the first n lines.
abbrev pub Stored : List ℕ → ℕ → List Bits → Type 0
Stored file n bits = Filled (record { bits = [] }) 8 (λ k b. b.bits ≡ digits_at file k) n bits

-- The text is the names of the first n lines, parted by commas: at most five bytes and a comma for each.
pub record NamesHeld (file : List ℕ) (n : ℕ) (text : List ℕ) : Type 0 where
  pub room : length text < 6 * n
  pub same : fields text ≡ take n (table_of (lines_of file)).names
