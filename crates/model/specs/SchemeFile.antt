-- The file of an owner's scheme table.
-- Document 02, d).
use Rattle.std.specs.Prelude.{ℕ, Bool, ◌&&◌, cond, List, [], ◌∷◌, map, eqb, leb, length}
pub use Rattle.scheme.specs.Schemes.{is_capital}
unfoldable pub use Rattle.scheme.specs.Schemes.{is_name, names_differ}
use Rattle.scheme.specs.Schemes.{SchemeTable, fitting, bits_differ, has_meets, has_highest}
use Rattle.scheme.specs.Six.{six_table}
use Rattle.model.specs.Lists.{all_of, same, bytes}
use Rattle.model.specs.Line.{fields, field, lines_of}
use Rattle.model.specs.Machine.{first_failing, Change, fresh_machine}

-- "five digits 0 or 1"
abbrev pub is_bit : ℕ → Bool
is_bit b = leb 48 b && leb b 49

unfoldable pub is_bits : List ℕ → Bool
is_bits s = eqb (length s) 5 && all_of is_bit s

-- `S,name,bits`
unfoldable pub is_scheme_line : List ℕ → Bool
is_scheme_line s = eqb (length (fields s)) 3 && same (field s 0) (bytes "S") && is_name (field s 1) && is_bits (field s 2)

-- The table that the lines give: fields 1 and 2 of each.
unfoldable pub table_of : List (List ℕ) → SchemeTable
table_of lines = record { names = map (λ s. field s 1) lines; bits = map (λ s. map (eqb 49) (field s 2)) lines }

-- "25 another number of lines, a malformed line, repeated name or repeated bits"
unfoldable pub well_written : List (List ℕ) → Bool
well_written lines = fitting (length lines) && all_of is_scheme_line lines && names_differ (table_of lines) && bits_differ (table_of lines)

-- "with 25 .., then 26 no greatest scheme or two qualifiers without a greatest lower bound, then 27 an operation with supporters but no
-- single highest one"
unfoldable pub scheme_refusal : List (List ℕ) → ℕ
scheme_refusal lines = first_failing ((25, well_written lines) ∷ (26, has_meets (table_of lines)) ∷ (27, has_highest (table_of lines)) ∷ [])

-- The call that makes the fresh machine: "The file comes as bytes"; it refuses "with row 0 and a fresh machine of the six".
-- "Lines of this and later files are parted as `place` does."
unfoldable pub opened_with : List (List ℕ) → Change
opened_with lines =
    record {
      number = scheme_refusal lines;
      machine = fresh_machine (cond (eqb (scheme_refusal lines) 0) (table_of lines) six_table);
    }

abbrev pub opened : List ℕ → Change
opened file = opened_with (lines_of file)
