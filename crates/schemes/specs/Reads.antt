-- What the reader of a scheme file gives.
-- Document 02, d).
use Rattle.std.specs.Prelude.{ℕ, Result, Ok, Err, List, ◌≡◌}
use Rattle.scheme.specs.Six.{six_table}
use Rattle.model.specs.Line.{lines_of}
use Rattle.model.specs.SchemeFile.{opened, scheme_refusal, table_of}
use Rattle.derive.specs.Derives.{number_of}
use Rattle.schemes.specs.declared.Opened.{Opened}
use Rattle.schemes.specs.declared.Refusal.{Refusal}
use Rattle.schemes.specs.declared.Refusal.TheVariants.{Form, Missing}
use Rattle.schemes.specs.declared.Schemes.{Schemes}
use Rattle.schemes.specs.Schemes.{table_in, Kept}

-- The number and the scheme table are those of the definition, and the ruling is that of the table.
pub record Reads (file : List ℕ) (r : Opened) : Type 0 where
  pub refusal : r.number ≡ (opened file).number
  pub table : table_in r.schemes ≡ (opened file).machine.schemes
  pub kept : Kept r.schemes

-- A file is refused "with row 0 and a fresh machine of the six".
pub record GivesSix (number : ℕ) (r : Opened) : Type 0 where
  pub refusal : r.number ≡ number
  pub table : table_in r.schemes ≡ six_table
  pub kept : Kept r.schemes

-- "25 another number of lines, a malformed line, repeated name or repeated bits"; the others as `number_of` says.
abbrev pub refusal_number : Refusal → ℕ
refusal_number Form = 25
refusal_number (Missing missing) = number_of missing

-- The file's scheme table and its ruling, where it is not refused.
abbrev pub ReadsTable : List ℕ → Result Schemes Refusal → Type 0
ReadsTable file (Ok schemes) = (scheme_refusal (lines_of file) ≡ 0) × (table_in schemes ≡ table_of (lines_of file)) × Kept schemes
ReadsTable file (Err refusal) = scheme_refusal (lines_of file) ≡ refusal_number refusal
