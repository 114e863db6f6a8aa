-- The names of a table's schemes, as the front of their array.
use Prim.Native.Nat.{ℕ, ◌+◌, ◌≤◌}
use native.Mathlib.Omega.{arith}
use mathlib.Core.List.{List}
use mathlib.Core.Path.{◌≡◌, ap, ap₂, ◌∙◌}
use lib.ListN.{length, take, length-take}
use Rattle.scheme.specs.Schemes.{words}
use Rattle.schemes.specs.Schemes.{table_in}
use Rattle.schemes.specs.Reads.{Reads}
use Rattle.schemes.specs.declared.Opened.{Opened}
use Rattle.model.specs.Line.{fields, line_of}
use Rattle.model.specs.Machine.{Machine, fresh_machine, entered, added}
use Rattle.model.specs.SchemeFile.{opened_with, opened}
use Rattle.model.specs.declared.Line.{Line}
use Rattle.tokens.specs.Names.{Few}
use Rattle.tokens.proofs.Parting.{fields_most}
use Rattle.table.specs.Lists.{lists, change}
use Rattle.table.specs.declared.Table.{Table}

-- No text of 47 bytes has more than 48 fields.
pub front_few : (names text : List ℕ) (size : ℕ) → length names ≡ 47 → text ≡ take size names → Few text
front_few names text size whole is =
    let short : length text ≤ 47 = rw (is, length-take) (omega arith) in
    omega (arith, fields_most text)

module _ (t : Table) (text : List ℕ) (is : text ≡ take t.schemes.size t.schemes.names) where
  -- A line that was read by these names is entered as the machine's add says.
  pub read_added : (s : List ℕ) (line : Line) → line ≡ line_of (fields text) s → entered (lists t) line ≡ added (lists t) s
  unfolding added lists table_in
  read_added s line read = ap (entered (lists t)) (read ∙ ap (λ (names : List ℕ). line_of (fields names) s) is)

  -- There is a word more than names.
  pub words_counted : (n : ℕ) → n ≡ length (fields text) → n + 1 ≡ words (lists t).schemes
  unfolding lists table_in
  words_counted n count = omega (arith, count, ap (λ (names : List ℕ). length (fields names)) is)

-- What opening a file leaves is the machine's change.
pub opened_change : (file : List ℕ) (o : Opened) (t : Table) → Reads file o → lists t ≡ fresh_machine (table_in o.schemes) → change (record { table = t; number = o.number }) ≡ opened file
unfolding opened_with
opened_change file o t reads empty = ap₂ (λ (n : ℕ) (m : Machine). record { number = n; machine = m }) reads.refusal (empty ∙ ap fresh_machine reads.table)
