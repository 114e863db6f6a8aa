-- What the adds of a text leave.
-- Document 01, "The report": "reads .. line by line .., adds each"; "A refused add .. stops".
use Rattle.std.specs.Prelude.{ℕ, ◌≤◌, List, ◌≡◌}
use Rattle.scheme.specs.Schemes.{SchemeTable}
use Rattle.model.specs.Text.{load, loaded, stopped}
use Rattle.table.specs.Lists.{lists}
use Rattle.table.specs.Ready.{Ready}
use Rattle.text.specs.declared.Loaded.{Loaded}

pub record Loads (T : SchemeTable) (text : List ℕ) (r : Loaded) : Type 0 where
  -- no add was refused, and the table holds what all of them entered
  pub all : r.number ≡ 0 → load T text ≡ loaded (lists r.table)
  pub no_line : r.number ≡ 0 → r.line ≡ 0
  -- "A refused add prints `X,number,line` (lines from 1) and stops"
  pub stop : ¬ (r.number ≡ 0) → load T text ≡ stopped r.number r.line
  pub ready : Ready r.table
  -- "Add checks 1 to 8"; "64 types, 64 parameters, 256 term rows", so that no more than 384 adds are accepted
  pub number_most : r.number ≤ 8
  pub line_most : r.line ≤ 385
