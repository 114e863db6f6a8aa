-- A call that changes the table, as its contract states it.
use Rattle.std.specs.Prelude.{ℕ, List, ◌≡◌}
use Rattle.model.specs.Machine.{added, redeclared, taken_back}
use Rattle.model.specs.Session.{Call, add, redeclare, take_back}
use Rattle.table.specs.Lists.{lists, change}
use Rattle.table.specs.declared.Table.{Table}
use Rattle.table.specs.declared.Answered.{Answered}

pub data Called (t : Table) : Call → Answered → Type 0 where
  adds : {line : List ℕ} {r : Answered} → change r ≡ added (lists t) line → r.table.schemes ≡ t.schemes → Called t (add line) r
  redeclares : {p code : ℕ} {r : Answered} → change r ≡ redeclared (lists t) p code → r.table.schemes ≡ t.schemes → Called t (redeclare p code) r
  takes_back : {r : Answered} → change r ≡ taken_back (lists t) → r.table.schemes ≡ t.schemes → Called t take_back r
