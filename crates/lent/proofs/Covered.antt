-- Demand 3 covers the lent calls: what each contract says is one of the calls that change the table, as the list of demand 3 has them.
use Prim.Native.Nat.{ℕ}
use mathlib.Core.List.{List}
use mathlib.Core.Path.{◌≡◌}
use seplogic.Ra.Ura.{Ura}
use base.Logic.{SProp, ent}
use prog.Memory.{Memory}
use prog.Routine.{Routine}
use types.Logic.{Logic}
use contract.Monad.{Fun, fact, fact_mono}
use contract.Lifetimes.{Lfts}
use denote.Ref.{Bor}
use denote.MutBor.{MutBor}
use Rattle.model.specs.Machine.{added, redeclared, taken_back}
use Rattle.model.specs.Session.{add, redeclare, take_back}
use Rattle.table.specs.declared.Table.{Table}
use Rattle.table.specs.declared.Answered.{Answered}
use Rattle.table.specs.Lists.{lists, change}
use Rattle.table.specs.Called.{Called, adds, redeclares, takes_back}
use Rattle.lent.specs.contracts.add as lent-add
use Rattle.lent.specs.contracts.redeclare as lent-redeclare
use Rattle.lent.specs.contracts.take_back as lent-take-back

-- The table that a lent call left, with its number, as a by-value call hands them back.
abbrev pub left : Table → ℕ → Answered
left after number = record { table = after; number = number }

pub add_covered : (before after : Table) (line : List ℕ) (number : ℕ) → (change (left after number) ≡ added (lists before) line) × (after.schemes ≡ before.schemes) → Called before (add line) (left after number)
add_covered before after line number e = adds e.0 e.1

pub redeclare_covered : (before after : Table) (p code number : ℕ) → (change (left after number) ≡ redeclared (lists before) p code) × (after.schemes ≡ before.schemes) → Called before (redeclare p code) (left after number)
redeclare_covered before after p code number e = redeclares e.0 e.1

pub take_back_covered : (before after : Table) (number : ℕ) → (change (left after number) ≡ taken_back (lists before)) × (after.schemes ≡ before.schemes) → Called before take_back (left after number)
take_back_covered before after number e = takes_back e.0 e.1

-- The same from the `ensures` itself, at the reference as it was passed and as it was left.
module _ {M : Type 1} {𝓤 : Ura M} (𝓛 : Logic 𝓤) (at_mem : Memory → SProp 𝓤) (run : Routine → Fun 𝓤) (table table' : MutBor Table) (number : ℕ) where
  pub add_ensures : (κs : Lfts 2) (line : Bor (List ℕ)) → ent 𝓤 ((lent-add.clauses 𝓛 at_mem run κs (table, (line, tt))).ensures tt number (table', (line, tt))) (fact 𝓤 (Called table.now (add line.now) (left table'.now number)))
  add_ensures κs line = fact_mono 𝓤 _ _ (add_covered table.now table'.now line.now number)

  pub redeclare_ensures : (κs : Lfts 1) (p code : ℕ) → ent 𝓤 ((lent-redeclare.clauses 𝓛 at_mem run κs (table, (p, (code, tt)))).ensures tt number (table', (p, (code, tt)))) (fact 𝓤 (Called table.now (redeclare p code) (left table'.now number)))
  redeclare_ensures κs p code = fact_mono 𝓤 _ _ (redeclare_covered table.now table'.now p code number)

  pub take_back_ensures : (κs : Lfts 1) → ent 𝓤 ((lent-take-back.clauses 𝓛 at_mem run κs (table, tt)).ensures tt number (table', tt)) (fact 𝓤 (Called table.now take_back (left table'.now number)))
  take_back_ensures κs = fact_mono 𝓤 _ _ (take_back_covered table.now table'.now number)
