-- Calls in a row on tables: each is given the table that the one before it returned, and did what its contract says.
-- Document 01, "The list in demand 3".
use Rattle.std.specs.Prelude.{ℕ, List, [], ◌∷◌, Result}
use Rattle.model.specs.Session.{Call, Outcome, returning, infer, Infers}
use Rattle.table.specs.Lists.{lists}
use Rattle.table.specs.Called.{Called}
use Rattle.table.specs.declared.Table.{Table}
use Rattle.table.specs.declared.Answered.{Answered}
use Rattle.inference.specs.Outcome.{outcome}
use Rattle.table.specs.Ready.{Ready}
use Rattle.solver.specs.declared.Refused.{Refused}

-- One of the four calls on a table: what it handed back, and the table for the next call.
pub data Step (t : Table) : Call → Outcome → Table → Type 0 where
  -- add, redeclare and take-back, by the equations of their contracts
  changes : {call : Call} {r : Answered} → Called t call r → Step t call (returning r.number) r.table
  -- infer, by its contract: what it ensures where its `requires` holds
  infers : {before : List ℕ} (after : List ℕ) (r : Result ℕ Refused) → (Ready t → Infers (lists t) before (outcome r after)) → Step t (infer before) (outcome r after) t

-- A list of calls, with what each handed back.
pub data Ran : Table → List (Call × Outcome) → Type 0 where
  done : {t : Table} → Ran t []
  next : {t after : Table} {call : Call} {o : Outcome} {rest : List (Call × Outcome)} → Step t call o after → Ran after rest → Ran t ((call, o) ∷ rest)
