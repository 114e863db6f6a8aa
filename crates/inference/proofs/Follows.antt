-- Calls in a row on tables follow the machine: demand 3.
use mathlib.Core.List.{List}
use mathlib.Core.Path.{◌≡◌, subst}
use Rattle.scheme.specs.Schemes.{SchemeTable}
use Rattle.scheme.specs.Six.{six_table}
use Rattle.schemes.specs.Schemes.{Kept}
use Prim.Native.Nat.{ℕ}
use Rattle.model.specs.Machine.{Machine, fresh_machine}
use Rattle.model.specs.SchemeFile.{opened_with, opened}
use Rattle.model.specs.Session.{Call, Outcome, Answers, Session}
use Rattle.model.specs.Session as Session'
use Rattle.table.specs.Lists.{lists}
use Rattle.table.specs.declared.Table.{Table}
use Rattle.table.proofs.Follows.{call_follows, call_ready, fresh_ready}
use Rattle.table.specs.Ready.{Ready}
use Rattle.inference.specs.Ran.{Step, changes, infers, Ran, done, next}

-- One call: what it handed back and the lists that it left are the machine's answer.
pub step_follows : {t after : Table} {call : Call} {o : Outcome} → Ready t → Step t call o after → Answers (lists t) call o (lists after)
step_follows ready (changes called) = call_follows called
step_follows ready (infers after r said) = Session'.infers (said ready)

-- Each call leaves what the next one asks for.
pub step_ready : {t after : Table} {call : Call} {o : Outcome} → Ready t → Step t call o after → Ready after
step_ready ready (changes called) = call_ready ready called
step_ready ready (infers after r said) = ready

pub ran_follows : {t : Table} {trace : List (Call × Outcome)} → Ready t → Ran t trace → Session (lists t) trace
ran_follows ready done = Session'.done
ran_follows ready (next step rest) = Session'.next (step_follows ready step) (ran_follows (step_ready ready step) rest)

-- From a fresh table of any scheme table that opening gives, for every list of the four calls: the whole list's answers are those of document 01.
pub tables_follow : {t : Table} {trace : List (Call × Outcome)} (T : SchemeTable) → lists t ≡ fresh_machine T → Kept t.schemes → Ran t trace → Session (fresh_machine T) trace
tables_follow {t} {trace} T fresh kept ran = subst (λ (m : Machine). Session m trace) fresh (ran_follows (fresh_ready T fresh kept) ran)

-- The same of an owner's file, refused ones included, and of the built-in six.
pub files_follow : {t : Table} {trace : List (Call × Outcome)} (file : List ℕ) → (lists t ≡ (opened file).machine) × Kept t.schemes → Ran t trace → Session (opened file).machine trace
unfolding opened_with
files_follow file (fresh, kept) ran = tables_follow (opened file).machine.schemes fresh kept ran

pub session_follows : {t : Table} {trace : List (Call × Outcome)} → (lists t ≡ fresh_machine six_table) × Kept t.schemes → Ran t trace → Session (fresh_machine six_table) trace
session_follows (fresh, kept) ran = tables_follow six_table fresh kept ran
