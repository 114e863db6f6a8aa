-- A call on a table follows the machine.
use mathlib.Core.Path.{◌≡◌, sym, ap, subst}
use Rattle.scheme.specs.Schemes.{SchemeTable, Sound}
use Rattle.schemes.specs.Schemes.{table_in, Kept}
use Rattle.model.specs.Machine.{Machine, Change, fresh_machine}
use Rattle.model.specs.WellFormed.{WellFormed}
use Rattle.model.specs.Session.{Call, returning, Answers}
use Rattle.model.specs.Session as Session
use Rattle.table.specs.Lists.{lists, change}
use Rattle.table.specs.Called.{Called, adds, redeclares, takes_back}
use Rattle.table.specs.Ready.{Ready}
use Rattle.table.specs.declared.Table.{Table}
use Rattle.table.specs.declared.Answered.{Answered}
use Rattle.table.proofs.WellFormed.{fresh_well_formed, answers_well_formed}

answered : {m : Machine} {call : Call} (r : Answered) {c : Change} → change r ≡ c → Answers m call (returning c.number) c.machine → Answers m call (returning r.number) (lists r.table)
answered {m} {call} r e = subst (λ (c : Change). Answers m call (returning c.number) c.machine) (sym e)

-- What it returned and the lists that it left are the machine's answer.
pub call_follows : {t : Table} {call : Call} {r : Answered} → Called t call r → Answers (lists t) call (returning r.number) (lists r.table)
call_follows {r = r} (adds e kept) = answered r e Session.adds
call_follows {r = r} (redeclares e kept) = answered r e Session.redeclares
call_follows {r = r} (takes_back e kept) = answered r e Session.takes_back

-- No call changes the scheme table's bytes.
pub call_keeps : {t : Table} {call : Call} {r : Answered} → Called t call r → r.table.schemes ≡ t.schemes
call_keeps (adds e kept) = kept
call_keeps (redeclares e kept) = kept
call_keeps (takes_back e kept) = kept

-- A fresh table of a scheme table that is kept is ready.
pub fresh_ready : {t : Table} (T : SchemeTable) → lists t ≡ fresh_machine T → Kept t.schemes → Ready t
unfolding lists
fresh_ready {t} T fresh kept =
    let same : table_in t.schemes ≡ T = ap (λ (m : Machine). m.schemes) fresh in
    record { is_well_formed = subst WellFormed (sym fresh) (fresh_well_formed T (subst Sound same kept.sound)); kept = kept }

-- What a call leaves of a table that is ready is ready.
pub call_ready : {t : Table} {call : Call} {r : Answered} → Ready t → Called t call r → Ready r.table
call_ready ready called =
    record { is_well_formed = answers_well_formed _ ready.is_well_formed (call_follows called); kept = subst Kept (sym (call_keeps called)) ready.kept }
