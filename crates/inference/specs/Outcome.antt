-- What an infer call handed back, as the machine's outcome.
use Rattle.std.specs.Prelude.{ℕ, List, Result, Ok, Err}
use Rattle.model.specs.Session.{Outcome}
use Rattle.solver.specs.declared.Refused.{Refused}

-- The report's length, or a refusal's number and row, 0 for what there is not; with the buffer after the call.
abbrev pub outcome : Result ℕ Refused → List ℕ → Outcome
outcome (Ok size) buffer = record { number = 0; row = 0; size = size; buffer = buffer }
outcome (Err r) buffer = record { number = r.number; row = r.row; size = 0; buffer = buffer }
