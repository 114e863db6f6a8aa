-- The calls of a list, and what they returned.
use Rattle.std.specs.Prelude.{List, map}
use Rattle.model.specs.Session.{Call, Outcome}

-- The calls, without what they returned.
abbrev pub calls_of : List (Call × Outcome) → List Call
calls_of trace = map (λ step. step.0) trace

-- What they returned.
abbrev pub outcomes_of : List (Call × Outcome) → List Outcome
outcomes_of trace = map (λ step. step.1) trace
