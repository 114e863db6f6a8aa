-- What is printed of an infer call.
use Rattle.std.specs.Prelude.{ℕ, List}
use Rattle.model.specs.Machine.{Machine}
use Rattle.model.specs.Session.{Outcome, Infers}
use Rattle.model.specs.Text.{shown}
use Rattle.report.specs.Writing.{Front}

-- The report, or the line of the refusal, stands at the front of the buffer.
pub record Printed (m : Machine) (before after : List ℕ) (size : ℕ) : Type 0 where
  pub outcome : Outcome
  pub infers : Infers m before outcome
  pub front : Front (shown outcome) after size
