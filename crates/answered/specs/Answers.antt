-- A list of calls has answers: some session from the machine makes these calls.
use Rattle.std.specs.Prelude.{List, map, ◌≡◌}
use Rattle.model.specs.Machine.{Machine}
use Rattle.model.specs.Session.{Call, Outcome, Session}

abbrev pub HasAnswers : Machine → List Call → Type 0
HasAnswers m calls = ∥ ((trace : List (Call × Outcome)) × (map (λ step. step.0) trace ≡ calls) × Session m trace) ∥₁
