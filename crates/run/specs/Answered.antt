-- What is handed over of a run: the array's first four, and what is returned.
use Rattle.std.specs.Prelude.{ℕ, ◌*◌, List, ◌++◌, ◌≡◌, drop, Result, Ok, Err}
use Rattle.dryrun.specs.Entry.{ended_as, answer_numbers, returned_for}
use Rattle.moves.specs.Moves.{refusal_number}
use Rattle.moves.specs.declared.Refusal.{Refusal}
use Rattle.evaluator.specs.Evaluation.{answered, outcome}
use Rattle.evaluator.specs.declared.Answer.{Answer}
use Rattle.evaluator.specs.declared.Ran.{Ran}

-- How a run ended: by its answer, or by its refusal's number times 1,000.
abbrev pub returned : Result Answer Refusal → ℕ
returned (Ok a) = ended_as (answered (Ok a))
returned (Err e) = refusal_number e * 1000

pub record Answered (ran : Ran) (before after : List ℕ) (returned : ℕ) : Type 0 where
  pub array : after ≡ answer_numbers (outcome ran) ++ drop 4 before
  pub number : returned ≡ returned_for (outcome ran)
