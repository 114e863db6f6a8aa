-- An infer call with a long enough buffer says what is judged of its machine.
use Prim.Native.Nat.{ℕ, ◌≤◌}
use native.Mathlib.Omega.{arith}
use mathlib.Core.List.{List}
use lib.ListN.{length}
use Rattle.model.specs.Machine.{Machine}
use Rattle.model.specs.Session.{Outcome, Infers, short, refused, accepted}
use Rattle.answered.specs.Judgement.{HasJudgement}

pub judged_by : {m : Machine} {buffer : List ℕ} {o : Outcome} → 6280 ≤ length buffer → Infers m buffer o → HasJudgement m
judged_by long (short h) = absurd (omega arith)
judged_by long (refused {number} {k} {word} {shape} h j z) = record { number = number; row = k; word = word; shape = shape; judged = j }
judged_by long (accepted {word} {shape} h j) = record { number = 0; row = 0; word = word; shape = shape; judged = j }
