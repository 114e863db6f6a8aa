-- The four numbers of an answer are written at the front of an array.
use Prim.Native.Nat.{ℕ, ◌≤◌}
use native.Mathlib.Omega.{arith}
use mathlib.Core.List.{List, [], ◌∷◌}
use mathlib.Core.Path.{◌≡◌, refl, ◌∙◌}
use lib.ListN.{length, set, drop}
use Rattle.dryrun.specs.Entry.{value_of, tag_of, returned_for}
use Rattle.std.specs.Prelude.{Result, Ok, Err}
use Rattle.moves.specs.declared.Refusal.{Refusal}
use Rattle.evaluator.specs.declared.Answer.{Answer}
use Rattle.evaluator.specs.Evaluation.{answered, outcome}
use Rattle.evaluator.specs.declared.Ran.{Ran}
use Rattle.run.specs.Answered.{Answered, returned}

-- Four stores at the front of a list that has so many.
four_set : (s : List ℕ) → 4 ≤ length s → (a b c d : ℕ) → set (set (set (set s 0 a) 1 b) 2 c) 3 d ≡ a ∷ b ∷ c ∷ d ∷ drop 4 s
four_set [] h a b c d = let z : ⊥ = omega arith in absurd z
four_set (w ∷ []) h a b c d = let z : ⊥ = omega arith in absurd z
four_set (w ∷ x ∷ []) h a b c d = let z : ⊥ = omega arith in absurd z
four_set (w ∷ x ∷ y ∷ []) h a b c d = let z : ⊥ = omega arith in absurd z
four_set (w ∷ x ∷ y ∷ z ∷ s) h a b c d = refl

-- What is returned is what the outcome says, since no refusal's number is 0.
returned_as : (a : Result Answer Refusal) (n k : ℕ) → returned a ≡ returned_for (outcome (record { applications = n; operations = k; answer = a }))
returned_as (Ok a) n k = refl
returned_as (Err Refusal.NotRun) n k = refl
returned_as (Err Refusal.TooLarge) n k = refl
returned_as (Err Refusal.Limit) n k = refl

-- The four numbers at the front of the array.
pub answers : (ran : Ran) (before : List ℕ) → 4 ≤ length before → {n t e : ℕ} → (n ≡ value_of (answered ran.answer)) × (t ≡ tag_of (answered ran.answer)) × (e ≡ returned ran.answer) →
    Answered ran before (set (set (set (set before 0 n) 1 t) 2 ran.applications) 3 ran.operations) e
answers ran before long {n} {t} (value, tag, ended) =
    record {
      array = four_set before long n t ran.applications ran.operations ∙ rw (value, tag) refl;
      number = ended ∙ returned_as ran.answer ran.applications ran.operations;
    }
