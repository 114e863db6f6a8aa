-- What the C entries for dry runs return, and the answer's array after them.
-- docs/DECISIONS.md, "Dry run of an accepted job", fixes the numbers.
use Rattle.std.specs.Prelude.{ℕ, ◌+◌, ◌*◌, ◌≤◌, ◌<◌, cond, List, [], ◌∷◌, ◌++◌, ◌≡◌, eqb, length, drop}
use Rattle.scheme.specs.Schemes.{SchemeTable}
use Rattle.model.specs.Machine.{Machine}
use Rattle.model.specs.SchemeFile.{opened}
use Rattle.model.specs.Text.{load, loaded, stopped}
use Rattle.dryrun.specs.Run.{Answer, a_number, a_function, no_answer, Outcome, DryRuns}

-- "a number with its tag": 0 and 0 for a function and where there is no answer.
abbrev pub value_of : Answer → ℕ
value_of (a_number n tag) = n
value_of a_function = 0
value_of no_answer = 0

abbrev pub tag_of : Answer → ℕ
tag_of (a_number n tag) = tag
tag_of a_function = 0
tag_of no_answer = 0

-- "the number, its tag, the applications and the operations made"
abbrev pub answer_numbers : Outcome → List ℕ
answer_numbers o = value_of o.answer ∷ tag_of o.answer ∷ o.counts.applications ∷ o.counts.operations ∷ []

-- "100,000 for a number, 100,001 for a function"
abbrev pub ended_as : Answer → ℕ
ended_as (a_number n tag) = 100000
ended_as a_function = 100001
ended_as no_answer = 0

-- "a refusal's number × 1,000"
abbrev pub returned_for : Outcome → ℕ
returned_for o = cond (eqb o.refusal 0) (ended_as o.answer) (o.refusal * 1000)

pub data RunReturns (T : SchemeTable) (text numbers : List ℕ) (budget : ℕ) (answer : List ℕ) : ℕ → List ℕ → Type 0 where
  -- "An array of fewer than four is told first, with 11,000."
  short : length answer < 4 → RunReturns T text numbers budget answer 11000 answer
  -- "with the array unchanged, what `placement_report` returns for a refused line"
  refused_add : {number n : ℕ} → 4 ≤ length answer → load T text ≡ stopped number n → RunReturns T text numbers budget answer (number * 1000 + n) answer
  ran : {m : Machine} {o : Outcome} → 4 ≤ length answer → load T text ≡ loaded m → DryRuns m numbers budget o →
      RunReturns T text numbers budget answer (returned_for o) (answer_numbers o ++ drop 4 answer)

pub data RunReturnsUnder (file text numbers : List ℕ) (budget : ℕ) (answer : List ℕ) : ℕ → List ℕ → Type 0 where
  short : length answer < 4 → RunReturnsUnder file text numbers budget answer 11000 answer
  -- "then what refuses the file, times 1,000"
  refused_file : 4 ≤ length answer → ¬ ((opened file).number ≡ 0) → RunReturnsUnder file text numbers budget answer ((opened file).number * 1000) answer
  accepted_file : {n : ℕ} {after : List ℕ} → (opened file).number ≡ 0 → RunReturns (opened file).machine.schemes text numbers budget answer n after →
      RunReturnsUnder file text numbers budget answer n after
