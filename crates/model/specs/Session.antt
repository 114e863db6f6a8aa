-- One call's answer, and a list of calls as a whole.
-- Document 01, "The four calls".
use Rattle.std.specs.Prelude.{ℕ, ◌≤◌, ◌<◌, List, [], ◌∷◌, ◌++◌, ◌≡◌, length, drop}
use Rattle.model.specs.Machine.{Machine, added, redeclared, taken_back}
use Rattle.model.specs.Inference.{ruling, Slot, Shape, Judged}
use Rattle.model.specs.Report.{report}

-- The four calls: a line's bytes; a parameter and a code; nothing; a report buffer's bytes.
pub data Call : Type 0 where
  add : List ℕ → Call
  redeclare : ℕ → ℕ → Call
  take_back : Call
  infer : List ℕ → Call

-- What a call returns, and the report buffer after it (none where the call has none).
pub record Outcome : Type 0 where
  pub number : ℕ
  pub row : ℕ
  pub size : ℕ
  pub buffer : List ℕ

-- "The row outside 21 to 23, and the length of a refusal, are 0"; document 02, a): 24 has a parameter's number "in the row's place".
abbrev pub returning : ℕ → Outcome
returning number = record { number = number; row = 0; size = 0; buffer = [] }

-- "A refused call leaves .. the whole buffer unchanged."
abbrev pub refusing : ℕ → ℕ → List ℕ → Outcome
refusing number row buffer = record { number = number; row = row; size = 0; buffer = buffer }

-- "infer also the report's length in bytes"; "Bytes beyond the report are unchanged."
abbrev pub reporting : List ℕ → List ℕ → Outcome
reporting text buffer = record { number = 0; row = 0; size = length text; buffer = text ++ drop (length text) buffer }

-- **Infer** (report buffer): "infer 11, 10, then 21 to 23", then 24; 11: "report buffer shorter than 6,280 bytes".
pub data Infers (m : Machine) (buffer : List ℕ) : Outcome → Type 0 where
  short : length buffer < 6280 → Infers m buffer (refusing 11 0 buffer)
  refused : {number k : ℕ} {word : Slot → ℕ} {shape : Slot → Shape} →
      6280 ≤ length buffer → Judged (ruling m) m number k word shape → ¬ (number ≡ 0) → Infers m buffer (refusing number k buffer)
  accepted : {word : Slot → ℕ} {shape : Slot → Shape} →
      6280 ≤ length buffer → Judged (ruling m) m 0 0 word shape → Infers m buffer (reporting (report m word shape) buffer)

-- One call on a machine: what it returns, and the machine after it.
pub data Answers (m : Machine) : Call → Outcome → Machine → Type 0 where
  adds : {line : List ℕ} → Answers m (add line) (returning (added m line).number) (added m line).machine
  redeclares : {p code : ℕ} → Answers m (redeclare p code) (returning (redeclared m p code).number) (redeclared m p code).machine
  takes_back : Answers m take_back (returning (taken_back m).number) (taken_back m).machine
  infers : {buffer : List ℕ} {outcome : Outcome} → Infers m buffer outcome → Answers m (infer buffer) outcome m

-- A whole list of calls with what each returned, each on the machine that the one before it left.
pub data Session : Machine → List (Call × Outcome) → Type 0 where
  done : {m : Machine} → Session m []
  next : {m after : Machine} {call : Call} {outcome : Outcome} {rest : List (Call × Outcome)} →
      Answers m call outcome after → Session after rest → Session m ((call, outcome) ∷ rest)
