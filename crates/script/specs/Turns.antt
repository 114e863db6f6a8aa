-- What the functions that answer lines leave.
use Rattle.std.specs.Prelude.{ℕ, ◌+◌, ◌≤◌, min, cond, List, [], ◌∷◌, ◌++◌, ◌≡◌, leb, length, take}
use Rattle.std.proofs.lemmas.List.Edits.{sets}
use Rattle.model.specs.Number.{decimal}
use Rattle.model.specs.Machine.{Machine}
use Rattle.model.specs.Report.{line}
use Rattle.conversation.specs.Script.{Command, command_of, file_in, Replies, Conversation, largest}
use Rattle.table.specs.Lists.{lists}
use Rattle.table.specs.Ready.{Ready}
use Rattle.table.specs.declared.Answered.{Answered}
use Rattle.report.specs.Writing.{Front}
use Rattle.script.specs.declared.Turn.{Turn}

-- The answer to the line s stands at the front of the buffer.
pub record Replied (m : Machine) (s buffer : List ℕ) (r : Turn) : Type 0 where
  pub replies : Replies m s (take r.size buffer) (lists r.table)
  pub ready : Ready r.table
  pub fits : r.size ≤ length buffer

-- The number of a call stands at the front of the buffer, and its table is kept.
abbrev pub Called : (Answered → Type 0) → List ℕ → Turn → Type 0
Called made buffer o = (r : Answered) × made r × (o.table ≡ r.table) × Front (line (decimal r.number ∷ [])) buffer o.size

-- What stands at the front of the buffer answers every line that is the command, which leaves the machine as it is.
pub record Told (m : Machine) (c : Command) (buffer : List ℕ) (r : ℕ) : Type 0 where
  pub replies : (s : List ℕ) → command_of s ≡ c → Replies m s (take r buffer) m
  pub fits : r ≤ length buffer

-- Bytes were written at a place if there was room for all of them.
abbrev pub Put : List ℕ → ℕ → List ℕ → List ℕ → Type 0
Put before at bytes after = after ≡ cond (leb (at + length bytes) (length before)) (sets before at bytes) before

-- The answer to the line s was written at a place if there was room for it.
pub record AnsweredAt (m : Machine) (s : List ℕ) (at : ℕ) (before after : List ℕ) (r : Turn) : Type 0 where
  pub answer : List ℕ
  pub replies : Replies m s answer (lists r.table)
  pub ready : Ready r.table
  pub counted : r.size ≡ min (at + length answer) largest
  pub written : at + length answer ≤ length before → after ≡ sets before at answer

-- All answers to a script were counted, and were written if there was room for all of them.
pub record Tried (script before after : List ℕ) (r : ℕ) : Type 0 where
  pub answers : List ℕ
  pub conversation : Conversation script answers
  pub counted : r ≡ min (length answers) largest
  pub written : length answers ≤ length before → after ≡ sets before 0 answers

-- A scheme file that stands on one line was copied, as far as there was room.
pub record Parted (lines before after : List ℕ) (r : ℕ) : Type 0 where
  pub bytes : take r after ≡ take (length before) (file_in lines)
  pub fits : r ≤ length after

-- A part of a line was put behind the bytes that are kept of it, as far as there was room.
pub record Kept (before : List ℕ) (count : ℕ) (part after : List ℕ) (r : ℕ) : Type 0 where
  pub bytes : take r after ≡ take (length before) (take count before ++ part)
  pub fits : count ≤ length before → r ≤ length after
