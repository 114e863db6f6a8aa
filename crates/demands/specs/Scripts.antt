-- What a script of commands comes to, and the script of a list of calls.
-- docs/DECISIONS.md, "The session", "A scheme table of the owner's" and "Dry run of an accepted job"; document 01 has the calls and no text of them.
use Rattle.std.specs.Prelude.{ℕ, ◌≤◌, ◌<◌, false, cond, List, [], ◌∷◌, ◌++◌, map, ◌≡◌, eqb, length, drop}
use Rattle.model.specs.Lists.{contains, bytes}
use Rattle.model.specs.Number.{decimal}
use Rattle.scheme.specs.Six.{six_table}
use Rattle.model.specs.Machine.{Machine, fresh_machine}
use Rattle.model.specs.SchemeFile.{opened}
use Rattle.model.specs.Report.{line}
use Rattle.model.specs.Session.{Call, add, redeclare, take_back, infer, Outcome, Session}
use Rattle.model.specs.Text.{lines_of}
use Rattle.dryrun.specs.Run.{DryRuns}
use Rattle.dryrun.specs.Run as Run
use Rattle.conversation.specs.Script.{schemes, run, no_command, command_of, Makes, answer, ran_line, unknown}
use Rattle.demands.specs.Standing.{standing}

-- Lines that start no other table, in turn from a machine on: the calls that they make, with what each returned, and all that is answered.
pub data Transcript : Machine → List (List ℕ) → List (Call × Outcome) → List ℕ → Type 0 where
  end : {m : Machine} → Transcript m [] [] []
  calls : {m : Machine} {s : List ℕ} {rest : List (List ℕ)} {call : Call} {o : Outcome} {trace : List (Call × Outcome)} {answers : List ℕ} →
      Makes (command_of s) call → Transcript (standing m ((call, o) ∷ [])) rest trace answers → Transcript m (s ∷ rest) ((call, o) ∷ trace) (answer call o ++ answers)
  refuses : {m : Machine} {s file : List ℕ} {rest : List (List ℕ)} {trace : List (Call × Outcome)} {answers : List ℕ} → command_of s ≡ schemes file → ¬ ((opened file).number ≡ 0) →
      Transcript m rest trace answers → Transcript m (s ∷ rest) trace (line (decimal (opened file).number ∷ []) ++ answers)
  -- a run is none of the calls: it is answered for the machine that the accepted calls before it describe, and leaves it
  runs : {m : Machine} {s : List ℕ} {budget : ℕ} {numbers : List ℕ} {o : Run.Outcome} {rest : List (List ℕ)} {trace : List (Call × Outcome)} {answers : List ℕ} →
      command_of s ≡ run budget numbers → DryRuns m numbers budget o → Transcript m rest trace answers → Transcript m (s ∷ rest) trace (ran_line m o ++ answers)
  passes : {m : Machine} {s : List ℕ} {rest : List (List ℕ)} {trace : List (Call × Outcome)} {answers : List ℕ} →
      command_of s ≡ no_command → Transcript m rest trace answers → Transcript m (s ∷ rest) trace (unknown ++ answers)

-- Lines that are one list of calls of demand 3 from a machine on, with all that is answered.
pub record OneList (m : Machine) (lines : List (List ℕ)) (answers : List ℕ) : Type 0 where
  pub trace : List (Call × Outcome)
  pub session : Session m trace
  pub transcript : Transcript m lines trace answers

-- Lines that are a list of demand 3 up to each scheme file that is accepted, and another one from the fresh machine of that file on.
pub data ListsInTurn : Machine → List (List ℕ) → List ℕ → Type 0 where
  last : {m : Machine} {lines : List (List ℕ)} {answers : List ℕ} → OneList m lines answers → ListsInTurn m lines answers
  then : {m : Machine} {file : List ℕ} (lines rest : List (List ℕ)) (s answers others : List ℕ) → OneList m lines answers → command_of s ≡ schemes file → (opened file).number ≡ 0 →
      ListsInTurn (opened file).machine rest others → ListsInTurn m (lines ++ (s ∷ rest)) (answers ++ (line (decimal 0 ∷ []) ++ others))

-- What the entry for scripts returned, and the output after it.
pub record HandsBack (answers output : List ℕ) (n : ℕ) (after : List ℕ) : Type 0 where
  -- with room for all answers: their length is returned, and they alone are written
  pub room : length answers ≤ length output → (n ≡ length answers) × (after ≡ answers ++ drop (length answers) output)
  -- with less: a number above the output's length is returned, and nothing is written
  pub no_room : length output < length answers → (length output < n) × (after ≡ output)

-- The entry made lists of calls of demand 3, the first from a fresh machine of the six, and handed back the answers to all lines.
pub record InSessions (script output : List ℕ) (n : ℕ) (after : List ℕ) : Type 0 where
  pub answers : List ℕ
  pub lists : ListsInTurn (fresh_machine six_table) (lines_of script) answers
  pub handed : HandsBack answers output n after

-- It made one list of them.
pub record OneSession (script output : List ℕ) (n : ℕ) (after : List ℕ) : Type 0 where
  pub answers : List ℕ
  pub list : OneList (fresh_machine six_table) (lines_of script) answers
  pub handed : HandsBack answers output n after

-- A line does not start another table: where it has a scheme file, that is refused.
abbrev pub StaysOn : List ℕ → Type 0
StaysOn s = (file : List ℕ) → command_of s ≡ schemes file → ¬ ((opened file).number ≡ 0)

-- The line of a script that makes a call.
abbrev pub command_for : Call → List ℕ
command_for (add s) = bytes "add " ++ s
command_for (redeclare p code) = bytes "redeclare " ++ (decimal p ++ (32 ∷ decimal code))
command_for take_back = bytes "take-back"
command_for (infer buffer) = bytes "infer"

-- A script can hold the call: a line without a line feed, numbers up to 4294967295, a buffer that is long enough.
abbrev pub Spelled : Call → Type 0
Spelled (add s) = contains 10 s ≡ false
Spelled (redeclare p code) = (p ≤ 4294967295) × (code ≤ 4294967295)
Spelled take_back = Unit {0}
Spelled (infer buffer) = 6280 ≤ length buffer

-- The numbers that refuse a call which no script can hold: a line with a line feed has no form, no parameter and no code is so large, the buffer is short.
abbrev pub unspelled_numbers : Call → List ℕ
unspelled_numbers (add s) = 1 ∷ []
unspelled_numbers (redeclare p code) = 5 ∷ 12 ∷ []
unspelled_numbers take_back = []
unspelled_numbers (infer buffer) = 11 ∷ []

-- The line that starts a table of a scheme file.
abbrev pub command_for_file : List ℕ → List ℕ
command_for_file file = bytes "schemes " ++ map (λ b. cond (eqb b 10) 32 b) file

-- One command a line.
abbrev pub script_of : List Call → List ℕ
script_of [] = []
script_of (call ∷ rest) = command_for call ++ (10 ∷ script_of rest)

-- All that is answered to the calls of a list, one after the other.
abbrev pub answers_of : List (Call × Outcome) → List ℕ
answers_of [] = []
answers_of ((call, o) ∷ rest) = answer call o ++ answers_of rest

-- The same call, but for the bytes of an infer's buffer: both buffers are long enough.
pub data Alike : Call → Call → Type 0 where
  same_call : {call : Call} → Alike call call
  both_infer : {buffer buffer' : List ℕ} → 6280 ≤ length buffer → 6280 ≤ length buffer' → Alike (infer buffer) (infer buffer')
