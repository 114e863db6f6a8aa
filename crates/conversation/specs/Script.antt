-- Scripts: one command a line, the calls that the commands make, and what is answered to each line.
-- Document 01 has the calls and no text of them; docs/DECISIONS.md, "The session", "A scheme table of the owner's" and "Dry run of an accepted job", fix this one.
use Rattle.std.specs.Prelude.{ℕ, zero, suc, ◌+◌, ◌≤◌, ◌<◌, min, Bool, true, false, cond, List, [], ◌∷◌, ◌++◌, map, ◌≡◌, eqb, length, take, drop, Option, Some, None}
use Rattle.scheme.specs.Six.{six_table}
use Rattle.model.specs.Lists.{all_of, contains, same, length_before, bytes}
use Rattle.model.specs.Number.{number_of, decimal}
use Rattle.model.specs.Word.{qualifier_word}
use Rattle.model.specs.Machine.{Machine, Change, fresh_machine, settled}
use Rattle.model.specs.SchemeFile.{opened}
use Rattle.model.specs.Report.{line}
use Rattle.model.specs.Session.{Call, Outcome, Answers}
use Rattle.model.specs.Text.{lines_of, shown}
use Rattle.dryrun.specs.Run.{DryRuns}
use Rattle.dryrun.specs.Run as Run

-- What a line of a script asks for.
pub data Command : Type 0 where
  add : List ℕ → Command
  redeclare : ℕ → ℕ → Command
  take_back infer no_command : Command
  schemes : List ℕ → Command
  -- a budget, and the numbers that the job is applied to
  run : ℕ → List ℕ → Command

-- The bytes begin with the word.
abbrev pub begins : List ℕ → List ℕ → Bool
begins word s = same (take (length word) s) word

-- The bytes before the first blank, and those after it.
abbrev pub before_blank : List ℕ → List ℕ
before_blank s = take (length_before 32 s) s

abbrev pub after_blank : List ℕ → List ℕ
after_blank s = drop (length_before 32 s + 1) s

-- A parameter, a code, or a number of a run: "decimal numbers up to 4294967295, no leading zeros".
abbrev pub argument : List ℕ → Option ℕ
argument s = number_of 4294967295 s

abbrev pub redeclare_of : Option ℕ → Option ℕ → Command
redeclare_of (Some p) (Some code) = redeclare p code
redeclare_of (Some p) None = no_command
redeclare_of None code = no_command

-- A scheme file on one line: "each blank stands for a line feed".
abbrev pub file_in : List ℕ → List ℕ
file_in s = map (λ b. cond (eqb b 32) 10 b) s

-- The first words of the bytes, "parted by single blanks", at most so many. Two blanks have an empty word between them, and so has one at either end beside it.
unfoldable pub front_words : ℕ → List ℕ → List (List ℕ)
front_words zero s = []
front_words (suc most) s = before_blank s ∷ cond (contains 32 s) (front_words most (after_blank s)) []

-- Whether a word is a number, and which.
abbrev pub is_number : Option ℕ → Bool
is_number (Some n) = true
is_number None = false

abbrev pub number_in : Option ℕ → ℕ
number_in (Some n) = n
number_in None = 0

-- The numbers of the words; none at all where some word is no number.
unfoldable pub arguments_of : List (List ℕ) → List ℕ
arguments_of words = cond (all_of (λ s. is_number (argument s)) words) (map (λ s. number_in (argument s)) words) []

-- "the first is the budget", so that a run without one is no command.
abbrev pub run_with : List ℕ → Command
run_with [] = no_command
run_with (budget ∷ numbers) = run budget numbers

-- "the budget and the first 65 numbers are looked at": no job has more than 64 leading LAMs, so that 65 are too many for each.
unfoldable pub run_of : List ℕ → Command
run_of s = run_with (arguments_of (front_words 66 s))

-- `add LINE` ("one blank, then the line's bytes, any bytes"), `redeclare P CODE`, `take-back`, `infer`, `schemes LINES` ("one blank, then a
-- scheme file's lines, parted by blanks"), `run BUDGET NUMBER NUMBER ..`; every other line is no command.
unfoldable pub command_of : List ℕ → Command
command_of s =
    cond (begins (bytes "add ") s) (add (drop 4 s))
    (cond (begins (bytes "redeclare ") s) (redeclare_of (argument (before_blank (drop 10 s))) (argument (after_blank (drop 10 s))))
    (cond (same s (bytes "take-back")) take_back
    (cond (same s (bytes "infer")) infer
    (cond (begins (bytes "schemes ") s) (schemes (file_in (drop 8 s)))
    (cond (begins (bytes "run ") s) (run_of (drop 4 s)) no_command)))))

-- The call that a command makes. An infer is lent a buffer that is long enough, whatever stands in it.
pub data Makes : Command → Call → Type 0 where
  adds : {s : List ℕ} → Makes (add s) (Call.add s)
  redeclares : {p code : ℕ} → Makes (redeclare p code) (Call.redeclare p code)
  takes_back : Makes take_back Call.take_back
  infers : {buffer : List ℕ} → 6280 ≤ length buffer → Makes infer (Call.infer buffer)

-- "An add, redeclare or take-back prints its number; an accepted infer prints the report, a refused one `NO,number,row`".
abbrev pub answer : Call → Outcome → List ℕ
answer (Call.add s) o = line (decimal o.number ∷ [])
answer (Call.redeclare p code) o = line (decimal o.number ∷ [])
answer Call.take_back o = line (decimal o.number ∷ [])
answer (Call.infer buffer) o = shown o

-- "a line that is no command .. prints `?` and changes nothing"
abbrev pub unknown : List ℕ
unknown = line (bytes "?" ∷ [])

-- "starts a fresh table of the file's schemes .. a refused file changes nothing"
abbrev pub restarted : Machine → List ℕ → Change
restarted m file = settled m (opened file).number (opened file).machine

-- What a run came to: `NUMBER,42,AH`, `FUNCTION` or `NO,30`. The word of a tag is by the machine's scheme table.
abbrev pub result_fields : Machine → ℕ → Run.Answer → List (List ℕ)
result_fields m refusal (Run.a_number n tag) = bytes "NUMBER" ∷ decimal n ∷ qualifier_word m.schemes.names tag ∷ []
result_fields m refusal Run.a_function = bytes "FUNCTION" ∷ []
result_fields m refusal Run.no_answer = bytes "NO" ∷ decimal refusal ∷ []

-- `NUMBER,42,AH,1,1`, `FUNCTION,3,0`, `NO,30,7,2`: the applications and the operations stand last.
unfoldable pub ran_line : Machine → Run.Outcome → List ℕ
ran_line m o = line (result_fields m o.refusal o.answer ++ (decimal o.counts.applications ∷ decimal o.counts.operations ∷ []))

-- One line on a machine: what is answered, and the machine after it.
pub data Replies (m : Machine) (s : List ℕ) : List ℕ → Machine → Type 0 where
  calls : {call : Call} {o : Outcome} {after : Machine} → Makes (command_of s) call → Answers m call o after → Replies m s (answer call o) after
  restarts : {file : List ℕ} → command_of s ≡ schemes file → Replies m s (line (decimal (restarted m file).number ∷ [])) (restarted m file).machine
  -- "A run changes nothing."
  runs : {budget : ℕ} {numbers : List ℕ} {o : Run.Outcome} → command_of s ≡ run budget numbers → DryRuns m numbers budget o → Replies m s (ran_line m o) m
  passes : command_of s ≡ no_command → Replies m s unknown m

-- The lines of a script in turn, each on the machine that the one before it left, and all that is answered.
pub data Dialogue : Machine → List (List ℕ) → List ℕ → Type 0 where
  end : {m : Machine} → Dialogue m [] []
  next : {m after : Machine} {s reply : List ℕ} {rest : List (List ℕ)} {answers : List ℕ} →
      Replies m s reply after → Dialogue after rest answers → Dialogue m (s ∷ rest) (reply ++ answers)

-- A whole script starts with a fresh machine of the six.
pub record Conversation (script answers : List ℕ) : Type 0 where
  pub dialogue : Dialogue (fresh_machine six_table) (lines_of script) answers

-- The largest number that the entry for scripts can return.
abbrev pub largest : ℕ
largest = 18446744073709551615

-- What that entry returns, and the output after it: the length of all answers, which are written only where there is room for all.
pub data Responds (script output : List ℕ) : ℕ → List ℕ → Type 0 where
  written : {answers : List ℕ} → Conversation script answers → length answers ≤ length output →
      Responds script output (length answers) (answers ++ drop (length answers) output)
  short : {answers : List ℕ} → Conversation script answers → length output < length answers →
      Responds script output (min (length answers) largest) output
