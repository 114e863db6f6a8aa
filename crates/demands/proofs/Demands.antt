-- What is promised, on one page: the three demands as theorems, as document 02 words them now. What their words mean stands in model/specs and in specs/ here;
-- by demand 3 every list of calls that the code ran is a `Session`, so that demands 1 and 2 hold of it.
use Prim.Native.Nat.{ℕ, ◌≤◌, ◌<◌}
use native.Mathlib.Omega.{arith}
use mathlib.Core.Bool.{true}
use mathlib.Core.List.{List, [], ◌∷◌, ◌++◌, map}
use mathlib.Core.Path.{◌≡◌}
use lib.ListN.{length, get_or, take, drop}
use Rattle.std.specs.Prelude.{Option, Some}
use Rattle.scheme.specs.Schemes.{SchemeTable, Sound}
use Rattle.scheme.specs.Six.{six_table}
use Rattle.scheme.proofs.Six.{six_sound}
use Rattle.schemes.specs.Schemes.{Kept}
use Rattle.model.specs.Lists.{contains, bytes}
use Rattle.model.specs.Number.{number_of, decimal}
use Rattle.model.specs.Word.{qualifier_words, capitals, word_of, qualifier_of, qualifier_word}
use Rattle.model.specs.Line.{field, line_of}
use Rattle.model.specs.Machine.{Machine, fresh_machine, param_at}
use Rattle.model.specs.SchemeFile.{opened}
use Rattle.model.specs.Closed.{Closed}
use Rattle.model.specs.WellFormed.{WellFormed}
use Rattle.model.specs.Typing.{Typable}
use Rattle.model.specs.WellFormed.{WellFormed}
use Rattle.model.specs.Strength.{whole}
use Rattle.model.specs.Inference.{ruling, Slot, param, Listed, Shape, Refusal, GreatestTyping}
use Rattle.model.proofs.Lawful.{sound_lawful}
use Rattle.model.specs.Report.{line, report}
use Rattle.model.specs.Session.{Call, add, redeclare, take_back, infer, Outcome, returning, Infers, Answers, adds, redeclares, takes_back, Session}
use Rattle.model.specs.Text.{lines_of, Prints, Returns, ReturnsUnder}
use Rattle.conversation.specs.Script.{command_of, Makes, Replies, Conversation, largest, Responds}
use Rattle.model.specs.declared.Line.TheVariants.{NoForm}
use Rattle.model.proofs.Answers.{session_same}
use Rattle.model.proofs.Files.{six_file}
use Rattle.model.proofs.LongFiles.{opened_front}
use Rattle.dryrun.specs.Run.{DryRuns}
use Rattle.dryrun.specs.Run as Run
use Rattle.conversation.proofs.Front.{reply_front}
use Rattle.numbers.specs.OnePass.{Fed}
use Rattle.numbers.specs.OnePass as OnePass
use Rattle.numbers.specs.declared.Reader.{Reader}
use Rattle.numbers.proofs.OnePass.{fed_answers}
use Rattle.tokens.proofs.RoundTrip.{word_exactly}
use Rattle.table.specs.Lists.{lists}
use Rattle.table.specs.Called.{Called}
use Rattle.table.specs.declared.Table.{Table}
use Rattle.inference.specs.Ran.{Step, changes, Ran}
use Rattle.inference.proofs.Follows.{tables_follow, files_follow, session_follows}
use Rattle.inference.proofs.Corollaries.{open_exactly, refused_untypable, untypable_refused, reported_greatest}
use Rattle.answered.proofs.Answered.{every_list_answered as list_has_answers}
use Rattle.dryrun.specs.Expression.{Expression}
use Rattle.dryrun.specs.Transition.{Tagged, Plain, Goes, Meets, untagged_form}
use Rattle.dryrun.specs.Run.{Counts, nothing_made, steps, untagged_outcome, Runs, Reaches, job, Accepted, DryRuns}
use Rattle.dryrun.specs.Run as Run
use Rattle.dryrun.proofs.Same.{dry_runs_same}
use Rattle.dryrun.proofs.Untagged.{untagged_reaches, untagged_runs}
use Rattle.dryrun.proofs.Promises.{never_two_tags, never_stuck, always_ends, runs_within}
use Rattle.text.proofs.Front.{prints_front, returns_front}
use Rattle.text.proofs.Same.{prints_same, returns_same}
use Rattle.text.proofs.Under.{under_same, under_front, six_under}
use Rattle.starred.specs.Starred.{All}
use Rattle.demands.specs.Refusals.{HasAnswer, RefusedExactly}
use Rattle.demands.specs.Standing.{standing}
use Rattle.demands.specs.Floors.{SomeMeetsFloors, GreatestMeetsFloors, GreatestMissesFloor}
use Rattle.demands.specs.Completion.{ReportsTyping, ReportsAboveFloors}
use Rattle.demands.specs.Traces.{calls_of, outcomes_of}
use Rattle.demands.specs.Replacements.{report_in}
use Rattle.demands.specs.InTurn.{InTurn}
use Rattle.demands.specs.Scripts.{OneList, InSessions, OneSession, StaysOn, command_for, command_for_file, Spelled, unspelled_numbers, script_of, answers_of, Alike}
use Rattle.demands.specs.EitherCase.{SameButCase, SameCallButCase}
use Rattle.demands.proofs.Exactly.{refused_exactly, answers_zero}
use Rattle.demands.proofs.Standing.{session_standing}
use Rattle.demands.proofs.FloorsStay.{floor_stays}
use Rattle.demands.proofs.Completion.{reports_typing, answered_reports}
use Rattle.demands.proofs.Floors.{accepted_greatest, missed_greatest, above_floors, accepted_some, missed_every}
use Rattle.demands.proofs.LeftOut.{unspelled_refused}
use Rattle.demands.proofs.Scripts.{in_sessions, one_session, responds_same, spelled_makes, script_lines, script_list, list_converses}
use Rattle.demands.proofs.LeadingLams.{numbers_front}
use Rattle.demands.proofs.SchemeCommands.{file_converses}
use Rattle.demands.proofs.EitherCase.{lines_alike, session_alike, prints_alike, returns_alike, other_tag, variable_letter}
use Rattle.demands.proofs.ReportCapitals.{reported_capitals}
use Rattle.demands.proofs.PlainFunctions.{reported_plain, declared_int, lines_refused}

-- Demand 1. "Refused are: .. Each has its number in document 01, and a refused call leaves the table and the lent bytes as it found them.
-- Accepted is everything else".
pub demand_1 : {m after : Machine} {call : Call} {o : Outcome} → Answers m call o after → RefusedExactly m call o after
demand_1 = refused_exactly

-- ".. for any bytes and any order of calls": every call of every list, on the machine that the accepted calls before it describe.
pub demand_1_list : {m : Machine} {call : Call} {o : Outcome} (before rest : List (Call × Outcome)) →
    Session m (before ++ ((call, o) ∷ rest)) → RefusedExactly (standing m before) call o (standing m (before ++ ((call, o) ∷ [])))
demand_1_list before rest session = refused_exactly (session_standing before rest session)

-- ".. and every call ends": the proof of each function says so; and the machine has an answer to every call that changes it.
pub changes_answered : (m : Machine) → ((s : List ℕ) → HasAnswer m (add s)) × ((p code : ℕ) → HasAnswer m (redeclare p code)) × HasAnswer m take_back
changes_answered m = (λ s. (_, _, adds), λ p code. (_, _, redeclares), (_, _, takes_back))

-- So every list of calls has answers, infers among them: that infer's code returns on every table that the calls reach is taken from its proof.
pub every_list_answered_of_tables : (T : SchemeTable) → Sound T → (calls : List Call) →
    ∥ ((trace : List (Call × Outcome)) × (map (λ step. step.0) trace ≡ calls) × Session (fresh_machine T) trace) ∥₁
every_list_answered_of_tables = list_has_answers

pub every_list_answered : (calls : List Call) → ∥ ((trace : List (Call × Outcome)) × (map (λ step. step.0) trace ≡ calls) × Session (fresh_machine six_table) trace) ∥₁
every_list_answered = list_has_answers six_table six_sound

-- Demand 2. "The table is the one that the accepted calls describe, redeclare and take-back included": every call of every list is answered
-- for the machine that the accepted calls before it describe, and leaves the one that they describe together with it.
pub demand_2_table : {T : SchemeTable} {call : Call} {o : Outcome} (before rest : List (Call × Outcome)) → Session (fresh_machine T) (before ++ ((call, o) ∷ rest)) →
    Answers (standing (fresh_machine T) before) call o (standing (fresh_machine T) (before ++ ((call, o) ∷ [])))
demand_2_table = session_standing

-- "An accepted inference reports schemes and shapes that complete to a typing by the seven rules of UCLA Technical Report 130012": with the rule of
-- document 02, b) in place of Q-INT, and with functions PLAIN, f).
pub demand_2_report : {m : Machine} {buffer : List ℕ} {o : Outcome} → Infers m buffer o → o.number ≡ 0 → ReportsTyping m buffer o
demand_2_report = reports_typing

-- Both, of every call of every list.
pub demand_2 : {T : SchemeTable} {call : Call} {o : Outcome} (before rest : List (Call × Outcome)) → Session (fresh_machine T) (before ++ ((call, o) ∷ rest)) →
    Answers (standing (fresh_machine T) before) call o (standing (fresh_machine T) (before ++ ((call, o) ∷ [])))
    × ((buffer : List ℕ) → call ≡ infer buffer → o.number ≡ 0 → ReportsTyping (standing (fresh_machine T) before) buffer o)
demand_2 before rest session = let answer = session_standing before rest session in (answer, answered_reports answer)

-- Demand 3. Every list of add, redeclare, take-back and infer calls from a fresh table, with any bytes, numbers and buffers, accepted or
-- refused, each given the table that the one before it handed back: the whole list's answers are those of document 01.
-- `Ran` holds of a list exactly what the contracts of the four functions say of its calls. Document 02, d): "Demand 3 as a whole is shown one time
-- for every accepted scheme table, and the built-in six are one instance"; `Table::fresh` ensures the premise of that instance.
pub demand_3_of_tables : {t : Table} {trace : List (Call × Outcome)} (T : SchemeTable) → lists t ≡ fresh_machine T → Kept t.schemes → Ran t trace → Session (fresh_machine T) trace
demand_3_of_tables = tables_follow

-- "The file comes as bytes to the call that makes the fresh machine": `Table::open` ensures the premise, for a refused file of the six's machine.
pub demand_3_of_files : {t : Table} {trace : List (Call × Outcome)} (file : List ℕ) → (lists t ≡ (opened file).machine) × Kept t.schemes → Ran t trace → Session (opened file).machine trace
demand_3_of_files = files_follow

pub demand_3 : {t : Table} {trace : List (Call × Outcome)} → (lists t ≡ fresh_machine six_table) × Kept t.schemes → Ran t trace → Session (fresh_machine six_table) trace
demand_3 = session_follows

-- A call through the layer that lends the table is a step of such a list: lent/proofs/Covered.antt has the premise from each function's contract.
pub lent_covered : {before after : Table} {call : Call} {number : ℕ} → Called before call (record { table = after; number = number }) →
    Step before call (returning number) after
lent_covered called = changes called

-- These answers are determined: the same calls have the same numbers, rows, lengths and bytes.
pub answers_determined : {m : Machine} {trace trace' : List (Call × Outcome)} → Sound m.schemes →
    Session m trace → Session m trace' → map (λ step. step.0) trace ≡ map (λ step. step.0) trace' → trace ≡ trace'
answers_determined = session_same

-- "The row outside 21 to 23, and the length of a refusal, are 0", with 24 beside the three.
pub zero_elsewhere : {m after : Machine} {call : Call} {o : Outcome} → Answers m call o after →
    (¬ (o.row ≡ 0) → (21 ≤ o.number) × (o.number ≤ 24)) × (¬ (o.number ≡ 0) → o.size ≡ 0)
zero_elsewhere = answers_zero

-- 10 exactly where the program is not closed, the buffer being long enough.
pub refused_10_exactly : {m : Machine} {buffer : List ℕ} {o : Outcome} → Infers m buffer o → 6280 ≤ length buffer →
    (o.number ≡ 10 → ¬ Closed m) × (¬ Closed m → o.number ≡ 10)
refused_10_exactly = open_exactly

-- 21 to 23 only where no typing exists, naming the least row; and always where none exists.
pub refused_only_untypable : {m : Machine} {buffer : List ℕ} {o : Outcome} → Infers m buffer o → 21 ≤ o.number → o.number ≤ 23 →
    Refusal (ruling m) m o.number o.row × ¬ Typable (whole (ruling m)) m (length m.terms)
refused_only_untypable = refused_untypable

pub untypable_always_refused : {m : Machine} {buffer : List ℕ} {o : Outcome} → Infers m buffer o → 6280 ≤ length buffer → Closed m →
    ¬ Typable (whole (ruling m)) m (length m.terms) → (21 ≤ o.number) × (o.number ≤ 23)
untypable_always_refused = untypable_refused

-- "otherwise it accepts exactly when the greatest typing meets every floor"
pub accepted_exactly : {m : Machine} {buffer : List ℕ} {o : Outcome} → Infers m buffer o → 6280 ≤ length buffer → Closed m → Sound m.schemes →
    (o.number ≡ 0 → GreatestMeetsFloors m) × (GreatestMeetsFloors m → o.number ≡ 0)
accepted_exactly = accepted_greatest

-- "and returns 24 if not": exactly where the program has typings and the greatest one misses a floor, naming the lowest such parameter.
pub refused_24_exactly : {m : Machine} {buffer : List ℕ} {o : Outcome} → Infers m buffer o → 6280 ≤ length buffer → Closed m → Sound m.schemes →
    (o.number ≡ 24 → GreatestMissesFloor m o.row) × ((p : ℕ) → GreatestMissesFloor m p → (o.number ≡ 24) × (o.row ≡ p))
refused_24_exactly = missed_greatest

-- "The parameter record holds it, and redeclare leaves it": no call changes the floor of a parameter that stands.
pub floors_stay : {m after : Machine} {call : Call} {o : Outcome} → Answers m call o after → (p : ℕ) → p < length m.params →
    (param_at after p).floor ≡ (param_at m p).floor
floors_stay = floor_stays

-- "A user may rely on this: acceptance means that some typing meets every floor." The one that has all of the report does.
pub accepted_meets_floors : {m : Machine} {buffer : List ℕ} {o : Outcome} → Infers m buffer o → o.number ≡ 0 → ReportsAboveFloors m buffer o
accepted_meets_floors = above_floors

-- And wherever some typing meets every floor, it accepts.
pub accepted_where_some_meets : {m : Machine} {buffer : List ℕ} {o : Outcome} → Infers m buffer o → 6280 ≤ length buffer → Closed m →
    (o.number ≡ 0 → SomeMeetsFloors m) × (SomeMeetsFloors m → o.number ≡ 0)
accepted_where_some_meets = accepted_some

-- So it is 24 exactly where typings exist and none of them meets every floor.
pub refused_24_where_none_meets : {m : Machine} {buffer : List ℕ} {o : Outcome} → Infers m buffer o → 6280 ≤ length buffer → Closed m →
    (o.number ≡ 24 → Typable (whole (ruling m)) m (length m.terms) × ¬ SomeMeetsFloors m)
    × (Typable (whole (ruling m)) m (length m.terms) → ¬ SomeMeetsFloors m → o.number ≡ 24)
refused_24_where_none_meets = missed_every

-- The report of an accepted call: every typing is at or below its words (`greatest`), and one typing has all of them (`together`).
pub report_is_greatest : {m : Machine} {buffer : List ℕ} {o : Outcome} → Infers m buffer o → o.number ≡ 0 →
    (word : Slot → ℕ)
    × (shape : Slot → Shape)
    × (o.size ≡ length (report m word shape))
    × (o.buffer ≡ report m word shape ++ drop (length (report m word shape)) buffer)
    × GreatestTyping (ruling m) m word shape
report_is_greatest = reported_greatest

-- Document 02, f): "Wherever a qualifier stands with an arrow, in a typing or inside one of its types, it is PLAIN." So is the word of what is
-- reported a function.
pub functions_reported_plain : {m : Machine} → Sound m.schemes → {word : Slot → ℕ} {shape : Slot → Shape} → GreatestTyping (ruling m) m word shape →
    (x : Slot) → Listed (ruling m) m x → shape x ≡ Shape.arrow → word x ≡ 0
functions_reported_plain {m} sound = reported_plain (ruling m) (sound_lawful m.schemes sound) (omega arith)

-- "a free type declared RAND is now INT": no parameter whose line names a scheme can be a function.
pub declared_scheme_is_int : {m : Machine} → Sound m.schemes → {word : Slot → ℕ} {shape : Slot → Shape} → GreatestTyping (ruling m) m word shape →
    (p : ℕ) → p < length m.params → 0 < (param_at m p).qualifier → (param_at m p).qualifier < (ruling m).words → shape (param p) ≡ Shape.int
declared_scheme_is_int {m} sound = declared_int (ruling m) (sound_lawful m.schemes sound) (omega arith)

-- "Where the T and P lines alone have no typing, the row is 0."
pub lines_refused_at_row_0 : {m : Machine} {buffer : List ℕ} {o : Outcome} → Infers m buffer o → 6280 ≤ length buffer → Closed m → WellFormed m →
    ¬ Typable (whole (ruling m)) m 0 → (o.number ≡ 22) × (o.row ≡ 0)
lines_refused_at_row_0 = lines_refused

-- What the program prints and what the loader's entry returns are determined by their inputs; a text by its first 25,025 bytes.
module _ {T : SchemeTable} (sound : Sound T) where
  pub printed_determined_of_tables : {text out out' : List ℕ} → Prints T text out → Prints T text out' → out ≡ out'
  printed_determined_of_tables = prints_same T sound

  pub printed_front_of_tables : {text out : List ℕ} → Prints T (take 25025 text) out → Prints T text out
  printed_front_of_tables = prints_front sound

  pub returned_front_of_tables : {text buffer b : List ℕ} {n : ℕ} → Returns T (take 25025 text) buffer n b → Returns T text buffer n b
  returned_front_of_tables = returns_front sound

  pub returned_determined_of_tables : {text buffer b b' : List ℕ} {n n' : ℕ} → Returns T text buffer n b → Returns T text buffer n' b' → (n ≡ n') × (b ≡ b')
  returned_determined_of_tables = returns_same T sound

pub printed_determined : {text out out' : List ℕ} → Prints six_table text out → Prints six_table text out' → out ≡ out'
printed_determined = prints_same six_table six_sound

pub printed_front : {text out : List ℕ} → Prints six_table (take 25025 text) out → Prints six_table text out
printed_front = prints_front six_sound

pub returned_front : {text buffer b : List ℕ} {n : ℕ} → Returns six_table (take 25025 text) buffer n b → Returns six_table text buffer n b
returned_front = returns_front six_sound

pub returned_determined : {text buffer b b' : List ℕ} {n n' : ℕ} → Returns six_table text buffer n b → Returns six_table text buffer n' b' → (n ≡ n') × (b ≡ b')
returned_determined = returns_same six_table six_sound

-- Document 02, d). What the contract of `placement_report_under` says is determined by the file, the text and the buffer; the text's front decides.
pub returned_under_determined : (file : List ℕ) {text buffer b b' : List ℕ} {n n' : ℕ} → ReturnsUnder file text buffer n b → ReturnsUnder file text buffer n' b' → (n ≡ n') × (b ≡ b')
returned_under_determined = under_same

pub returned_under_front : (file : List ℕ) {text buffer b : List ℕ} {n : ℕ} → ReturnsUnder file (take 25025 text) buffer n b → ReturnsUnder file text buffer n b
returned_under_front = under_front

-- A scheme file is decided by its first 113 bytes.
pub file_front : (file : List ℕ) → opened (take 113 file) ≡ opened file
file_front = opened_front

-- "the built-in six are one instance": under the six's own file every text returns what `placement_report` returns.
pub returned_under_six : {text buffer b : List ℕ} {n : ℕ} → ReturnsUnder six_file text buffer n b → Returns six_table text buffer n b
returned_under_six = six_under

-- The session. What the contract of `placement_session` says of a script: its calls are lists of demand 3, one for each table that it
-- starts, each dry run is one of the table that stands, and all that is written is the answers. Every slice is shorter than the largest number.
pub script_is_sessions : {script output after : List ℕ} {n : ℕ} → length output < largest → Responds script output n after → InSessions script output n after
script_is_sessions = in_sessions

-- A script that starts no other table is one list.
pub script_is_a_session : {script output after : List ℕ} {n : ℕ} → length output < largest → All StaysOn (lines_of script) → Responds script output n after → OneSession script output n after
script_is_a_session = one_session

-- What is returned and what is written are determined by the script and the output.
pub session_determined : {script output after after' : List ℕ} {n n' : ℕ} → Responds script output n after → Responds script output n' after' → (n ≡ n') × (after ≡ after')
session_determined = responds_same

-- A line's first 730 bytes decide its answer; the program `session` keeps no more of a line.
pub session_front : {m after : Machine} {s w : List ℕ} → Replies m (take 730 s) w after → Replies m s w after
session_front = reply_front

-- Of a run the budget and 65 numbers are looked at; their answer is that of all its numbers.
pub run_front : {m : Machine} {budget : ℕ} {o : Run.Outcome} → WellFormed m → (numbers : List ℕ) → DryRuns m (take 65 numbers) budget o → DryRuns m numbers budget o
run_front {m} stands numbers runs = numbers_front m stands numbers runs

-- Every list of calls is a script. The line for a call makes that call, and the script of a list has these lines.
pub call_is_spelled : (call : Call) → Spelled call → Makes (command_of (command_for call)) call
call_is_spelled = spelled_makes

pub lines_of_script : {calls : List Call} → All Spelled calls → lines_of (script_of calls) ≡ map command_for calls
lines_of_script = script_lines

-- So every conversation with the script of a list makes these calls in turn, each the same but for the bytes of an infer's buffer.
pub every_list_is_a_script : {calls : List Call} {answers : List ℕ} → All Spelled calls → Conversation (script_of calls) answers →
    (l : OneList (fresh_machine six_table) (map command_for calls) answers) × InTurn Alike calls (calls_of l.trace)
every_list_is_a_script = script_list

-- And every list of demand 3, with these buffers and what it returned, is a conversation with its script.
pub every_list_converses : {trace : List (Call × Outcome)} → All Spelled (calls_of trace) → Session (fresh_machine six_table) trace → Conversation (script_of (calls_of trace)) (answers_of trace)
every_list_converses = list_converses

-- So is every list from the table of every accepted scheme file, behind the command that starts it.
pub every_list_of_files_converses : {trace : List (Call × Outcome)} (file : List ℕ) → (opened file).number ≡ 0 → All Spelled (calls_of trace) → Session (opened file).machine trace →
    Conversation (command_for_file file ++ (10 ∷ script_of (calls_of trace))) (line (decimal 0 ∷ []) ++ answers_of trace)
every_list_of_files_converses = file_converses

-- Nothing is lost by the calls that no script can hold, as they are refused and leave the machine as it was: a line with a line feed has no form
-- (1), a redeclare with a number above 4294967295 is refused with 5 or 12, an infer with a short buffer with 11.
pub left_out_refused : {T : SchemeTable} → Sound T → (before rest : List (Call × Outcome)) (call : Call) (o : Outcome) → Session (fresh_machine T) (before ++ ((call, o) ∷ rest)) → ¬ Spelled call →
    (contains o.number (unspelled_numbers call) ≡ true) × (standing (fresh_machine T) (before ++ ((call, o) ∷ [])) ≡ standing (fresh_machine T) before)
left_out_refused = unspelled_refused

-- Document 02, c). "The reader of words takes qualifier, kind and operation words in either case, also mixed": a field is the word of a code exactly
-- where its capitals are the word that a report has for the code.
pub words_in_either_case : (s : List ℕ) (c : ℕ) →
    (word_of six_table.names s ≡ Some c → capitals s ≡ qualifier_word six_table.names c) × (c < 7 → capitals s ≡ qualifier_word six_table.names c → word_of six_table.names s ≡ Some c)
words_in_either_case = word_exactly

-- "Every line form rests on this reader": lines that differ in the case of words alone enter the same, or both have none of the forms.
pub lines_in_either_case : (names : List (List ℕ)) {s t : List ℕ} → SameButCase s t → line_of names s ≡ line_of names t
lines_in_either_case = lines_alike

-- So two lists of calls that differ in nothing else have the same numbers, rows, lengths and bytes, and so have two texts.
pub lists_in_either_case : {m : Machine} {trace trace' : List (Call × Outcome)} → Sound m.schemes →
    InTurn SameCallButCase (calls_of trace) (calls_of trace') → Session m trace → Session m trace' → outcomes_of trace ≡ outcomes_of trace'
lists_in_either_case sound = session_alike sound _ _

pub printed_in_either_case : {T : SchemeTable} {text text' out : List ℕ} → InTurn SameButCase (lines_of text) (lines_of text') → Prints T text out → Prints T text' out
printed_in_either_case alike = prints_alike alike

pub returned_in_either_case : {T : SchemeTable} {text text' buffer b : List ℕ} {n : ℕ} → InTurn SameButCase (lines_of text) (lines_of text') → Returns T text buffer n b → Returns T text' buffer n b
returned_in_either_case alike = returns_alike alike

-- "The tags T, P, E and the `g` of a variable stay fixed."
pub tags_fixed : (names : List (List ℕ)) (s : List ℕ) → ¬ (field s 0 ≡ bytes "T") → ¬ (field s 0 ≡ bytes "P") → ¬ (field s 0 ≡ bytes "E") → line_of names s ≡ NoForm
tags_fixed = other_tag

pub variable_letter_fixed : (names : List (List ℕ)) (s : List ℕ) (c : ℕ) → qualifier_of names s ≡ Some c → length (qualifier_words names) ≤ c → get_or s 0 0 ≡ 103
variable_letter_fixed = variable_letter

-- "Reports are written in capitals as before."
pub reports_in_capitals : {m : Machine} {buffer : List ℕ} {o : Outcome} → Sound m.schemes → Infers m buffer o → o.number ≡ 0 → capitals (report_in o) ≡ report_in o
reports_in_capitals = reported_capitals

-- Document 02, e). "The answer" of a dry run is a function of the machine, the numbers and the budget.
pub dry_run_determined : {m : Machine} → WellFormed m → (numbers : List ℕ) (budget : ℕ) {o o' : Run.Outcome} → DryRuns m numbers budget o → DryRuns m numbers budget o' → o ≡ o'
dry_run_determined {m} w = dry_runs_same m w

-- "A run never meets two operands with different tags": of no expression that the run of an accepted job comes by.
pub dry_run_one_tag : {m : Machine} {word : Slot → ℕ} {shape : Slot → Shape} → Accepted m word shape → (numbers : List ℕ) {e : Expression} {made : Counts} {t u : ℕ} →
    Reaches (Tagged (ruling m)) (job m word numbers) nothing_made e made → Meets e t u → t ≡ u
dry_run_one_tag = never_two_tags

-- "and at each step its untagged form is the plain run's": with the same steps made, and so the same outcome but for the tag.
pub dry_run_untagged_steps : (m : Machine) (word : Slot → ℕ) (numbers : List ℕ) {e : Expression} {made : Counts} →
    Reaches (Tagged (ruling m)) (job m word numbers) nothing_made e made → Reaches Plain (untagged_form (job m word numbers)) nothing_made (untagged_form e) made
dry_run_untagged_steps m word numbers = untagged_reaches

pub dry_run_untagged : (m : Machine) (word : Slot → ℕ) (numbers : List ℕ) {budget : ℕ} {o : Run.Outcome} →
    Runs (Tagged (ruling m)) budget (job m word numbers) nothing_made o → Runs Plain budget (untagged_form (job m word numbers)) nothing_made (untagged_outcome o)
dry_run_untagged m word numbers = untagged_runs

-- A run is never stuck, ends with every budget, and makes no more steps than it.
pub dry_run_never_stuck : {m : Machine} {word : Slot → ℕ} {shape : Slot → Shape} → Accepted m word shape → (numbers : List ℕ) {e : Expression} {made : Counts} →
    Reaches (Tagged (ruling m)) (job m word numbers) nothing_made e made → Goes (Tagged (ruling m)) e
dry_run_never_stuck = never_stuck

pub dry_run_ends : {m : Machine} {word : Slot → ℕ} {shape : Slot → Shape} → Accepted m word shape → (numbers : List ℕ) (budget : ℕ) →
    (o : Run.Outcome) × Runs (Tagged (ruling m)) budget (job m word numbers) nothing_made o × (steps o.counts ≤ budget)
dry_run_ends accepted numbers budget = let (o, r) = always_ends accepted numbers budget in (o, r, runs_within r (omega arith))

-- Document 02, g). "After any bytes it answers as the reader does for them as a whole field": a reader that was started and then fed these bytes, one by one, under every
-- upper end. The steps and the answer are what the contracts of `Reader::start`, `feed` and `answer` say (numbers/proofs/OnePass.antt).
pub one_pass : {s : List ℕ} {reader : Reader} (most : ℕ) {answer : Option ℕ} → Fed s reader → OnePass.Answers reader most answer → answer ≡ number_of most s
one_pass = fed_answers
