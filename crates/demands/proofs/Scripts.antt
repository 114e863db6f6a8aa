-- A script is one list of calls for each table, with all of its answers, and every list of calls that a script can hold is a script.
use Prim.Native.Nat.{ℕ, ◌≤◌, ◌<◌, min}
use native.Mathlib.Omega.{arith}
use native.Mathlib.Decide.{ℕ_discrete}
use mathlib.Core.Bool.{false}
use mathlib.Core.List.{List, [], ◌∷◌, ◌++◌, map, append_assoc}
use mathlib.Core.Path.{◌≡◌, refl, sym, ap, subst, ◌∙◌}
use lib.ListN.{length, drop}
use lib.Seq.{take-append_seam, drop-append-add}
use Rattle.model.specs.Lists.{contains, length_before}
use Rattle.model.specs.Number.{decimal}
use Rattle.model.specs.Line.{onto}
use Rattle.scheme.specs.Six.{six_table}
use Rattle.model.specs.Machine.{Machine, Change, fresh_machine}
use Rattle.model.specs.SchemeFile.{opened}
use Rattle.model.specs.Report.{line}
use Rattle.model.specs.Session.{Call, add, redeclare, take_back, infer, Outcome, Answers, Session}
use Rattle.model.specs.Text.{lines_of}
use Rattle.conversation.specs.Script.{Command, command_of, before_blank, after_blank, argument, redeclare_of, Makes, answer, restarted, ran_line, unknown, Replies, Dialogue, Conversation, largest, Responds}
use Rattle.conversation.specs.Script as Script
use Rattle.dryrun.specs.Run.{DryRuns}
use Rattle.dryrun.specs.Run as Run
use Rattle.model.proofs.Checks.{settled_refused, settled_accepted}
use Rattle.conversation.proofs.Same.{not_made, not_schemes, not_run, conversation_same}
use Rattle.tokens.proofs.RoundTrip.{number_of_decimal}
use Rattle.starred.specs.Starred.{All}
use Rattle.demands.specs.Traces.{calls_of}
use Rattle.demands.specs.InTurn.{InTurn}
use Rattle.demands.specs.Standing.{standing}
use Rattle.demands.specs.Scripts.{Transcript, OneList, ListsInTurn, HandsBack, InSessions, OneSession, StaysOn, command_for, Spelled, script_of, answers_of, Alike, same_call, both_infer}
use Rattle.demands.proofs.Standing.{answers_described}
use Rattle.demands.proofs.Without.{first_other, rest_without, without_both, before_all, decimal_without}

-- A line in front of a list of calls.
module _ {m after : Machine} {s : List ℕ} {rest : List (List ℕ)} {answers : List ℕ} where
  call_first : {call : Call} {o : Outcome} → Makes (command_of s) call → Answers m call o after → OneList after rest answers → OneList m (s ∷ rest) (answer call o ++ answers)
  call_first makes a l =
      record {
        trace = _ ∷ l.trace;
        session = Session.next a l.session;
        transcript = Transcript.calls makes (subst (λ (m : Machine). Transcript m rest l.trace answers) (answers_described a) l.transcript);
      }

module _ {m : Machine} {s : List ℕ} {rest : List (List ℕ)} {answers : List ℕ} (l : OneList m rest answers) where
  refused_first : {file : List ℕ} → command_of s ≡ Script.schemes file → ¬ ((opened file).number ≡ 0) → OneList m (s ∷ rest) (line (decimal (opened file).number ∷ []) ++ answers)
  refused_first e z = record { trace = l.trace; session = l.session; transcript = Transcript.refuses e z l.transcript }

  run_first : {budget : ℕ} {numbers : List ℕ} {o : Run.Outcome} → command_of s ≡ Script.run budget numbers → DryRuns m numbers budget o → OneList m (s ∷ rest) (ran_line m o ++ answers)
  run_first e d = record { trace = l.trace; session = l.session; transcript = Transcript.runs e d l.transcript }

  unknown_first : command_of s ≡ Script.no_command → OneList m (s ∷ rest) (unknown ++ answers)
  unknown_first e = record { trace = l.trace; session = l.session; transcript = Transcript.passes e l.transcript }

no_line : {m : Machine} → OneList m [] []
no_line = record { trace = []; session = Session.done; transcript = Transcript.end }

-- A restart, by the number of its file.
module _ (m : Machine) (file : List ℕ) where
  restart_refused : ¬ ((opened file).number ≡ 0) → restarted m file ≡ record { number = (opened file).number; machine = m }
  restart_refused z = sym (settled_refused m (opened file) z)

  restart_accepted : (opened file).number ≡ 0 → restarted m file ≡ opened file
  restart_accepted z = sym (settled_accepted m (opened file) z)

-- What goes in front of a list goes in front of lists in turn.
in_front : {m after : Machine} {s : List ℕ} (reply : List ℕ) → ((rest : List (List ℕ)) (answers : List ℕ) → OneList after rest answers → OneList m (s ∷ rest) (reply ++ answers)) →
    {rest : List (List ℕ)} {answers : List ℕ} → ListsInTurn after rest answers → ListsInTurn m (s ∷ rest) (reply ++ answers)
in_front reply first (ListsInTurn.last l) = ListsInTurn.last (first _ _ l)
in_front {m} {s = s} reply first (ListsInTurn.then lines rest s' answers others l e z more) =
    subst (ListsInTurn m (s ∷ (lines ++ (s' ∷ rest)))) (append_assoc reply answers (line (decimal 0 ∷ []) ++ others))
    (ListsInTurn.then (s ∷ lines) rest s' (reply ++ answers) others (first lines answers l) e z more)

restart_lists : {m : Machine} {s file : List ℕ} {rest : List (List ℕ)} {answers : List ℕ} → command_of s ≡ Script.schemes file → Dec ((opened file).number ≡ 0) →
    ListsInTurn (restarted m file).machine rest answers → ListsInTurn m (s ∷ rest) (line (decimal (restarted m file).number ∷ []) ++ answers)
restart_lists {m} {s} {file} {rest} {answers} e (yes z) lists =
    let is = restart_accepted m file z in
    let number : (restarted m file).number ≡ 0 = ap (λ (c : Change). c.number) is ∙ z in
    subst (λ (k : ℕ). ListsInTurn m (s ∷ rest) (line (decimal k ∷ []) ++ answers)) (sym number)
    (ListsInTurn.then [] rest s [] answers no_line e z (subst (λ (c : Change). ListsInTurn c.machine rest answers) is lists))
restart_lists {m} {s} {file} {rest} {answers} e (no z) lists =
    let is = restart_refused m file z in
    subst (λ (c : Change). ListsInTurn m (s ∷ rest) (line (decimal c.number ∷ []) ++ answers)) (sym is)
    (in_front (line (decimal (opened file).number ∷ [])) (λ rest answers l. refused_first l e z) (subst (λ (c : Change). ListsInTurn c.machine rest answers) is lists))

dialogue_lists : {m : Machine} {lines : List (List ℕ)} {answers : List ℕ} → Dialogue m lines answers → ListsInTurn m lines answers
dialogue_lists Dialogue.end = ListsInTurn.last no_line
dialogue_lists (Dialogue.next {reply = reply} (Replies.calls makes a) d) = in_front reply (λ rest answers l. call_first makes a l) (dialogue_lists d)
dialogue_lists (Dialogue.next (Replies.restarts {file} e) d) = restart_lists e (ℕ_discrete (opened file).number 0) (dialogue_lists d)
dialogue_lists (Dialogue.next {reply = reply} (Replies.runs e r) d) = in_front reply (λ rest answers l. run_first l e r) (dialogue_lists d)
dialogue_lists (Dialogue.next (Replies.passes e) d) = in_front unknown (λ rest answers l. unknown_first l e) (dialogue_lists d)

-- Lines that start no other table are one list.
dialogue_list : {m : Machine} {lines : List (List ℕ)} {answers : List ℕ} → All StaysOn lines → Dialogue m lines answers → OneList m lines answers
dialogue_list All.[]ᴬ Dialogue.end = no_line
dialogue_list {m} (All.◌∷ᴬ◌ stays more) (Dialogue.next {after} (Replies.calls makes a) d) = call_first makes a (dialogue_list {m = after} more d)
dialogue_list {m} (All.◌∷ᴬ◌ stays more) (Dialogue.next {s} {rest} {answers} (Replies.restarts {file} e) d) =
    let is = restart_refused m file (stays file e) in
    subst (λ (c : Change). OneList m (s ∷ rest) (line (decimal c.number ∷ []) ++ answers)) (sym is)
    (refused_first (subst (λ (c : Change). OneList c.machine rest answers) is (dialogue_list {m = (restarted m file).machine} more d)) e (stays file e))
dialogue_list {m} (All.◌∷ᴬ◌ stays more) (Dialogue.next (Replies.runs e r) d) = run_first (dialogue_list {m = m} more d) e r
dialogue_list {m} (All.◌∷ᴬ◌ stays more) (Dialogue.next (Replies.passes e) d) = unknown_first (dialogue_list {m = m} more d) e

module _ {script output : List ℕ} where
  -- The conversation that the entry held, and what it handed back.
  pub handed_back : {n : ℕ} {after : List ℕ} → length output < largest → Responds script output n after → (answers : List ℕ) × Conversation script answers × HandsBack answers output n after
  handed_back short (Responds.written c fits) = (_, c, record { room = λ h. (refl, refl); no_room = λ h. absurd (omega arith) })
  handed_back short (Responds.short c past) = (_, c, record { room = λ h. absurd (omega arith); no_room = λ h. (omega arith, refl) })

  pub in_sessions : {n : ℕ} {after : List ℕ} → length output < largest → Responds script output n after → InSessions script output n after
  in_sessions short responds = let h = handed_back short responds in record { answers = h.0; lists = dialogue_lists h.1.dialogue; handed = h.2 }

  pub one_session : {n : ℕ} {after : List ℕ} → length output < largest → All StaysOn (lines_of script) → Responds script output n after → OneSession script output n after
  one_session short stays responds = let h = handed_back short responds in record { answers = h.0; list = dialogue_list stays h.1.dialogue; handed = h.2 }

  pub responds_same : {n n' : ℕ} {after after' : List ℕ} → Responds script output n after → Responds script output n' after' → (n ≡ n') × (after ≡ after')
  responds_same (Responds.written c fits) (Responds.written c' fits') =
      let same = conversation_same c c' in
      (ap length same, ap (λ (answers : List ℕ). answers ++ drop (length answers) output) same)
  responds_same (Responds.written c fits) (Responds.short c' past) = absurd (omega (arith, ap length (conversation_same c c')))
  responds_same (Responds.short c past) (Responds.written c' fits) = absurd (omega (arith, ap length (conversation_same c c')))
  responds_same (Responds.short c past) (Responds.short c' past') = (ap (λ (answers : List ℕ). min (length answers) largest) (conversation_same c c'), refl)

-- Two numbers with a blank between them.
module _ (p code : ℕ) where
  blank_at : length_before 32 (decimal p ++ (32 ∷ decimal code)) ≡ length (decimal p)
  blank_at = before_all 32 (decimal p) (decimal code) (decimal_without 32 p refl)

  first_number : before_blank (decimal p ++ (32 ∷ decimal code)) ≡ decimal p
  first_number = rw blank_at (take-append_seam (decimal p) (32 ∷ decimal code))

  second_number : after_blank (decimal p ++ (32 ∷ decimal code)) ≡ decimal code
  second_number = rw blank_at (drop-append-add (decimal p) (32 ∷ decimal code) 1)

  both_read : p ≤ 4294967295 → code ≤ 4294967295 →
      redeclare_of (argument (before_blank (decimal p ++ (32 ∷ decimal code)))) (argument (after_blank (decimal p ++ (32 ∷ decimal code)))) ≡ Script.redeclare p code
  both_read h k = simp (first_number, second_number, number_of_decimal 4294967295 p h, number_of_decimal 4294967295 code k)

pub spelled_makes : (call : Call) → Spelled call → Makes (command_of (command_for call)) call
unfolding command_of
spelled_makes (add s) spelled = Makes.adds
spelled_makes (redeclare p code) spelled = rw (both_read p code spelled.0 spelled.1) Makes.redeclares
spelled_makes take_back spelled = Makes.takes_back
spelled_makes (infer buffer) spelled = Makes.infers spelled

-- A command that is spelled is one line.
spelled_line : (call : Call) → Spelled call → contains 10 (command_for call) ≡ false
spelled_line (add s) spelled = spelled
spelled_line (redeclare p code) spelled = without_both 10 (decimal p) (32 ∷ decimal code) (decimal_without 10 p refl) (decimal_without 10 code refl)
spelled_line take_back spelled = refl
spelled_line (infer buffer) spelled = refl

pub first_line : (s rest : List ℕ) → contains 10 s ≡ false → lines_of (s ++ (10 ∷ rest)) ≡ s ∷ lines_of rest
first_line [] rest h = refl
first_line (c ∷ cs) rest h = simp (first_other 10 c cs h) (ap (onto c) (first_line cs rest (rest_without 10 c cs h)))

pub script_lines : {calls : List Call} → All Spelled calls → lines_of (script_of calls) ≡ map command_for calls
script_lines All.[]ᴬ = refl
script_lines (All.◌∷ᴬ◌ {x = call} {xs = calls} spelled more) =
    first_line (command_for call) (script_of calls) (spelled_line call spelled) ∙ ap (λ (lines : List (List ℕ)). command_for call ∷ lines) (script_lines more)

-- Two calls of one command are alike.
makes_alike : {c : Command} {call call' : Call} → Makes c call → Makes c call' → Alike call call'
makes_alike Makes.adds Makes.adds = same_call
makes_alike Makes.redeclares Makes.redeclares = same_call
makes_alike Makes.takes_back Makes.takes_back = same_call
makes_alike (Makes.infers long) (Makes.infers long') = both_infer long long'

lines_alike : {m : Machine} {calls : List Call} {trace : List (Call × Outcome)} {answers : List ℕ} →
    All Spelled calls → Transcript m (map command_for calls) trace answers → InTurn Alike calls (calls_of trace)
lines_alike All.[]ᴬ Transcript.end = InTurn.none
lines_alike {m} (All.◌∷ᴬ◌ {x = call} spelled more) (Transcript.calls {call = call'} {o} makes rest) =
    InTurn.next (makes_alike (spelled_makes call spelled) makes) (lines_alike {m = standing m ((call', o) ∷ [])} more rest)
lines_alike (All.◌∷ᴬ◌ {x = call} spelled more) (Transcript.refuses e z rest) = absurd (not_schemes (spelled_makes call spelled) e)
lines_alike (All.◌∷ᴬ◌ {x = call} spelled more) (Transcript.runs e r rest) = absurd (not_run (spelled_makes call spelled) e)
lines_alike (All.◌∷ᴬ◌ {x = call} spelled more) (Transcript.passes e rest) = absurd (not_made (spelled_makes call spelled) e)

-- A call's line starts no other table.
spelled_stays : {calls : List Call} → All Spelled calls → All StaysOn (map command_for calls)
spelled_stays All.[]ᴬ = All.[]ᴬ
spelled_stays (All.◌∷ᴬ◌ {x = call} spelled more) = All.◌∷ᴬ◌ (λ file e z. not_schemes (spelled_makes call spelled) e) (spelled_stays more)

pub script_list : {calls : List Call} {answers : List ℕ} → All Spelled calls → Conversation (script_of calls) answers →
    (l : OneList (fresh_machine six_table) (map command_for calls) answers) × InTurn Alike calls (calls_of l.trace)
script_list {answers = answers} spelled c =
    let l = dialogue_list (spelled_stays spelled) (subst (λ (lines : List (List ℕ)). Dialogue (fresh_machine six_table) lines answers) (script_lines spelled) c.dialogue) in
    (l, lines_alike spelled l.transcript)

-- The calls of a list, line by line.
pub list_held : {m : Machine} (trace : List (Call × Outcome)) → All Spelled (calls_of trace) → Session m trace → Dialogue m (map command_for (calls_of trace)) (answers_of trace)
list_held [] All.[]ᴬ Session.done = Dialogue.end
list_held ((call, o) ∷ trace) (All.◌∷ᴬ◌ spelled more) (Session.next a session) = Dialogue.next (Replies.calls (spelled_makes call spelled) a) (list_held trace more session)

pub list_converses : {trace : List (Call × Outcome)} → All Spelled (calls_of trace) → Session (fresh_machine six_table) trace → Conversation (script_of (calls_of trace)) (answers_of trace)
list_converses {trace} spelled session =
    record { dialogue = subst (λ (lines : List (List ℕ)). Dialogue (fresh_machine six_table) lines (answers_of trace)) (sym (script_lines spelled)) (list_held trace spelled session) }
