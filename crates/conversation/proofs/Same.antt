-- The answers to a script are a function of the script: an infer's buffer does not matter once it is long enough, and a dry run has one outcome.
use Prim.Native.Nat.{ℕ, ◌≤◌}
use native.Mathlib.Omega.{arith}
use mathlib.Core.List.{List, [], ◌∷◌, ◌++◌}
use mathlib.Core.Path.{◌≡◌, refl, sym, ap, ap₂, subst, ◌∙◌}
use lib.ListN.{length}
use lib.Seq.{take-append_seam}
use borrow.Author.Tests.{ne_eqb}
use Rattle.scheme.specs.Schemes.{Sound}
use Rattle.scheme.specs.Six.{six_table}
use Rattle.scheme.proofs.Six.{six_sound}
use Rattle.model.specs.Lists.{bytes}
use Rattle.model.specs.Number.{decimal}
use Rattle.model.specs.Machine.{Machine, added, redeclared, taken_back}
use Rattle.model.specs.SchemeFile.{opened_with, opened}
use Rattle.model.specs.WellFormed.{WellFormed}
use Rattle.model.specs.Inference.{ruling}
use Rattle.model.specs.Report.{line, report}
use Rattle.model.specs.Session.{Call, Outcome, Infers, short, refused, accepted, Answers, adds, redeclares, takes_back, infers}
use Rattle.model.specs.Text.{shown}
use Rattle.model.proofs.Lawful.{sound_lawful}
use Rattle.model.proofs.Checks.{settled_keeps}
use Rattle.model.proofs.Opened.{opened_sound}
use Rattle.model.proofs.Unique.{judged_same, judged_accepted, word_same, shapes_same, report_same}
use Rattle.table.proofs.WellFormed.{fresh_well_formed, answers_well_formed}
use Rattle.dryrun.specs.Run.{DryRuns}
use Rattle.dryrun.specs.Run as Run
use Rattle.dryrun.proofs.Same.{dry_runs_same}
use Rattle.conversation.specs.Script.{Command, command_of, Makes, answer, restarted, ran_line, unknown, Replies, Dialogue, Conversation}
use Rattle.conversation.specs.Script as Script

-- What is printed of a refusal.
shown_refused : (number row size : ℕ) (buffer : List ℕ) → ¬ (number ≡ 0) →
    shown (record { number = number; row = row; size = size; buffer = buffer }) ≡ line (bytes "NO" ∷ decimal number ∷ decimal row ∷ [])
shown_refused number row size buffer z = simp (ne_eqb number 0 z)

-- Two infer calls on one machine, each with a buffer that is long enough, print the same.
pub shown-same : {m : Machine} {buffer buffer' : List ℕ} {o o' : Outcome} → Sound m.schemes → 6280 ≤ length buffer → 6280 ≤ length buffer' →
    Infers m buffer o → Infers m buffer' o' → shown o ≡ shown o'
shown-same sound long long' (short h) i' = absurd (omega arith)
shown-same sound long long' (refused h j n) (short h') = absurd (omega arith)
shown-same {m} {buffer} {buffer'} sound long long' (refused {number} {k} h j n) (refused {number = number'} {k = k'} h' j' n') =
    let e = judged_same (ruling m) (sound_lawful m.schemes sound) m j j' in
    shown_refused number k 0 buffer n ∙ ap₂ (λ (a b : ℕ). line (bytes "NO" ∷ decimal a ∷ decimal b ∷ [])) e.0 e.1 ∙ sym (shown_refused number' k' 0 buffer' n')
shown-same {m} sound long long' (refused h j n) (accepted h' j') = absurd (n (judged_same (ruling m) (sound_lawful m.schemes sound) m j j').0)
shown-same sound long long' (accepted h j) (short h') = absurd (omega arith)
shown-same {m} sound long long' (accepted h j) (refused h' j' n) = absurd (n (judged_same (ruling m) (sound_lawful m.schemes sound) m j' j).0)
shown-same {m} {buffer} {buffer'} sound long long' (accepted {word} {shape} h j) (accepted {word = word'} {shape = shape'} h' j') =
    let a = judged_accepted j refl in
    let a' = judged_accepted j' refl in
    take-append_seam (report m word shape) _ ∙ report_same m (word_same (ruling m) (sound_lawful m.schemes sound) m a a') (shapes_same (ruling m) (sound_lawful m.schemes sound) m a a') ∙ sym (take-append_seam (report m word' shape') _)

-- What is answered to a line, and the machine after it, by cases of its command.
unfoldable pub Says : Machine → Command → List ℕ → Machine → Type 0
Says m (Script.add s) w after = (w ≡ line (decimal (added m s).number ∷ [])) × (after ≡ (added m s).machine)
Says m (Script.redeclare p code) w after = (w ≡ line (decimal (redeclared m p code).number ∷ [])) × (after ≡ (redeclared m p code).machine)
Says m Script.take_back w after = (w ≡ line (decimal (taken_back m).number ∷ [])) × (after ≡ (taken_back m).machine)
Says m Script.infer w after = (buffer : List ℕ) × (o : Outcome) × (6280 ≤ length buffer) × Infers m buffer o × (w ≡ shown o) × (after ≡ m)
Says m (Script.schemes file) w after = (w ≡ line (decimal (restarted m file).number ∷ [])) × (after ≡ (restarted m file).machine)
Says m (Script.run budget numbers) w after = (o : Run.Outcome) × DryRuns m numbers budget o × (w ≡ ran_line m o) × (after ≡ m)
Says m Script.no_command w after = (w ≡ unknown) × (after ≡ m)

-- The same of each call, where the call is known first.
add_says : (m : Machine) (s : List ℕ) {o : Outcome} {after : Machine} → Answers m (Call.add s) o after → Says m (Script.add s) (answer (Call.add s) o) after
unfolding Says
add_says m s adds = (refl, refl)

redeclare_says : (m : Machine) (p code : ℕ) {o : Outcome} {after : Machine} → Answers m (Call.redeclare p code) o after →
    Says m (Script.redeclare p code) (answer (Call.redeclare p code) o) after
unfolding Says
redeclare_says m p code redeclares = (refl, refl)

take_back_says : (m : Machine) {o : Outcome} {after : Machine} → Answers m Call.take_back o after → Says m Script.take_back (answer Call.take_back o) after
unfolding Says
take_back_says m takes_back = (refl, refl)

infer_says : (m : Machine) (buffer : List ℕ) {o : Outcome} {after : Machine} → 6280 ≤ length buffer → Answers m (Call.infer buffer) o after →
    Says m Script.infer (answer (Call.infer buffer) o) after
unfolding Says
infer_says m buffer long (infers i) = (_, _, long, i, refl, refl)

call_says : {m after : Machine} {c : Command} {call : Call} {o : Outcome} → Makes c call → Answers m call o after → Says m c (answer call o) after
unfolding Says
call_says {m} (Makes.adds {s}) h = add_says m s h
call_says {m} (Makes.redeclares {p} {code}) h = redeclare_says m p code h
call_says {m} Makes.takes_back h = take_back_says m h
call_says {m} (Makes.infers {buffer} long) h = infer_says m buffer long h

says_as : (m : Machine) (w : List ℕ) (after : Machine) {c c' : Command} → c ≡ c' → Says m c w after → Says m c' w after
says_as m w after e says = subst (λ (c : Command). Says m c w after) e says

pub replies_say : {m after : Machine} {s w : List ℕ} (c : Command) → command_of s ≡ c → Replies m s w after → Says m c w after
unfolding Says
replies_say {m} c is (Replies.calls makes a) = says_as m _ _ is (call_says makes a)
replies_say {m} c is (Replies.restarts e) = says_as m _ _ (sym e ∙ is) (refl, refl)
replies_say {m} c is (Replies.runs e d) = says_as m _ _ (sym e ∙ is) (_, d, refl, refl)
replies_say {m} c is (Replies.passes e) = says_as m _ _ (sym e ∙ is) (refl, refl)

-- So no line has two answers.
module _ {m : Machine} (stands : WellFormed m) {w w' : List ℕ} {after after' : Machine} where
  says_same : (c : Command) → Says m c w after → Says m c w' after' → (w ≡ w') × (after ≡ after')
  unfolding Says
  says_same (Script.add s) (e, f) (e', f') = (e ∙ sym e', f ∙ sym f')
  says_same (Script.redeclare p code) (e, f) (e', f') = (e ∙ sym e', f ∙ sym f')
  says_same Script.take_back (e, f) (e', f') = (e ∙ sym e', f ∙ sym f')
  says_same Script.infer (buffer, o, long, i, e, f) (buffer', o', long', i', e', f') = (e ∙ shown-same stands.schemes_sound long long' i i' ∙ sym e', f ∙ sym f')
  says_same (Script.schemes file) (e, f) (e', f') = (e ∙ sym e', f ∙ sym f')
  says_same (Script.run budget numbers) (o, d, e, f) (o', d', e', f') = (e ∙ ap (ran_line m) (dry_runs_same m stands numbers budget d d') ∙ sym e', f ∙ sym f')
  says_same Script.no_command (e, f) (e', f') = (e ∙ sym e', f ∙ sym f')

  pub replies_same : {s : List ℕ} → Replies m s w after → Replies m s w' after' → (w ≡ w') × (after ≡ after')
  replies_same {s} r r' = says_same (command_of s) (replies_say (command_of s) refl r) (replies_say (command_of s) refl r')

-- A command that makes a call is one of four.
IsCall : Command → Type 0
IsCall (Script.add s) = Unit {0}
IsCall (Script.redeclare p code) = Unit {0}
IsCall Script.take_back = Unit {0}
IsCall Script.infer = Unit {0}
IsCall (Script.schemes file) = ⊥
IsCall (Script.run budget numbers) = ⊥
IsCall Script.no_command = ⊥

is_call : {c : Command} {call : Call} → Makes c call → IsCall c
unfolding IsCall
is_call Makes.adds = tt
is_call Makes.redeclares = tt
is_call Makes.takes_back = tt
is_call (Makes.infers long) = tt

module _ {c : Command} {call : Call} (makes : Makes c call) where
  pub not_made : c ≡ Script.no_command → ⊥
  unfolding IsCall
  not_made e = subst IsCall e (is_call makes)

  pub not_schemes : {file : List ℕ} → c ≡ Script.schemes file → ⊥
  unfolding IsCall
  not_schemes e = subst IsCall e (is_call makes)

  pub not_run : {budget : ℕ} {numbers : List ℕ} → c ≡ Script.run budget numbers → ⊥
  unfolding IsCall
  not_run e = subst IsCall e (is_call makes)

-- The machine after a line is well-formed again: a restart leaves a fresh one of an accepted file.
opened_well_formed : (file : List ℕ) → WellFormed (opened file).machine
unfolding opened_with
opened_well_formed file = fresh_well_formed (opened file).machine.schemes (opened_sound file)

pub replies_well_formed : {m after : Machine} {s w : List ℕ} → WellFormed m → Replies m s w after → WellFormed after
replies_well_formed {m} stands (Replies.calls makes a) = answers_well_formed m stands a
replies_well_formed {m} stands (Replies.restarts {file} e) = settled_keeps WellFormed m (opened file).number (opened file).machine stands (λ z. opened_well_formed file)
replies_well_formed stands (Replies.runs e d) = stands
replies_well_formed stands (Replies.passes e) = stands

pub dialogue_same : {m : Machine} {lines : List (List ℕ)} {answers answers' : List ℕ} → WellFormed m → Dialogue m lines answers → Dialogue m lines answers' → answers ≡ answers'
dialogue_same stands Dialogue.end Dialogue.end = refl
dialogue_same stands (Dialogue.next {reply} {rest} {answers} r d) (Dialogue.next {reply = reply'} {answers = answers'} r' d') =
    let same = replies_same stands r r' in
    let later = dialogue_same (replies_well_formed stands r) d (subst (λ (m : Machine). Dialogue m rest answers') (sym same.1) d') in
    ap₂ (λ (a b : List ℕ). a ++ b) same.0 later

pub conversation_same : {script answers answers' : List ℕ} → Conversation script answers → Conversation script answers' → answers ≡ answers'
conversation_same c c' = dialogue_same (fresh_well_formed six_table six_sound) c.dialogue c'.dialogue
