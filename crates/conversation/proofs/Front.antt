-- The answer to a line of a script is decided by its first 730 bytes: a line of more is an add that is refused with 1, a scheme file that is refused with
-- 25, a run whose budget and 65 numbers stand in these bytes, or no command.
use Prim.Native.Nat.{ℕ, ◌≤◌, ◌<◌}
use native.Mathlib.Omega.{arith}
use native.Mathlib.Decide.{dec_le}
use mathlib.Core.Bool.{Bool, true, false, cond}
use mathlib.Core.List.{List, [], ◌∷◌}
use mathlib.Core.Path.{◌≡◌, refl, sym, ap, subst, subst₂, ◌∙◌}
use lib.ListN.{length, take, drop, length-take, length-drop, length-map}
use lib.Seq.{take_all, take-take}
use Rattle.std.specs.Prelude.{Option, Some, None}
use Rattle.model.specs.Lists.{same, length_before, bytes}
use Rattle.model.specs.Number.{decimal}
use Rattle.model.specs.Machine.{Machine, Change, settled, added}
use Rattle.model.specs.Report.{line}
use Rattle.model.specs.Session.{adds}
use Rattle.model.proofs.Lists.{same_length, before_most, drop-take}
use Rattle.model.proofs.Digits.{long_number}
use Rattle.model.proofs.LongFiles.{long_opened}
use Rattle.model.proofs.LongLines.{long_entered}
use Rattle.conversation.specs.Script.{Command, begins, before_blank, after_blank, argument, redeclare_of, file_in, front_words, arguments_of, run_with, run_of, command_of, Makes, restarted, Replies}
use Rattle.conversation.specs.Script as Script
use Rattle.conversation.proofs.Same.{Says, replies_say}
use Rattle.conversation.proofs.Words.{arguments_front}

-- A redeclare needs both of its numbers.
pub no_code : (p : Option ℕ) → redeclare_of p None ≡ Script.no_command
no_code (Some p) = refl
no_code None = refl

-- Of more than 21 bytes more than ten stand before the first blank or after it.
long_redeclare : (s : List ℕ) → 21 < length s → redeclare_of (argument (before_blank s)) (argument (after_blank s)) ≡ Script.no_command
long_redeclare s h = by (dec_le (length_before 32 s) 10)
  where
    by : Dec (length_before 32 s ≤ 10) → redeclare_of (argument (before_blank s)) (argument (after_blank s)) ≡ Script.no_command
    by (yes few) =
        let long : 10 < length (after_blank s) = simp length-drop (omega arith) in
        simp (long_number (after_blank s) long) (no_code (argument (before_blank s)))
    by (no many) =
        let within : length_before 32 s ≤ length s = before_most 32 s in
        let long : 10 < length (before_blank s) = simp length-take (omega arith) in
        simp (long_number (before_blank s) long)

-- So a line of more than 31 bytes is an add, a scheme file, a run or no command, by the words that it may begin with.
abbrev by_words : Bool → Bool → Bool → Bool → List ℕ → Command
by_words first second third fourth s =
    cond first (Script.add (drop 4 s)) (cond second Script.no_command (cond third (Script.schemes (file_in (drop 8 s))) (cond fourth (run_of (drop 4 s)) Script.no_command)))

no_other : (redeclares : Bool) (other : Command) {takes_back infers : Bool} {c : Command} → c ≡ Script.no_command → takes_back ≡ false → infers ≡ false →
    cond redeclares c (cond takes_back Script.take_back (cond infers Script.infer other)) ≡ cond redeclares Script.no_command other
no_other true other e f g = e
no_other false other e f g = simp (f, g)

long_command : (s : List ℕ) → 31 < length s →
    command_of s ≡ by_words (begins (bytes "add ") s) (begins (bytes "redeclare ") s) (begins (bytes "schemes ") s) (begins (bytes "run ") s) s
unfolding command_of
long_command s h =
    let taken : same s (bytes "take-back") ≡ false = sym (same_length s (bytes "take-back") λ e. omega arith) in
    let inferred : same s (bytes "infer") ≡ false = sym (same_length s (bytes "infer") λ e. omega arith) in
    let long : 21 < length (drop 10 s) = simp length-drop (omega arith) in
    ap (cond (begins (bytes "add ") s) (Script.add (drop 4 s))) (no_other (begins (bytes "redeclare ") s) _ (long_redeclare (drop 10 s) long) taken inferred)

begins_front : (word s : List ℕ) (n : ℕ) → length word ≤ n → begins word (take n s) ≡ begins word s
begins_front word s n h = ap (λ (t : List ℕ). same t word) (take-take (length word) n s h)

-- The words of the budget and of 65 numbers, of eleven bytes each with their blanks, stand after the first four.
run_front : (s : List ℕ) → run_of (drop 4 (take 730 s)) ≡ run_of (drop 4 s)
unfolding run_of
run_front s = ap (λ (rest : List ℕ). run_with (arguments_of (front_words 66 rest))) (drop-take 4 730 s) ∙ ap run_with (arguments_front 66 726 (drop 4 s) (omega arith))

-- An answer to a line is one to every line that is the same command.
replies_as : {m after : Machine} {s w : List ℕ} (t : List ℕ) → command_of s ≡ command_of t → Replies m s w after → Replies m t w after
replies_as t e (Replies.calls {call} makes a) = Replies.calls (subst (λ (c : Command). Makes c call) e makes) a
replies_as t e (Replies.restarts f) = Replies.restarts (sym e ∙ f)
replies_as t e (Replies.runs f d) = Replies.runs (sym e ∙ f) d
replies_as t e (Replies.passes f) = Replies.passes (sym e ∙ f)

-- The change of one line is that of another.
same_change : {m after : Machine} {t w : List ℕ} (c c' : Change) → c ≡ c' → (w ≡ line (decimal c.number ∷ [])) × (after ≡ c.machine) →
    Replies m t (line (decimal c'.number ∷ [])) c'.machine → Replies m t w after
same_change {m} {t = t} c c' e (f, g) r =
    subst₂ (Replies m t) (sym (f ∙ ap (λ (c : Change). line (decimal c.number ∷ [])) e)) (sym (g ∙ ap (λ (c : Change). c.machine) e)) r

long_restarted : (m : Machine) (file : List ℕ) → 112 < length file → restarted m file ≡ record { number = 25; machine = m }
unfolding settled
long_restarted m file h = ap (λ (c : Change). settled m c.number c.machine) (long_opened file h)

module _ {m after : Machine} {s w : List ℕ} (r : Replies m s w after) {t : List ℕ} (a b : List ℕ) where
  add_replies : command_of s ≡ Script.add a → command_of t ≡ Script.add b → 64 < length a → 64 < length b → Replies m t w after
  unfolding Says
  add_replies e f h k =
      same_change (added m a) (added m b) (long_entered m a h ∙ sym (long_entered m b k)) (replies_say (Script.add a) e r) (Replies.calls (rw f Makes.adds) adds)

  file_replies : command_of s ≡ Script.schemes a → command_of t ≡ Script.schemes b → 112 < length a → 112 < length b → Replies m t w after
  unfolding Says
  file_replies e f h k =
      same_change (restarted m a) (restarted m b) (long_restarted m a h ∙ sym (long_restarted m b k)) (replies_say (Script.schemes a) e r) (Replies.restarts f)

-- A long line and its front begin with the same words.
module _ (s : List ℕ) (long : 730 < length s) where
  abbrev front : List ℕ
  front = take 730 s

  front_long : length front ≡ 730
  front_long = simp length-take (omega arith)

  words_decide : {m after : Machine} {w : List ℕ} (first second third fourth : Bool) → command_of front ≡ by_words first second third fourth front → command_of s ≡ by_words first second third fourth s →
      Replies m front w after → Replies m s w after
  words_decide true second third fourth e f r =
      add_replies r (drop 4 front) (drop 4 s) e f (simp length-drop (omega (arith, front_long))) (simp length-drop (omega arith))
  words_decide false true third fourth e f r = replies_as s (e ∙ sym f) r
  words_decide false false true fourth e f r =
      file_replies r (file_in (drop 8 front)) (file_in (drop 8 s)) e f (simp (length-map, length-drop) (omega (arith, front_long))) (simp (length-map, length-drop) (omega arith))
  words_decide false false false true e f r = replies_as s (e ∙ run_front s ∙ sym f) r
  words_decide false false false false e f r = replies_as s (e ∙ sym f) r

  front_command : command_of front ≡ by_words (begins (bytes "add ") s) (begins (bytes "redeclare ") s) (begins (bytes "schemes ") s) (begins (bytes "run ") s) front
  front_command =
      let same : (word : List ℕ) → length word ≤ 10 → begins word front ≡ begins word s = λ word h. begins_front word s 730 (omega arith) in
      long_command front (omega (arith, front_long))
      ∙ rw (same (bytes "add ") (omega arith), same (bytes "redeclare ") (omega arith), same (bytes "schemes ") (omega arith), same (bytes "run ") (omega arith))

  long-front : {m after : Machine} {w : List ℕ} → Replies m front w after → Replies m s w after
  long-front r =
      words_decide (begins (bytes "add ") s) (begins (bytes "redeclare ") s) (begins (bytes "schemes ") s) (begins (bytes "run ") s) front_command (long_command s (omega arith)) r

pub reply_front : {m after : Machine} {s w : List ℕ} → Replies m (take 730 s) w after → Replies m s w after
reply_front {m} {after} {s} {w} r = by (dec_le (length s) 730)
  where
    by : Dec (length s ≤ 730) → Replies m s w after
    by (yes short) = rw (take_all 730 s short) at r
    by (no more) = long-front s (omega arith) r
