-- Each way out of `answer` is the answer to its line.
use Prim.Native.Nat.{ℕ, ◌-◌, ◌≤◌}
use native.Mathlib.Omega.{arith}
use mathlib.Core.List.{List, [], ◌∷◌, ◌++◌}
use mathlib.Core.Path.{◌≡◌, refl, sym, ap, subst, ◌∙◌}
use lib.ListN.{length, take, drop}
use Rattle.model.specs.Number.{decimal}
use Rattle.model.specs.Machine.{Machine, Change, added, redeclared, taken_back}
use Rattle.model.specs.Report.{line}
use Rattle.model.specs.Session.{Call, Outcome, returning, Answers}
use Rattle.model.specs.Session as Session
use Rattle.conversation.specs.Script.{file_in, run_of, command_of, Makes, answer, restarted, unknown, Replies}
use Rattle.conversation.specs.Script as Script
use Rattle.model.proofs.Numbers.{added_most, redeclared_most, taken_back_most}
use Rattle.conversation.proofs.Numbers.{restarted_most}
use Rattle.table.specs.Lists.{lists, change}
use Rattle.table.specs.Called.{Called}
use Rattle.table.specs.declared.Table.{Table}
use Rattle.table.specs.declared.Answered.{Answered}
use Rattle.table.specs.Ready.{Ready}
use Rattle.table.proofs.Follows.{call_follows, call_ready}
use Rattle.report.specs.Writing.{Room, Wrote, Front}
use Rattle.report.proofs.Fronts.{front_written, number_room}
use Rattle.inference.specs.Printed.{Printed}
use Rattle.command.specs.Said.{said, word_length}
use Rattle.command.specs.declared.Command.{Command}
use Rattle.command.specs.declared.Command.TheVariants.{Add, Redeclare, TakeBack, Infer, Schemes, Run, Nothing}
use Rattle.command.proofs.Reading.{rest-is}
use Rattle.script.specs.Turns.{Replied, Told}
use Rattle.script.specs.declared.Turn.{Turn}

-- A turn with the table and the length of the answer.
abbrev turn : Table → ℕ → Turn
turn table size = record { table = table; size = size }

-- A command's call was answered, and the answer stands at the front of the buffer.
replied : {m : Machine} {s buffer : List ℕ} (table : Table) (size : ℕ) {call : Call} {o : Outcome} → Ready table → Makes (command_of s) call → Answers m call o (lists table) →
    Front (answer call o) buffer size → Replied m s buffer (turn table size)
replied {m} {s} {buffer} table size ready makes a front =
    record {
      replies = subst (λ (text : List ℕ). Replies m s text (lists table)) (sym front.bytes) (Replies.calls makes a);
      ready = ready;
      fits = front.fits;
    }

-- A line is as long as the word of the command that it was found to be.
pub word_within : (s : List ℕ) {c c' : Command} → word_length c ≤ length s → c ≡ c' → word_length c' ≤ length s
word_within s within e = subst (λ (c : Command). word_length c ≤ length s) e within

module _ (t : Table) (s buffer : List ℕ) (ready : Ready t) (c : Command) (reads : said c s ≡ command_of s) where
  -- The line that was read is a command that makes the call.
  makes_as : {call : Call} (c' : Command) → c ≡ c' → Makes (said c' s) call → Makes (command_of s) call
  makes_as {call} c' e makes = subst (λ (x : Script.Command). Makes x call) (ap (λ (x : Command). said x s) (sym e) ∙ reads) makes

  -- The number of a call stands at the front of the buffer, and the turn keeps its table.
  module _ (r : Answered) (o : Turn) (kept : o.table ≡ r.table) (front : Front (line (decimal r.number ∷ [])) buffer o.size) where
    call_replied : {call : Call} → Makes (command_of s) call → Called t call r → answer call (returning r.number) ≡ line (decimal r.number ∷ []) →
        Replied (lists t) s buffer o
    call_replied makes called is =
        subst (λ (after : Table). Replied (lists t) s buffer (turn after o.size)) (sym kept)
        (replied r.table o.size (call_ready ready called) makes (call_follows called) (subst (λ (text : List ℕ). Front text buffer o.size) (sym is) front))

    pub add_replied : c ≡ Add → (change r ≡ added (lists t) (take (length s - 4) (drop 4 s))) × (r.table.schemes ≡ t.schemes) → Replied (lists t) s buffer o
    unfolding said
    add_replied e is = call_replied (makes_as Add e Makes.adds) (Called.adds (is.0 ∙ ap (added (lists t)) (rest-is 4 s)) is.1) refl

    pub redeclare_replied : (p code : ℕ) → c ≡ Redeclare p code → (change r ≡ redeclared (lists t) p code) × (r.table.schemes ≡ t.schemes) → Replied (lists t) s buffer o
    unfolding said
    redeclare_replied p code e is = call_replied (makes_as (Redeclare p code) e Makes.redeclares) (Called.redeclares is.0 is.1) refl

    pub take_back_replied : c ≡ TakeBack → (change r ≡ taken_back (lists t)) × (r.table.schemes ≡ t.schemes) → Replied (lists t) s buffer o
    unfolding said
    take_back_replied e is = call_replied (makes_as TakeBack e Makes.takes_back) (Called.takes_back is.0 is.1) refl

    pub restart_replied : c ≡ Schemes → (change r ≡ restarted (lists t) (file_in (take (length s - 8) (drop 8 s)))) × Ready r.table → Replied (lists t) s buffer o
    unfolding said
    restart_replied e is =
        let whole : change r ≡ restarted (lists t) (file_in (drop 8 s)) = is.0 ∙ ap (λ (rest : List ℕ). restarted (lists t) (file_in rest)) (rest-is 8 s) in
        let file = file_in (drop 8 s) in
        let replies : Replies (lists t) s (line (decimal (restarted (lists t) file).number ∷ [])) (restarted (lists t) file).machine = Replies.restarts (sym reads ∙ ap (λ (x : Command). said x s) e) in
        subst (λ (after : Table). Replied (lists t) s buffer (turn after o.size)) (sym kept)
        record {
          replies = subst (λ (text : List ℕ). Replies (lists t) s text (lists r.table)) (sym front.bytes) (subst (λ (after : Change). Replies (lists t) s (line (decimal after.number ∷ [])) after.machine) (sym whole) replies);
          ready = is.1;
          fits = front.fits;
        }

  -- A turn that leaves the table.
  module _ (size : ℕ) (r : Turn) (left : r ≡ turn t size) where
    stays : Replied (lists t) s buffer (turn t size) → Replied (lists t) s buffer r
    stays told = subst (Replied (lists t) s buffer) (sym left) told

    pub infer_replied : (before : List ℕ) → 6280 ≤ length before → c ≡ Infer → Printed (lists t) before buffer size → Replied (lists t) s buffer r
    unfolding said
    infer_replied before long e printed = stays (replied t size ready (makes_as Infer e (Makes.infers long)) (Session.infers printed.infers) printed.front)

    pub run_replied : c ≡ Run → Told (lists t) (run_of (take (length s - 4) (drop 4 s))) buffer size → Replied (lists t) s buffer r
    unfolding said
    run_replied e told =
        stays
        (record {
          replies = told.replies s (sym reads ∙ ap (λ (x : Command). said x s) e ∙ ap run_of (sym (rest-is 4 s)));
          ready = ready;
          fits = told.fits;
        })

    pub unknown_replied : c ≡ Nothing → Front unknown buffer size → Replied (lists t) s buffer r
    unfolding said
    unknown_replied e front =
        stays
        (record {
          replies = subst (λ (text : List ℕ). Replies (lists t) s text (lists t)) (sym front.bytes) (Replies.passes (sym reads ∙ ap (λ (x : Command). said x s) e));
          ready = ready;
          fits = front.fits;
        })

-- No number is above 27.
module _ (t : Table) (r : Answered) where
  pub add_small : (s : List ℕ) → change r ≡ added (lists t) s → r.number ≤ 27
  add_small s is = subst (λ (c : Change). c.number ≤ 27) (sym is) (omega (arith, added_most (lists t) s))

  pub redeclare_small : (p code : ℕ) → change r ≡ redeclared (lists t) p code → r.number ≤ 27
  redeclare_small p code is = subst (λ (c : Change). c.number ≤ 27) (sym is) (omega (arith, redeclared_most (lists t) p code))

  pub take_back_small : change r ≡ taken_back (lists t) → r.number ≤ 27
  take_back_small is = subst (λ (c : Change). c.number ≤ 27) (sym is) (omega (arith, taken_back_most (lists t)))

  pub restart_small : (file : List ℕ) → change r ≡ restarted (lists t) file → r.number ≤ 27
  restart_small file is = subst (λ (c : Change). c.number ≤ 27) (sym is) (restarted_most (lists t) file)

pub small_room : (buffer : List ℕ) (n : ℕ) → n ≤ 27 → 6280 ≤ length buffer → Room buffer 0 (decimal n ++ (10 ∷ []))
small_room buffer n h long = number_room buffer n (omega arith) long

pub number_front : (buffer after : List ℕ) (n size : ℕ) → n ≤ 27 → 6280 ≤ length buffer → Wrote buffer 0 (decimal n ++ (10 ∷ [])) after size → Front (line (decimal n ∷ [])) after size
unfolding line
number_front buffer after n size h long wrote = front_written (decimal n ++ (10 ∷ [])) buffer after size (small_room buffer n h long) wrote

-- A question mark and a line feed.
pub unknown_front : (buffer after : List ℕ) (size : ℕ) → 6280 ≤ length buffer → Wrote buffer 0 (63 ∷ 10 ∷ []) after size → Front unknown after size
unfolding line
unknown_front buffer after size long wrote = front_written (63 ∷ 10 ∷ []) buffer after size (record { fits = omega arith }) wrote
