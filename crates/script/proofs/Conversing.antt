-- A whole script: the answers so far and those to the lines that are left are the answers to all lines; each turn leaves fewer bytes.
use Prim.Native.Nat.{ℕ, ◌+◌, ◌-◌, ◌*◌, ◌^◌, ◌≤◌, ◌<◌, min}
use native.Mathlib.Omega.{arith}
use mathlib.Core.Bool.{true, false}
use mathlib.Core.List.{List, [], ◌++◌, append_assoc, append-nil}
use mathlib.Core.Path.{◌≡◌, refl, sym, ap, subst, subst₂, ◌∙◌}
use lib.Dec.{leb}
use lib.ListN.{length, take, drop, length-append, length-take, drop_of_length-le}
use lib.Seq.{sets, sets-eq, length-sets}
use borrow.Author.Tests.{le-leb, lt-leb}
use Rattle.scheme.specs.Six.{six_table}
use Rattle.schemes.specs.Schemes.{Kept}
use Rattle.model.specs.Machine.{Machine, fresh_machine}
use Rattle.model.specs.Text.{lines_of}
use Rattle.conversation.specs.Script.{Dialogue, largest, Responds}
use Rattle.conversation.proofs.Same.{conversation_same}
use Rattle.table.specs.Lists.{lists}
use Rattle.table.specs.declared.Table.{Table}
use Rattle.table.specs.Ready.{Ready}
use Rattle.table.proofs.Follows.{fresh_ready}
use Rattle.lines.specs.Lines.{line_length}
use Rattle.lines.proofs.Lines.{line_part}
use Rattle.report.specs.Writing.{Room, Wrote}
use Rattle.report.proofs.Writing.{sets_append}
use Rattle.script.specs.Turns.{Replied, Put, AnsweredAt, Tried}
use Rattle.script.specs.declared.Turn.{Turn}

-- The sum of two lengths, where it is not too large.
pub total-is : (a b : ℕ) → b ≤ 18446744073709551615 - a → a ≤ 18446744073709551615 → a + b ≡ min (a + b) largest
total-is a b h i = omega arith

pub total_most : (a b : ℕ) → 18446744073709551615 - a < b → 18446744073709551615 ≡ min (a + b) largest
total_most a b h = omega arith

-- The bytes were written where there was room for them.
module _ (before bytes : List ℕ) (at sum : ℕ) (room : length before * 1 < 2 ^ 63) (is : sum ≡ min (at + length bytes) largest) where
  pub put_room : sum ≤ length before → Room before at bytes
  put_room h = record { fits = omega arith }

  pub put_all : (after : List ℕ) (n : ℕ) → sum ≤ length before → Wrote before at bytes after n → Put before at bytes after
  put_all after n h wrote =
      let all : leb (at + length bytes) (length before) ≡ true = le-leb (at + length bytes) (length before) (omega arith) in
      wrote.bytes ∙ simp all

  pub put_none : length before < sum → Put before at bytes before
  put_none h =
      let none : leb (at + length bytes) (length before) ≡ false = lt-leb (at + length bytes) (length before) (omega arith) in
      simp none

-- One answer, at its place.
pub answered_at : (m : Machine) (s buffer before after : List ℕ) (at sum : ℕ) (r : Turn) → Replied m s buffer r → sum ≡ min (at + r.size) largest →
    Put before at (take r.size buffer) after → AnsweredAt m s at before after (record { table = r.table; size = sum })
answered_at m s buffer before after at sum r replied is put =
    record {
      answer = take r.size buffer;
      replies = replied.replies;
      ready = replied.ready;
      counted = is ∙ ap (λ (n : ℕ). min (at + n) largest) (sym size);
      written = λ h. put ∙ simp (le-leb (at + length (take r.size buffer)) (length before) h);
    }
  where
    size : length (take r.size buffer) ≡ r.size
    size = simp length-take (omega (arith, replied.fits))

-- Before the line that starts at `from`.
pub record Left (script before now : List ℕ) (table : Table) (from at : ℕ) : Type 0 where
  pub answers : List ℕ
  pub rest : (others : List ℕ) → Dialogue (lists table) (lines_of (drop from script)) others → Dialogue (fresh_machine six_table) (lines_of script) (answers ++ others)
  pub ready : Ready table
  pub counted : at ≡ min (length answers) largest
  pub written : length answers ≤ length before → now ≡ sets before 0 answers

pub all_left : (script before : List ℕ) (table : Table) → (lists table ≡ fresh_machine six_table) × Kept table.schemes → Left script before before table 0 0
all_left script before table (fresh, kept) =
    record {
      answers = [];
      rest = λ others left. subst (λ (m : Machine). Dialogue m (lines_of script) others) fresh left;
      ready = fresh_ready six_table fresh kept;
      counted = omega arith;
      written = λ h. refl;
    }

module _ (script before now after : List ℕ) (table : Table) (from to at : ℕ) (r : Turn) (left : Left script before now table from at) where
  pub line_answered : from < length script → to ≡ from + line_length (drop from script) → length before * 1 < 2 ^ 63 →
      AnsweredAt (lists table) (take (to - from) (drop from script)) at now after r → Left script before after r.table (to + 1) r.size
  line_answered h is room answered =
      let both : length (left.answers ++ answered.answer) ≡ length left.answers + length answered.answer = length-append left.answers answered.answer in
      record {
        answers = left.answers ++ answered.answer;
        rest = λ others later.
            rw append_assoc
            (left.rest (answered.answer ++ others)
            (subst (λ (lines : List (List ℕ)). Dialogue (lists table) lines (answered.answer ++ others)) (sym (line_part script from to h is)) (Dialogue.next answered.replies later)));
        ready = answered.ready;
        counted = omega (arith, answered.counted, left.counted, both);
        written = λ fits.
            let front : now ≡ sets before 0 left.answers = left.written (omega arith) in
            let place : at ≡ 0 + length left.answers = omega (arith, left.counted) in
            let same : length now ≡ length before = ap length front ∙ length-sets before 0 left.answers in
            answered.written (omega arith) ∙ rw (front, place) (sym (sets_append left.answers answered.answer before 0));
      }

pub none_left : (script before now : List ℕ) (table : Table) (from at : ℕ) → Left script before now table from at → length script ≤ from → Tried script before now at
none_left script before now table from at left h =
    record {
      answers = left.answers;
      conversation = record { dialogue = rw append-nil at (left.rest [] (rw (drop_of_length-le script h) Dialogue.end)) };
      counted = left.counted;
      written = left.written;
    }

-- The length was counted first. Where there is room for it the second run writes the same answers.
module _ (script output : List ℕ) (size : ℕ) (nothing nothing' : List ℕ) (first : Tried script nothing nothing' size) (room : length output * 1 < 2 ^ 63) where
  pub respond_written : (after : List ℕ) (n : ℕ) → size ≤ length output → Tried script output after n → Responds script output n after
  respond_written after n fits second =
      let same : first.answers ≡ second.answers = conversation_same first.conversation second.conversation in
      let few : length second.answers ≡ size = omega (arith, first.counted, ap length same) in
      let number : length second.answers ≡ n = omega (arith, second.counted) in
      let start : 0 + length second.answers ≡ length second.answers = omega arith in
      let bytes : after ≡ second.answers ++ drop (length second.answers) output = second.written (omega arith) ∙ sets-eq second.answers output 0 (omega arith) ∙ ap (λ (k : ℕ). second.answers ++ drop k output) start in
      subst₂ (Responds script output) number (sym bytes) (Responds.written second.conversation (omega arith))

  pub respond_short : length output < size → Responds script output size output
  respond_short h =
      subst (λ (k : ℕ). Responds script output k output) (sym first.counted) (Responds.short first.conversation (omega (arith, first.counted)))

pub ruleset turns = (total-is, total_most, put_room, put_all, put_none, answered_at, all_left, line_answered, none_left)
