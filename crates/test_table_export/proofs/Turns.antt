-- The turns of the loops. Each invariant says that what is left to do, done on what stands, is the whole done on what stood at first.
use Prim.Native.Nat.{ℕ, suc, ◌+◌, ◌-◌, ◌*◌, ◌/◌, ◌≤◌, ◌<◌, min}
use native.Mathlib.Numerals.{add-one}
use native.Mathlib.Omega.{arith}
use mathlib.Core.List.{List}
use mathlib.Core.Path.{◌≡◌, ap, sym, ◌∙◌}
use lib.ListN.{length, take, drop, set, length-take, length-drop}
use lib.Seq.{sets}
use borrow.Author.Tests.{lt-ltb, le-ltb}
use Rattle.scheme.specs.Six.{six_table}
use Rattle.model.specs.Machine.{Machine, Change, fresh_machine}
use Rattle.table.specs.Lists.{lists, change}
use Rattle.table.specs.declared.Table.{Table}
use Rattle.table.specs.declared.Answered.{Answered}
use Rattle.test_table_export.specs.Script.{call_of, calls_from, answer_of, numbers_of, machine_after, sizes}
use Rattle.test_table_export.specs.Dump.{entry_at, dumped_from, dumped}

-- One entry is written.
pub entry_written : (m : Machine) (k : ℕ) (entries whole bytes after : List ℕ) → k < 384 → dumped_from m k (384 - k) entries ≡ whole → bytes ≡ entry_at m k →
    after ≡ sets entries (k * 10) bytes → dumped_from m (k + 1) (384 - (k + 1)) after ≡ whole
unfolding dumped_from
entry_written m k entries whole bytes after h left is stored =
    let more : 384 - k ≡ suc (384 - (k + 1)) = omega arith in
    rw (stored, is) (sym (ap (λ (n : ℕ). dumped_from m k n entries) more) ∙ left)

pub entries_written : (m : Machine) (k : ℕ) (entries whole : List ℕ) → 384 ≤ k → dumped_from m k (384 - k) entries ≡ whole → entries ≡ whole
unfolding dumped_from
entries_written m k entries whole h left =
    let none : 384 - k ≡ 0 = omega arith in
    sym (ap (λ (n : ℕ). dumped_from m k n entries) none) ∙ left

-- The bytes of one call.
module _ (script : List ℕ) (i : ℕ) where
  same_part : take (i * 72 + 72 - i * 72) (drop (i * 72) script) ≡ take 72 (drop (i * 72) script)
  same_part = let size : i * 72 + 72 - i * 72 ≡ 72 = omega arith in rw size

  pub part_whole : (calls room : ℕ) → calls ≡ min (length script / 72) room → i < calls → length (take (i * 72 + 72 - i * 72) (drop (i * 72) script)) ≡ 72
  part_whole calls room count h = simp (length-take, length-drop) (omega arith)

-- Before the first call.
module _ (script : List ℕ) (table : Table) (calls : ℕ) (fresh : lists table ≡ fresh_machine six_table) where
  all_left : calls - 0 ≡ calls
  all_left = omega arith

  pub machine_starts : machine_after (lists table) (calls_from script 0 (calls - 0)) ≡ machine_after (fresh_machine six_table) (calls_from script 0 calls)
  machine_starts = rw (fresh, all_left)

  pub numbers_start : (numbers : List ℕ) → sets numbers 0 (numbers_of (lists table) (calls_from script 0 (calls - 0))) ≡ sets numbers 0 (numbers_of (fresh_machine six_table) (calls_from script 0 calls))
  numbers_start numbers = rw (fresh, all_left)

-- One call is answered.
module _ (script : List ℕ) (table : Table) (calls i : ℕ) (numbers whole : List ℕ) (last : Machine)
    (left : machine_after (lists table) (calls_from script i (calls - i)) ≡ last) (write : sets numbers i (numbers_of (lists table) (calls_from script i (calls - i))) ≡ whole) where
  more : i < calls → calls - i ≡ suc (calls - (i + 1))
  more h = omega arith

  module _ (h : i < calls) (r : Answered) (said : change r ≡ answer_of (lists table) (call_of (take (i * 72 + 72 - i * 72) (drop (i * 72) script)))) where
    is : change r ≡ answer_of (lists table) (call_of (take 72 (drop (i * 72) script)))
    is = said ∙ ap (λ (s : List ℕ). answer_of (lists table) (call_of s)) (same_part script i)

    pub call_left : machine_after (lists r.table) (calls_from script (i + 1) (calls - (i + 1))) ≡ last
    call_left =
        ap (λ (c : Change). machine_after c.machine (calls_from script (i + 1) (calls - (i + 1)))) is
        ∙ sym (ap (λ (n : ℕ). machine_after (lists table) (calls_from script i n)) (more h))
        ∙ left

    pub number_left : sets (set numbers i r.number) (i + 1) (numbers_of (lists r.table) (calls_from script (i + 1) (calls - (i + 1)))) ≡ whole
    number_left =
        ap (λ (c : Change). sets (set numbers i c.number) (i + 1) (numbers_of c.machine (calls_from script (i + 1) (calls - (i + 1))))) is
        ∙ ap (λ (n : ℕ). sets (set numbers i (answer_of (lists table) (call_of (take 72 (drop (i * 72) script)))).number) n (numbers_of (answer_of (lists table) (call_of (take 72 (drop (i * 72) script)))).machine (calls_from script (i + 1) (calls - (i + 1))))) (add-one i)
        ∙ sym (ap (λ (n : ℕ). sets numbers i (numbers_of (lists table) (calls_from script i n))) (more h))
        ∙ write

  pub calls_done : calls ≤ i → (lists table ≡ last) × (numbers ≡ whole)
  calls_done h =
      let none : calls - i ≡ 0 = omega arith in (
        sym (ap (λ (n : ℕ). machine_after (lists table) (calls_from script i n)) none) ∙ left,
        sym (ap (λ (n : ℕ). sets numbers i (numbers_of (lists table) (calls_from script i n))) none) ∙ write,
      )

-- All entries, where there is room for them.
pub no_room : (m : Machine) (l : List ℕ) → length l < 3840 → l ≡ dumped m l
unfolding dumped
no_room m l h = rw (lt-ltb (length l) 3840 h)

pub all_entries : (m : Machine) (l : List ℕ) → 3840 ≤ length l → dumped_from m 0 384 l ≡ dumped m l
unfolding dumped
all_entries m l h = rw (le-ltb (length l) 3840 h)

-- The three lengths in one number.
pub sizes_are : (t : Table) (m : Machine) (a b d : ℕ) → lists t ≡ m → a ≡ length (lists t).types → b ≡ length (lists t).params → d ≡ length (lists t).terms → a + b * 256 + d * 65536 ≡ sizes m
sizes_are t m a b d e is_a is_b is-d = cc
