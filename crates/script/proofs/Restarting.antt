-- A scheme file that stands on one line: its front is copied with line feeds, and decides what the command leaves.
use Prim.Native.Nat.{ℕ, ◌+◌, ◌<◌, min}
use native.Mathlib.Numerals.{add-one}
use native.Mathlib.Omega.{arith}
use mathlib.Core.Bool.{cond}
use mathlib.Core.List.{List}
use mathlib.Core.Path.{◌≡◌, refl, sym, ap, ◌∙◌}
use lib.Dec.{eqb}
use lib.ListN.{length, get_or, take, set, length-map, get_or-map}
use lib.Seq.{take-suc, take-suc-set}
use Rattle.std.proofs.lemmas.List.{take_min}
use borrow.Author.Tests.{eq-eqb, ne_eqb}
use Rattle.model.specs.Machine.{Change, settled}
use Rattle.model.specs.SchemeFile.{opened_with, opened}
use Rattle.conversation.specs.Script.{file_in, restarted}
use Rattle.model.proofs.Checks.{settled_refused, settled_accepted}
use Rattle.model.proofs.LongFiles.{opened_front}
use Rattle.schemes.specs.Schemes.{Kept}
use Rattle.table.specs.Lists.{lists, change}
use Rattle.table.specs.declared.Table.{Table}
use Rattle.table.specs.declared.Answered.{Answered}
use Rattle.table.specs.Ready.{Ready}
use Rattle.table.proofs.Follows.{fresh_ready}
use Rattle.script.specs.Turns.{Parted}

-- A line feed for a blank; every other byte as it is.
module _ (b : ℕ) where
  pub blank_unblanked : b ≡ 32 → 10 ≡ cond (eqb b 32) 10 b
  blank_unblanked e = simp (eq-eqb b 32 e)

  pub other_unblanked : ¬ (b ≡ 32) → b ≡ cond (eqb b 32) 10 b
  other_unblanked z = simp (ne_eqb b 32 z)

-- The first i bytes are copied.
module _ (line now : List ℕ) (i : ℕ) (copied : take i now ≡ take i (file_in line)) where
  count : length (file_in line) ≡ length line
  count = length-map line (λ b. cond (eqb b 32) 10 b)

  pub part_byte : (b : ℕ) → b ≡ cond (eqb (get_or line i 0) 32) 10 (get_or line i 0) → i < length line → i < length now → take (i + 1) (set now i b) ≡ take (i + 1) (file_in line)
  part_byte b is h k =
      let byte : b ≡ get_or (file_in line) i 0 = is ∙ sym (get_or-map (λ b. cond (eqb b 32) 10 b) line i 0) in
      rw (add-one, take-suc-set now i b k, take-suc (file_in line) i 0 (omega (arith, count)), copied, byte) refl

  pub part_end : (before : List ℕ) → length now ≡ length before → i ≡ min (length line) (length before) → Parted line before now i
  part_end before room all =
      let most : i ≡ min (length before) (length (file_in line)) = omega (arith, count) in
      record {
        bytes = copied ∙ ap (λ (n : ℕ). take n (file_in line)) most ∙ take_min (length before) (file_in line);
        fits = omega arith;
      }

-- The table of the front is the whole file's.
module _ (t : Table) (ready : Ready t) (line before file : List ℕ) (room : length before ≡ 113) (size : ℕ) (parted : Parted line before file size) (r : Answered)
    (opens : (change r ≡ opened (take size file)) × Kept r.table.schemes) where
  whole : change r ≡ opened (file_in line)
  whole = opens.0 ∙ ap opened (parted.bytes ∙ ap (λ (n : ℕ). take n (file_in line)) room) ∙ opened_front (file_in line)

  pub refused_left : ¬ (r.number ≡ 0) → (change (record { table = t; number = r.number }) ≡ restarted (lists t) (file_in line)) × Ready t
  refused_left z =
      (settled_refused (lists t) (change r) z ∙ ap (λ (c : Change). settled (lists t) c.number c.machine) whole, ready)

  pub accepted_left : r.number ≡ 0 → (change r ≡ restarted (lists t) (file_in line)) × Ready r.table
  unfolding opened_with
  accepted_left z = (
    settled_accepted (lists t) (change r) z ∙ ap (λ (c : Change). settled (lists t) c.number c.machine) whole,
    fresh_ready (opened (file_in line)).machine.schemes (ap (λ (c : Change). c.machine) whole) opens.1,
  )
