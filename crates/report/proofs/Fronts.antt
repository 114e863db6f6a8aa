-- What stands at the front of a buffer, and the room for the lines of a refusal.
use Prim.Native.Nat.{ℕ, ◌≤◌}
use native.Mathlib.Omega.{arith}
use mathlib.Core.List.{List, [], ◌∷◌, ◌++◌}
use mathlib.Core.Path.{◌≡◌, refl, ap, ◌∙◌}
use lib.ListN.{length, length-append}
use lib.Seq.{sets-eq, take-append_seam}
use Rattle.model.specs.Number.{decimal}
use Rattle.model.specs.Report.{line}
use Rattle.model.proofs.Length.{digits_below}
use Rattle.report.specs.Writing.{Room, Wrote, Front, pair_text}

-- A buffer that begins with a text.
pub front_of : (w rest l : List ℕ) (n : ℕ) → n ≡ length w → l ≡ w ++ rest → Front w l n
front_of w rest l n size is = record { bytes = rw (size, is) (take-append_seam w rest); fits = omega (arith, ap length is ∙ length-append w rest) }

-- A text that was written at the start.
pub front_written : (w l l' : List ℕ) (n : ℕ) → Room l 0 w → Wrote l 0 w l' n → Front w l' n
front_written w l l' n room wrote = front_of w _ l' n (omega (arith, wrote.end)) (wrote.bytes ∙ sets-eq w l 0 room.fits)

-- A number up to 399 has at most three digits.
digits : (n : ℕ) → n ≤ 399 → length (decimal n) ≤ 3
unfolding decimal
digits n h = digits_below 400 3 n refl (omega arith)

pub number_room : (l : List ℕ) (n : ℕ) → n ≤ 399 → 6280 ≤ length l → Room l 0 (decimal n ++ (10 ∷ []))
number_room l n h long = record { fits = simp length-append (omega (arith, digits n h)) }

pub pair_room : (word l : List ℕ) (a b : ℕ) → length word ≤ 2 → a ≤ 399 → b ≤ 399 → 6280 ≤ length l → Room l 0 (pair_text word a b)
unfolding pair_text line
pair_room word l a b h i j long = record { fits = simp length-append (omega (arith, digits a i, digits b j)) }
