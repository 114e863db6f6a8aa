-- A scheme file of more than 112 bytes is refused with 25: eight lines of at most 13 bytes, each with its line feed, are all that can be accepted.
use Prim.Native.Nat.{ℕ, ◌+◌, ◌*◌, ◌≤◌, ◌<◌}
use native.Mathlib.Omega.{arith}
use native.Mathlib.Decide.{dec_le}
use mathlib.Core.Bool.{Bool, true, false, ◌&&◌, cond}
use mathlib.Core.List.{List, [], ◌∷◌}
use mathlib.Core.Path.{◌≡◌, refl, sym, ap, ◌∙◌}
use lib.Dec.{eqb, leb}
use lib.ListN.{length, get_or, take, length-take}
use lib.Seq.{take_all}
use borrow.Author.Tests.{eqb-true, leb-true}
use Rattle.scheme.specs.Schemes.{fitting, bits_differ}
use Rattle.scheme.specs.Six.{six_table}
use Rattle.scheme.proofs.Schemes.{name_short}
use Rattle.scheme.proofs.Every.{and_left, and_right}
use Rattle.model.specs.Lists.{all_of, same, bytes}
use Rattle.model.specs.Line.{onto, fields, field, lines_of}
use Rattle.model.specs.Machine.{first_failing, fresh_machine}
use Rattle.model.specs.SchemeFile.{is_name, is_bit, is_bits, is_scheme_line, table_of, names_differ, well_written, scheme_refusal, opened_with, opened}
use Rattle.model.proofs.Lists.{same_bytes}
use Rattle.model.proofs.Opened.{line_name, line_bits}

-- The length of parts, each with a byte that ends it.
ended : List (List ℕ) → ℕ
ended [] = 0
ended (part ∷ rest) = length part + 1 + ended rest

-- A byte more in the first part is one more in all.
onto_ended : (b : ℕ) (parts : List (List ℕ)) → ended parts + 1 ≤ ended (onto b parts)
unfolding ended
onto_ended b [] = omega arith
onto_ended b (part ∷ rest) = omega arith

lines_ended : (s : List ℕ) → length s ≤ ended (lines_of s)
unfolding ended
lines_ended [] = omega arith
lines_ended (b ∷ bs) = by (eqb b 10) (lines_ended bs)
  where
    by : (t : Bool) → length bs ≤ ended (lines_of bs) → length (b ∷ bs) ≤ ended (cond t ([] ∷ lines_of bs) (onto b (lines_of bs)))
    by true h = omega arith
    by false h = omega (arith, onto_ended b (lines_of bs))

fields_ended : (s : List ℕ) → length s + 1 ≤ ended (fields s)
unfolding ended
fields_ended [] = omega arith
fields_ended (b ∷ bs) = by (eqb b 44) (fields_ended bs)
  where
    by : (t : Bool) → length bs + 1 ≤ ended (fields bs) → length (b ∷ bs) + 1 ≤ ended (cond t ([] ∷ fields bs) (onto b (fields bs)))
    by true h = omega arith
    by false h = omega (arith, onto_ended b (fields bs))

three_ended : (parts : List (List ℕ)) → length parts ≡ 3 → ended parts ≡ length (get_or parts 0 []) + length (get_or parts 1 []) + length (get_or parts 2 []) + 3
unfolding ended
three_ended [] h = absurd (omega arith)
three_ended (a ∷ []) h = absurd (omega arith)
three_ended (a ∷ b ∷ []) h = absurd (omega arith)
three_ended (a ∷ b ∷ c ∷ []) h = omega arith
three_ended (a ∷ b ∷ c ∷ d ∷ rest) h = absurd (omega arith)

-- The tag, a name of at most five bytes, five digits and the two commas.
line_most : (s : List ℕ) → is_scheme_line s ≡ true → length s ≤ 13
unfolding is_scheme_line is_bits
line_most s h =
    let two : (eqb (length (fields s)) 3 && same (field s 0) (bytes "S")) ≡ true = and_left _ (is_name (field s 1)) (and_left _ (is_bits (field s 2)) h) in
    let count : length (fields s) ≡ 3 = eqb-true _ 3 (and_left _ (same (field s 0) (bytes "S")) two) in
    let tag : length (field s 0) ≡ 1 = ap length (same_bytes (field s 0) (bytes "S") (and_right (eqb (length (fields s)) 3) _ two)) in
    let name : length (field s 1) ≤ 5 = leb-true _ 5 (name_short (field s 1) (line_name s h)) in
    let digits : length (field s 2) ≡ 5 = eqb-true _ 5 (and_left _ (all_of is_bit (field s 2)) (line_bits s h)) in
    omega (arith, fields_ended s, three_ended (fields s) count)

lines_most : (lines : List (List ℕ)) → all_of is_scheme_line lines ≡ true → ended lines ≤ 14 * length lines
unfolding ended
lines_most [] h = omega arith
lines_most (s ∷ rest) h =
    omega (arith, line_most s (and_left _ (all_of is_scheme_line rest) h), lines_most rest (and_right (is_scheme_line s) _ h))

written_most : (file : List ℕ) → well_written (lines_of file) ≡ true → length file ≤ 112
unfolding well_written
written_most file h =
    let two = and_left (fitting (length (lines_of file)) && all_of is_scheme_line (lines_of file)) (names_differ (table_of (lines_of file))) (and_left _ (bits_differ (table_of (lines_of file))) h) in
    let count : fitting (length (lines_of file)) ≡ true = and_left (fitting (length (lines_of file))) (all_of is_scheme_line (lines_of file)) two in
    let few : length (lines_of file) ≤ 8 = leb-true (length (lines_of file)) 8 (and_right (leb 1 (length (lines_of file))) _ count) in
    let formed : all_of is_scheme_line (lines_of file) ≡ true = and_right (fitting (length (lines_of file))) _ two in
    omega (arith, lines_ended file, lines_most (lines_of file) formed)

pub long_opened : (file : List ℕ) → 112 < length file → opened file ≡ record { number = 25; machine = fresh_machine six_table }
unfolding opened_with scheme_refusal first_failing
long_opened file h = by (well_written (lines_of file)) refl
  where
    by : (t : Bool) → well_written (lines_of file) ≡ t → opened file ≡ record { number = 25; machine = fresh_machine six_table }
    by true e = absurd (omega (arith, written_most file e))
    by false e = simp e

-- So a file's first 113 bytes decide.
pub opened_front : (file : List ℕ) → opened (take 113 file) ≡ opened file
opened_front file = by (dec_le (length file) 113)
  where
    by : Dec (length file ≤ 113) → opened (take 113 file) ≡ opened file
    by (yes short) = ap opened (take_all 113 file short)
    by (no long) = long_opened (take 113 file) (simp length-take (omega arith)) ∙ sym (long_opened file (omega arith))
