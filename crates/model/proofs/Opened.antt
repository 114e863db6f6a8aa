-- What the call that makes the fresh machine leaves: a sound scheme table and no entry.
use Prim.Native.Nat.{ℕ}
use native.Mathlib.Omega.{arith}
use mathlib.Core.Bool.{Bool, true, false, ◌&&◌, cond}
use mathlib.Core.List.{List, [], ◌∷◌, map}
use mathlib.Core.Path.{◌≡◌, refl, sym, ap, ◌∙◌}
use lib.Dec.{eqb, leb}
use lib.ListN.{length, length-map}
use borrow.Author.Tests.{eqb-true, leb-true}
use Rattle.scheme.specs.Schemes.{fitting, bits_differ, has_meets, has_highest, Sound}
use Rattle.scheme.specs.Six.{six_table}
use Rattle.scheme.proofs.Six.{six_sound}
use Rattle.scheme.proofs.Every.{and_left, and_right, and_both}
use Rattle.model.specs.Lists.{all_of, same, bytes}
use Rattle.model.specs.Line.{lines_of, fields, field}
use Rattle.model.specs.SchemeFile.{is_name, is_bit, is_bits, is_scheme_line, table_of, names_differ, well_written, scheme_refusal, opened_with, opened}
use Rattle.model.proofs.Checks.{passed}

-- What the lines' form says of the table's names and digits.
pub line_bits : (s : List ℕ) → is_scheme_line s ≡ true → is_bits (field s 2) ≡ true
unfolding is_scheme_line
line_bits s h = and_right (eqb (length (fields s)) 3 && same (field s 0) (bytes "S") && is_name (field s 1)) _ h

pub line_name : (s : List ℕ) → is_scheme_line s ≡ true → is_name (field s 1) ≡ true
unfolding is_scheme_line
line_name s h = and_right (eqb (length (fields s)) 3 && same (field s 0) (bytes "S")) _ (and_left _ (is_bits (field s 2)) h)

five_digits : (s : List ℕ) → is_bits s ≡ true → eqb (length (map (eqb 49) s)) 5 ≡ true
unfolding is_bits
five_digits s h = ap (λ (n : ℕ). eqb n 5) (length-map s (eqb 49)) ∙ and_left _ (all_of is_bit s) h

lines_parts : (lines : List (List ℕ)) → all_of is_scheme_line lines ≡ true →
    (all_of is_name (map (λ s. field s 1) lines) ≡ true) × (all_of (λ b. eqb (length b) 5) (map (λ s. map (eqb 49) (field s 2)) lines) ≡ true)
lines_parts [] h = (refl, refl)
lines_parts (s ∷ rest) h =
    let first = and_left _ (all_of is_scheme_line rest) h in
    let later = lines_parts rest (and_right (is_scheme_line s) _ h) in
    (and_both _ _ (line_name s first) later.0, and_both _ _ (five_digits (field s 2) (line_bits s first)) later.1)

pub accepted_sound : (lines : List (List ℕ)) → scheme_refusal lines ≡ 0 → Sound (table_of lines)
unfolding scheme_refusal well_written table_of
accepted_sound lines e =
    let first = passed 25 (well_written lines) _ (omega arith) e in
    let second = passed 26 (has_meets (table_of lines)) _ (omega arith) first.1 in
    let third = passed 27 (has_highest (table_of lines)) _ (omega arith) second.1 in
    let written : (fitting (length lines) && all_of is_scheme_line lines && names_differ (table_of lines) && bits_differ (table_of lines)) ≡ true = first.0 in
    let three = and_left (fitting (length lines) && all_of is_scheme_line lines && names_differ (table_of lines)) (bits_differ (table_of lines)) written in
    let two = and_left (fitting (length lines) && all_of is_scheme_line lines) (names_differ (table_of lines)) three in
    let count : fitting (length lines) ≡ true = and_left (fitting (length lines)) (all_of is_scheme_line lines) two in
    let many : length (map (λ (s : List ℕ). field s 1) lines) ≡ length lines = length-map lines (λ s. field s 1) in
    let parts = lines_parts lines (and_right (fitting (length lines)) (all_of is_scheme_line lines) two) in
    record {
      some = omega (arith, many, leb-true 1 (length lines) (and_left _ (leb (length lines) 8) count));
      few = omega (arith, many, leb-true (length lines) 8 (and_right (leb 1 (length lines)) _ count));
      named = parts.0;
      names_apart = and_right (fitting (length lines) && all_of is_scheme_line lines) (names_differ (table_of lines)) three;
      counted = length-map lines (λ s. map (eqb 49) (field s 2)) ∙ sym many;
      five = parts.1;
      differ = and_right (fitting (length lines) && all_of is_scheme_line lines && names_differ (table_of lines)) (bits_differ (table_of lines)) written;
      meets = second.0;
      highest = third.0;
    }

pub opened_sound : (file : List ℕ) → Sound (opened file).machine.schemes
unfolding opened_with
opened_sound file = go (eqb (scheme_refusal (lines_of file)) 0) refl
  where
    go : (b : Bool) → eqb (scheme_refusal (lines_of file)) 0 ≡ b → Sound (cond b (table_of (lines_of file)) six_table)
    go true e = accepted_sound (lines_of file) (eqb-true _ 0 e)
    go false e = six_sound
