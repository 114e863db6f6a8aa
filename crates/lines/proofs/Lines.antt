-- A text that is not empty is its first line and the lines after it; and the first line of a text's front is the front of its first line.
use Prim.Native.Nat.{ℕ, zero, suc, ◌+◌, ◌-◌, ◌*◌, ◌^◌, ◌≤◌, ◌<◌, min}
use native.Mathlib.Omega.{arith}
use mathlib.Core.Bool.{Bool, true, false, cond}
use mathlib.Core.List.{List, [], ◌∷◌}
use mathlib.Core.Path.{◌≡◌, refl, sym, ap, ◌∙◌}
use lib.Dec.{eqb, ltb}
use lib.ListN.{length, take, drop, length-drop, drop_of_length-le}
use lib.Seq.{drop-drop, take_all}
use mir.Syntax.{w64}
use mir.Val.{Fits}
use borrow.Author.Tests.{ltb-false}
use Rattle.std.specs.Prelude.{Option, Some, None, nat_eq, unwrap_or, position}
use Rattle.std.specs.List.{position_or_len, PartBy}
use Rattle.std.proofs.Common.{inl, inr, one-add}
use Rattle.std.proofs.lemmas.List.Recursion.{is_position_or_len}
use Rattle.model.specs.Lists.{length_before}
use Rattle.model.specs.Line.{onto, lines_of}
use Rattle.model.proofs.Lists.{before_most}
use Rattle.lines.specs.Lines.{line_length}

pub line_length_most : (s : List ℕ) → line_length s ≤ length s
line_length_most s = before_most 10 s

pub line_length_front : (n : ℕ) (s : List ℕ) → line_length (take n s) ≡ min n (line_length s)
line_length_front zero s = omega arith
line_length_front (suc n) [] = omega arith
line_length_front (suc n) (b ∷ bs) = by (eqb b 10) (line_length_front n bs)
  where
    by : (t : Bool) → line_length (take n bs) ≡ min n (line_length bs) → cond t 0 (suc (line_length (take n bs))) ≡ min (suc n) (cond t 0 (suc (line_length bs)))
    by true h = omega arith
    by false h = omega arith

-- The first line, and the lines after its line feed.
pub lines-first : (s : List ℕ) → 0 < length s → lines_of s ≡ take (line_length s) s ∷ lines_of (drop (suc (line_length s)) s)
lines-first [] h = let z : ⊥ = omega arith in absurd z
lines-first (b ∷ bs) h = by (eqb b 10) bs (lines-first bs)
  where
    by : (t : Bool) (bs : List ℕ) → (0 < length bs → lines_of bs ≡ take (line_length bs) bs ∷ lines_of (drop (suc (line_length bs)) bs)) →
        cond t ([] ∷ lines_of bs) (onto b (lines_of bs)) ≡ take (cond t 0 (suc (line_length bs))) (b ∷ bs) ∷ lines_of (drop (cond t 0 (suc (line_length bs))) bs)
    by true bs rest = refl
    by false [] rest = refl
    by false (d ∷ ds) rest = ap (onto b) (rest (omega arith))

-- A line that starts within the text or at its end does not end past it.
pub end_within : (text : List ℕ) (from to : ℕ) → from ≤ length text → to ≡ from + line_length (drop from text) → to ≤ length text
end_within text from to h is = omega (arith, line_length_most (drop from text), length-drop from text)

-- The line that starts at a place, as the bytes up to its end.
module _ (text : List ℕ) (from to : ℕ) (h : from < length text) (is : to ≡ from + line_length (drop from text)) where
  pub end_bound : to ≤ length text
  end_bound = end_within text from to (omega arith) is

  -- A slice has fewer than 2 ^ 63 bytes.
  pub end_fits : length text * 1 < 2 ^ 63 → Fits w64 (to + 1)
  end_fits room = omega (arith, end_bound)

  pub line_part : lines_of (drop from text) ≡ take (to - from) (drop from text) ∷ lines_of (drop (to + 1) text)
  line_part =
      let some : 0 < length (drop from text) = simp length-drop (omega arith) in
      let size : to - from ≡ line_length (drop from text) = omega arith in
      let next : from + suc (line_length (drop from text)) ≡ to + 1 = omega arith in
      lines-first (drop from text) some ∙ rw (size, drop-drop (suc (line_length (drop from text))) from text, next)

-- Before the first such byte stand as many bytes as its place says, and else all of them.
first_or_all : (k n : ℕ) → k ≤ n → unwrap_or (cond (ltb k n) (Some k) None) n ≡ k
first_or_all k n h = by (ltb k n) refl
  where
    by : (t : Bool) → ltb k n ≡ t → unwrap_or (cond t (Some k) None) n ≡ k
    by true e = refl
    by false e = omega (arith, ltb-false k n e)

pub place_before : (b : ℕ) (s : List ℕ) → unwrap_or (position (λ c. nat_eq c b) s) (length s) ≡ length_before b s
place_before b s =
    let place : length_before b s ≡ position_or_len (λ c. nat_eq c b) s = is_position_or_len (length_before b) (λ c. nat_eq c b) refl (λ x xs. simp one-add) s in
    first_or_all (position_or_len (λ c. nat_eq c b) s) (length s) (omega (arith, before_most b s)) ∙ sym place

-- What a slice's part from a place on is, where past the end it is empty.
pub rest_or_empty : {R : Type 0} (now : R → List ℕ) (s : List ℕ) (from : ℕ) (part : Option R) (empty : R) → now empty ≡ [] →
    PartBy now s from (length s) part → now (unwrap_or part empty) ≡ drop from s
rest_or_empty now s from None empty none (inl past, some) = none ∙ sym (drop_of_length-le s (omega arith))
rest_or_empty now s from None empty none (inr past, some) = absurd (omega arith)
rest_or_empty now s from (Some r) empty none found = found.0.2 ∙ take_all (length s - from) (drop from s) (omega (arith, length-drop from s))
