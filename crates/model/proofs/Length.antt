-- No report is longer than 6,280 bytes: each line's length is bounded by its number's digits, and the bounds are added up by computing.
use Prim.Native.Nat.{ℕ, zero, suc, ◌+◌, ◌≤◌, ◌<◌}
use native.Mathlib.Omega.{arith}
use mathlib.Core.Bool.{Bool, true, false, cond}
use mathlib.Core.List.{List, [], ◌∷◌}
use mathlib.Core.Path.{◌≡◌, refl}
use lib.Dec.{leb}
use lib.ListN.{length, get_or, length-append}
use borrow.Author.Tests.{leb-true}
use Rattle.scheme.proofs.Every.{every, every_at, and_left, and_right, and_both}
use Rattle.scheme.specs.Schemes.{words}
use Rattle.model.specs.Lists.{all_of, bytes}
use Rattle.model.specs.Number.{decimal}
use Rattle.model.specs.Word.{qualifier_words, qualifier_word}
use Rattle.model.specs.Machine.{Machine}
use Rattle.model.specs.Inference.{Slot, variable, param, row, Shape, mentions}
use Rattle.model.specs.Report.{line, lines, shape_word, variable_line, param_line, row_line, report}
use Rattle.model.proofs.Limits.{Within}

-- The sum of n bounds, for the numbers from i on.
total : (ℕ → ℕ) → ℕ → ℕ → ℕ
total b i zero = 0
total b i (suc n) = b i + total b (i + 1) n

lines_bounded : (f : ℕ → List ℕ) (b : ℕ → ℕ) (i n : ℕ) → ((k : ℕ) → length (f k) ≤ b k) → length (lines f i n) ≤ total b i n
unfolding lines total
lines_bounded f b i zero h = omega arith
lines_bounded f b i (suc n) h = simp length-append (omega (arith, h i, lines_bounded f b (i + 1) n h))

total_more : (b : ℕ → ℕ) (i n n' : ℕ) → n ≤ n' → total b i n ≤ total b i n'
unfolding total
total_more b i zero n' h = omega arith
total_more b i (suc n) zero h = let z : ⊥ = omega arith in absurd z
total_more b i (suc n) (suc n') h = omega (arith, total_more b (i + 1) n n' (omega arith))

-- No word is longer than five bytes.
longest : (ws : List (List ℕ)) (c : ℕ) → all_of (λ w. leb (length w) 5) ws ≡ true → length (get_or ws c []) ≤ 5
longest [] c h = omega arith
longest (w ∷ ws) zero h = leb-true _ _ (and_left _ (all_of (λ w. leb (length w) 5) ws) h)
longest (w ∷ ws) (suc c) h = longest ws c (and_right (leb (length w) 5) _ h)

qualifier_word_length : (m : Machine) → Within m → (c : ℕ) → length (qualifier_word m.schemes.names c) ≤ 5
unfolding qualifier_word
qualifier_word_length m w c = longest (qualifier_words m.schemes.names) c (and_both _ _ refl w.names)

shape_word_length : (shape : Shape) → length (shape_word shape) ≤ 5
unfolding shape_word
shape_word_length Shape.int = omega arith
shape_word_length Shape.arrow = omega arith
shape_word_length Shape.any = omega arith

-- No number below a limit has more digits than one test over all of them finds.
pub digits_below : (limit most n : ℕ) → every limit (λ k. leb (length (decimal k)) most) ≡ true → n < limit → length (decimal n) ≤ most
digits_below limit most n tested h = leb-true _ _ (every_at limit (λ k. leb (length (decimal k)) most) tested n h)

-- The digits of the two counts.
small_count : (n : ℕ) → n ≤ 64 → length (decimal n) ≤ 2
unfolding decimal
small_count n h = digits_below 65 2 n refl (omega arith)

large_count : (n : ℕ) → n ≤ 256 → length (decimal n) ≤ 3
unfolding decimal
large_count n h = digits_below 257 3 n refl (omega arith)

-- The sums of the bounds at the limits.
variables_total : total (λ k. 9 + length (decimal k)) 0 64 ≡ 694
unfolding decimal total
variables_total = refl

params_total : total (λ p. 15 + length (decimal p)) 0 64 ≡ 1078
unfolding decimal total
params_total = refl

rows_total : total (λ i. 15 + length (decimal i)) 0 256 ≡ 4498
unfolding decimal total
rows_total = refl

module _ (m : Machine) (w : Within m) (word : Slot → ℕ) (shape : Slot → Shape) where
  variable_line_length : (k : ℕ) → length (variable_line m word shape k) ≤ 9 + length (decimal k)
  unfolding variable_line line
  variable_line_length k = go (mentions m (k + words m.schemes))
    where
      go : (b : Bool) → length (cond b (line (bytes "G" ∷ decimal k ∷ qualifier_word m.schemes.names (word (variable k)) ∷ [])) []) ≤ 9 + length (decimal k)
      go true = simp length-append (omega (arith, qualifier_word_length m w (word (variable k))))
      go false = omega arith

  param_line_length : (p : ℕ) → length (param_line m word shape p) ≤ 15 + length (decimal p)
  unfolding param_line line
  param_line_length p = simp length-append (omega (arith, qualifier_word_length m w (word (param p)), shape_word_length (shape (param p))))

  row_line_length : (i : ℕ) → length (row_line m word shape i) ≤ 15 + length (decimal i)
  unfolding row_line line
  row_line_length i = simp length-append (omega (arith, qualifier_word_length m w (word (row i)), shape_word_length (shape (row i))))

  variables_length : length (lines (variable_line m word shape) 0 64) ≤ 694
  variables_length = omega (arith, lines_bounded (variable_line m word shape) (λ k. 9 + length (decimal k)) 0 64 variable_line_length, variables_total)

  params_length : (n : ℕ) → n ≤ 64 → length (lines (param_line m word shape) 0 n) ≤ 1078
  params_length n h = omega (arith, lines_bounded (param_line m word shape) (λ p. 15 + length (decimal p)) 0 n param_line_length, total_more (λ p. 15 + length (decimal p)) 0 n 64 h, params_total)

  rows_length : (n : ℕ) → n ≤ 256 → length (lines (row_line m word shape) 0 n) ≤ 4498
  rows_length n h = omega (arith, lines_bounded (row_line m word shape) (λ i. 15 + length (decimal i)) 0 n row_line_length, total_more (λ i. 15 + length (decimal i)) 0 n 256 h, rows_total)

  pub report_length : length (report m word shape) ≤ 6280
  unfolding report line
  report_length =
      simp length-append
      (omega (
        arith,
        small_count (length m.params) w.params,
        large_count (length m.terms) w.terms,
        variables_length,
        params_length (length m.params) w.params,
        rows_length (length m.terms) w.terms,
      ))
