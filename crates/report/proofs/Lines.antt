-- The lines of the report: a variable's line stands only for the code of a word, and a loop over lines has left to write those from its number on.
use Prim.Native.Nat.{ℕ, zero, suc, ◌+◌, ◌-◌, ◌≤◌, ◌<◌}
use native.Mathlib.Omega.{arith}
use mathlib.Core.List.{List, [], ◌∷◌, ◌++◌}
use mathlib.Core.Path.{◌≡◌, refl, ap}
use lib.ListN.{length, get_or}
use borrow.Author.Tests.{lt-ltb, le-ltb}
use Rattle.model.specs.Lists.{bytes}
use Rattle.model.specs.Number.{decimal}
use Rattle.model.specs.Word.{qualifier_word}
use Rattle.model.specs.Report.{line, lines}
use Rattle.report.specs.Writing.{Room, Wrote, variable_text, variable_at}
use Rattle.report.proofs.Writing.{Left, room_first, left_rest, left_nothing, wrote_nothing}

-- Within a list the default is never read.
default : (l : List ℕ) (k d d' : ℕ) → k < length l → get_or l k d ≡ get_or l k d'
default [] k d d' h = let z : ⊥ = omega arith in absurd z
default (x ∷ l) zero d d' h = refl
default (x ∷ l) (suc k) d d' h = default l k d d' (omega arith)

-- A variable's line.
module _ (names : List (List ℕ)) (k code : ℕ) where
  listed : code < 9 → variable_text names k code ≡ line (bytes "G" ∷ decimal k ∷ qualifier_word names code ∷ [])
  unfolding variable_text
  listed h = simp (lt-ltb code 9 h)

  unlisted : 9 ≤ code → variable_text names k code ≡ []
  unfolding variable_text
  unlisted h = simp (le-ltb code 9 h)

  pub listed_room : {l : List ℕ} {i : ℕ} → code < 9 → Room l i (variable_text names k code) → Room l i (line (bytes "G" ∷ decimal k ∷ qualifier_word names code ∷ []))
  listed_room h p = rw (listed h) at p

  pub listed_wrote : {l l' : List ℕ} {i i' : ℕ}
      → code < 9 → Wrote l i (line (bytes "G" ∷ decimal k ∷ qualifier_word names code ∷ [])) l' i' → Wrote l i (variable_text names k code) l' i'
  listed_wrote h p = rw (listed h) p

  pub unlisted_wrote : (l : List ℕ) (i : ℕ) → 9 ≤ code → Wrote l i (variable_text names k code) l i
  unlisted_wrote l i h = rw (unlisted h) (wrote_nothing l i)

-- A code that is read within its list.
pub variable_read : (names : List (List ℕ)) (variables : List ℕ) (k : ℕ) → k < length variables → variable_at names variables k ≡ variable_text names k (get_or variables k 0)
variable_read names variables k h = ap (variable_text names k) (default variables k 9 0 h)

-- A loop over the lines of the numbers from i to n.
lines_more : (f : ℕ → List ℕ) (i n : ℕ) → i < n → lines f i (n - i) ≡ f i ++ lines f (i + 1) (n - (i + 1))
unfolding lines
lines_more f i n h = let e : n - i ≡ suc (n - (i + 1)) = omega arith in rw e

lines_none : (f : ℕ → List ℕ) (i n : ℕ) → n ≤ i → lines f i (n - i) ≡ []
unfolding lines
lines_none f i n h = let e : n - i ≡ 0 = omega arith in rw e

module _ (f : ℕ → List ℕ) (i n : ℕ) {l l₀ whole : List ℕ} {at at₀ : ℕ} (p : Left l at (lines f i (n - i)) l₀ at₀ whole) where
  pub turn_room : i < n → Room l at (f i)
  turn_room h = room_first (lines f (i + 1) (n - (i + 1))) (rw (lines_more f i n h) at p.room)

  pub turn_left : {l₁ : List ℕ} {at₁ : ℕ} → i < n → Wrote l at (f i) l₁ at₁ → Left l₁ at₁ (lines f (i + 1) (n - (i + 1))) l₀ at₀ whole
  turn_left h q = left_rest (f i) (rw (lines_more f i n h) at p) q

  pub turn_end : n ≤ i → Wrote l₀ at₀ whole l at
  turn_end h = left_nothing (rw (lines_none f i n h) at p)
