-- The lines of a file from a place on.
use Prim.Native.Nat.{ℕ, zero, suc, ◌+◌, ◌-◌, ◌≤◌, ◌<◌}
use native.Mathlib.Omega.{arith}
use mathlib.Core.Bool.{Bool, true, false}
use mathlib.Core.List.{List, [], ◌∷◌}
use mathlib.Core.Path.{◌≡◌, refl, sym, ap, ◌∙◌}
use lib.ListN.{length, get_or, take, drop, drop_of_length-le}
use Rattle.scheme.proofs.Every.{every_false}
use Rattle.model.specs.Line.{field, lines_of}
use Rattle.model.specs.SchemeFile.{is_scheme_line}
use Rattle.lines.specs.Lines.{line_length}
use Rattle.lines.proofs.Lines.{lines-first, end_within, end_fits, line_part}
use Rattle.schemes.specs.Lines.{line_at, StartsAt, name_at, well_formed}

-- How many lines: those that were passed, and those of the rest.
pub record Counted (file : List ℕ) (n from : ℕ) : Type 0 where
  pub few : n ≤ from
  pub rest : n + length (lines_of (drop from file)) ≡ length (lines_of file)

pub count_first : (file : List ℕ) → Counted file 0 0
count_first file = record { few = omega arith; rest = omega arith }

pub count_end : (file : List ℕ) (n from : ℕ) → Counted file n from → length file ≤ from → n ≡ length (lines_of file)
count_end file n from c h = omega (arith, c.rest, ap (λ (l : List ℕ). length (lines_of l)) (drop_of_length-le file h))

pub count_more : (file : List ℕ) (n from to : ℕ) → Counted file n from → from < length file → to ≡ from + line_length (drop from file) → Counted file (n + 1) (to + 1)
count_more file n from to c h is = record { few = omega (arith, c.few); rest = omega (arith, c.rest, ap length (line_part file from to h is)) }

pub ruleset counts = (count_first, count_end, count_more, end_fits)

-- Line k is line j of what stands from i on.
pub record LineFrom (file : List ℕ) (k i j : ℕ) : Type 0 where
  pub same : line_at file k ≡ line_at (drop i file) j

pub start_first : (file : List ℕ) (k : ℕ) → LineFrom file k 0 k
start_first file k = record { same = refl }

pub start_here : (file : List ℕ) (k i j : ℕ) → LineFrom file k i j → i < length file → j ≡ 0 → StartsAt file k i
start_here file k i j f h e = record { within = omega arith; same = f.same ∙ ap (line_at (drop i file)) e }

past_end : (file : List ℕ) (i k : ℕ) → length file ≤ i → line_at (drop i file) k ≡ []
unfolding line_at
past_end file i zero h = simp (drop_of_length-le file h)
past_end file i (suc k) h = simp (drop_of_length-le file h)

pub start_none : (file : List ℕ) (k i j : ℕ) → LineFrom file k i j → length file ≤ i → StartsAt file k (length file)
start_none file k i j f h = record { within = omega arith; same = f.same ∙ past_end file i j h ∙ sym (past_end file (length file) 0 (omega arith)) }

pub start_more : (file : List ℕ) (k i j to : ℕ) → LineFrom file k i j → (j ≡ 0 → ⊥) → i < length file → to ≡ i + line_length (drop i file) → LineFrom file k (to + 1) (j - 1)
unfolding line_at
start_more file k i j to f more h is = record { same = f.same ∙ ap (λ (l : List (List ℕ)). get_or l j []) (line_part file i to h is) ∙ later j more }
  where
    later : (n : ℕ) → (n ≡ 0 → ⊥) → get_or (take (to - i) (drop i file) ∷ lines_of (drop (to + 1) file)) n [] ≡ get_or (lines_of (drop (to + 1) file)) (n - 1) []
    later zero m = absurd (m refl)
    later (suc n) m = let e : suc n - 1 ≡ n = omega arith in rw e

pub ruleset starts = (start_first, start_here, start_none, start_more, end_fits)

-- From its start to its end.
pub line_whole : (file : List ℕ) (k from to : ℕ) → StartsAt file k from → to ≡ from + line_length (drop from file) → take (to - from) (drop from file) ≡ line_at file k
unfolding line_at
line_whole file k from to f is = rw size (sym (f.same ∙ first (drop from file)))
  where
    size : to - from ≡ line_length (drop from file)
    size = omega arith

    first : (s : List ℕ) → get_or (lines_of s) 0 [] ≡ take (line_length s) s
    first [] = refl
    first (b ∷ bs) = ap (λ (l : List (List ℕ)). get_or l 0 []) (lines-first (b ∷ bs) (omega arith))

pub line_bound : (file : List ℕ) (k from to : ℕ) → StartsAt file k from → to ≡ from + line_length (drop from file) → to ≤ length file
line_bound file k from to f is = end_within file from to f.within is

-- A line's name.
pub name_is : (file l s : List ℕ) (k : ℕ) → l ≡ line_at file k → s ≡ field l 1 → s ≡ name_at file k
unfolding name_at
name_is file l s k at is = cc

-- A line's form, and what the first line without it says of all.
unfoldable pub FormedAt : List ℕ → ℕ → Type 0
FormedAt file k = is_scheme_line (line_at file k) ≡ true

module _ (file : List ℕ) (n k : ℕ) where
  pub formed_here : (s : List ℕ) (p : Bool) → s ≡ line_at file k → p ≡ is_scheme_line s → p ≡ true → FormedAt file k
  unfolding FormedAt
  formed_here s p at is e = rw (sym at) (sym is ∙ e)

  pub formed_false : k < n → (s : List ℕ) (p : Bool) → s ≡ line_at file k → p ≡ is_scheme_line s → p ≡ false → false ≡ well_formed file n
  unfolding well_formed
  formed_false below s p at is e = every_false n (λ k. is_scheme_line (line_at file k)) k below (rw (sym at) (sym is ∙ e))
