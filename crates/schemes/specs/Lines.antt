-- The lines of a scheme file by their places.
use Rattle.std.specs.Prelude.{ℕ, ◌≤◌, Bool, true, ◌&&◌, List, [], map, ◌≡◌, eqb, leb, length, get_or, drop}
use Rattle.scheme.specs.Lists.{every}
use Rattle.model.specs.Lists.{all_of}
use Rattle.model.specs.Line.{field, lines_of}
use Rattle.model.specs.SchemeFile.{is_scheme_line}

-- Line k, counted from 0; empty where there are fewer.
unfoldable pub line_at : List ℕ → ℕ → List ℕ
line_at file k = get_or (lines_of file) k []

-- Line k is the first line of what stands from i on.
pub record StartsAt (file : List ℕ) (k i : ℕ) : Type 0 where
  pub within : i ≤ length file
  pub same : line_at file k ≡ line_at (drop i file) 0

-- The name and the digits in line k.
unfoldable pub name_at : List ℕ → ℕ → List ℕ
name_at file k = field (line_at file k) 1

unfoldable pub digits_at : List ℕ → ℕ → List Bool
digits_at file k = map (eqb 49) (field (line_at file k) 2)

-- The first n lines are scheme lines.
unfoldable pub well_formed : List ℕ → ℕ → Bool
well_formed file n = every n (λ k. is_scheme_line (line_at file k))

-- The file has n lines, 1 to 8, and each has its form.
pub record Formed (file : List ℕ) (n : ℕ) : Type 0 where
  pub counted : n ≡ length (lines_of file)
  pub some : 1 ≤ n
  pub few : n ≤ 8
  pub formed : well_formed file n ≡ true

-- Every byte is one of lo to hi.
unfoldable pub all_between : ℕ → ℕ → List ℕ → Bool
all_between lo hi s = all_of (λ b. leb lo b && leb b hi) s
