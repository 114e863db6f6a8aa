-- What the call leaves in the buffer, by its length.
use Prim.Native.Nat.{ℕ, ◌≤◌, ◌<◌}
use mathlib.Core.List.{List, ◌++◌}
use mathlib.Core.Path.{◌≡◌}
use lib.ListN.{length, drop}
use borrow.Author.Tests.{le-leb, lt-leb}
use Rattle.scheme.specs.Six.{six_table}
use Rattle.model.specs.Line.{line_of}
use Rattle.model.specs.declared.Line.{Line}
use Rattle.test_line_export.specs.Encoding.{numbers, written, after, ReadInto}

-- The buffer is too short, or has room.
module _ (s out : List ℕ) where
  pub read_short : length out < 6 → ReadInto s out 0 out
  unfolding written after
  read_short h = record { counted = simp (lt-leb 6 (length out) h); left = simp (lt-leb 6 (length out) h) }

  pub read_room : (line : Line) (values out' : List ℕ) → 6 ≤ length out → length values ≡ 6 → line ≡ line_of six_table.names s → values ≡ numbers line →
      out' ≡ values ++ drop (length values) out → ReadInto s out 6 out'
  unfolding written after
  read_room line values out' h six l v e =
      record { counted = simp (le-leb 6 (length out) h); left = simp (le-leb 6 (length out) h, ← l, ← v) (simp six at e) }
