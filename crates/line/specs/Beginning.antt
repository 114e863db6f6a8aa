-- How a line begins.
-- Document 01, "Lines and the table".
use Rattle.std.specs.Prelude.{ℕ, ◌≤◌, List, ◌≡◌, length, drop, Some}
use Rattle.model.specs.Line.{fields, number}

-- A line's own number, in field 1, is i, and `rest` are its fields after the first `before`.
pub record Begun (s : List ℕ) (i before : ℕ) (rest : List (List ℕ)) : Type 0 where
  pub own : number s 1 ≡ Some i
  pub enough : before ≤ length (fields s)
  pub left : drop before (fields s) ≡ rest
