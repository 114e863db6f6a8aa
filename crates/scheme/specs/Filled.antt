-- Arrays that are filled in place by place.
use Rattle.std.specs.Prelude.{ℕ, ◌<◌, List, ◌≡◌, length, get_or}

-- Of an array of this size each of the first n places holds what belongs there; d is what `get_or` gives past the end.
pub record Filled {A : Type 0} (d : A) (size : ℕ) (Right : ℕ → A → Type 0) (n : ℕ) (l : List A) : Type 0 where
  pub sized : length l ≡ size
  pub held : (i : ℕ) → i < n → Right i (get_or l i d)
