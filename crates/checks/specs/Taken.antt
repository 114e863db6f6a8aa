-- A test of numbers that code makes: each call finds what the test says.
use Rattle.std.specs.Prelude.{ℕ, Bool, ◌≡◌}

abbrev pub Tells : (ℕ → Bool → Type 0) → (ℕ → Bool) → Type 0
Tells finds test = (n : ℕ) (found : Bool) → finds n found → found ≡ test n
