-- What is asked of a reading of the qualifier nodes.
use Rattle.std.specs.Prelude.{ℕ, ◌<◌, ◌≡◌}
use Rattle.layout.specs.Layout.{nodes}

-- Each of the w words, whose node is its code, has its own code.
abbrev pub Constant : ℕ → (ℕ → ℕ) → Type 0
Constant w v = (c : ℕ) → c < w → v c ≡ c

-- Every qualifier is one of the w codes.
abbrev pub Coded : ℕ → (ℕ → ℕ) → Type 0
Coded w v = (x : ℕ) → x < nodes → v x < w
