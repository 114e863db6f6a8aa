-- What is derived of a scheme table.
use Rattle.std.specs.Prelude.{ℕ, ◌+◌, ◌*◌, ◌<◌, Result, Ok, Err, IfOk, List, [], ◌∷◌, ◌≡◌, get_or}
use Rattle.scheme.specs.Schemes.{SchemeTable, words, top_of, meet_of, highest_of, has_meets, has_highest}
use Rattle.model.specs.Machine.{first_failing}
use Rattle.derive.specs.declared.Bits.{Bits}
use Rattle.derive.specs.declared.Derived.{Derived}
use Rattle.derive.specs.declared.Missing.{Missing}
use Rattle.derive.specs.declared.Missing.TheVariants.{Meet, Highest}
use Rattle.derive.specs.Orders.{bits_at}

-- The array holds the digits of the table's schemes.
pub record Holds (T : SchemeTable) (n : ℕ) (bits : List Bits) : Type 0 where
  pub counted : words T ≡ n
  pub same : (i : ℕ) → i + 1 < n → get_or T.bits i [] ≡ bits_at bits i

-- "no greatest scheme or two qualifiers without a greatest lower bound" is 26, "an operation with supporters but no single highest one" 27.
abbrev pub number_of : Missing → ℕ
number_of Meet = 26
number_of Highest = 27

-- The number of the refusal; 0 where nothing is missing.
abbrev pub refusal_of : Result Derived Missing → ℕ
refusal_of (Ok d) = 0
refusal_of (Err missing) = number_of missing

-- The meets, the highest and the greatest scheme.
pub record IsDerived (T : SchemeTable) (d : Derived) : Type 0 where
  pub meets : (a b : ℕ) → a < words T → b < words T → get_or d.meets (a * 9 + b) 0 ≡ meet_of T a b
  pub highest : (o : ℕ) → o < 5 → get_or d.highest o 0 ≡ highest_of T o
  pub top : d.top ≡ top_of T

-- "then 26 .., then 27 ..": else the meets, the highest and the greatest scheme.
pub record Derives (T : SchemeTable) (r : Result Derived Missing) : Type 0 where
  pub refusal : refusal_of r ≡ first_failing ((26, has_meets T) ∷ (27, has_highest T) ∷ [])
  pub derived : IfOk r (IsDerived T)
