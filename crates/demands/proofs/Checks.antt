-- The first of a list of checks that fails: its condition is broken, and it is not later than any that fails.
use Prim.Native.Nat.{ℕ, ◌≤◌, ◌<◌}
use native.Mathlib.Omega.{arith}
use mathlib.Core.Bool.{Bool, true, false, ◌&&◌, false≢true}
use mathlib.Core.List.{List, [], ◌∷◌}
use mathlib.Core.Path.{◌≡◌, refl, sym}
use lib.Dec.{ltb}
use borrow.Author.Tests.{ltb-true}
use Rattle.scheme.proofs.Every.{and_left, and_right}
use Rattle.model.specs.Machine.{first_failing}

-- What follows from each check that fails follows from the first that does.
module _ (P : ℕ → Type 0) where
  pub from_none : ¬ (first_failing [] ≡ 0) → P (first_failing [])
  unfolding first_failing
  from_none some = absurd (some refl)

  pub from_check : (n : ℕ) (holds : Bool) (rest : List (ℕ × Bool)) → (holds ≡ false → P n) → (¬ (first_failing rest ≡ 0) → P (first_failing rest)) →
      ¬ (first_failing ((n, holds) ∷ rest) ≡ 0) → P (first_failing ((n, holds) ∷ rest))
  unfolding first_failing
  from_check n true rest fails later some = later some
  from_check n false rest fails later some = fails refl

-- The check with the number stands in the list, and fails.
pub data Failing (n : ℕ) : List (ℕ × Bool) → Type 0 where
  here : {holds : Bool} {rest : List (ℕ × Bool)} → holds ≡ false → Failing n ((n, holds) ∷ rest)
  there : {check : ℕ × Bool} {rest : List (ℕ × Bool)} → Failing n rest → Failing n (check ∷ rest)

-- The numbers of the checks rise, all above `least`.
abbrev pub rising : ℕ → List (ℕ × Bool) → Bool
rising least [] = true
rising least ((n, holds) ∷ checks) = ltb least n && rising n checks

pub not_later : {n least : ℕ} {checks : List (ℕ × Bool)} → rising least checks ≡ true → Failing n checks → (least < first_failing checks) × (first_failing checks ≤ n)
unfolding first_failing
not_later r (here {holds = true} e) = absurd (false≢true (sym e))
not_later {n} {least} r (here {holds = false} {rest} e) = (ltb-true least n (and_left (ltb least n) (rising n rest) r), omega arith)
not_later {least = least} r (there {check = (c, true)} {rest} f) =
    let above = ltb-true least c (and_left (ltb least c) (rising c rest) r) in
    let later = not_later (and_right (ltb least c) (rising c rest) r) f in
    (omega (arith, later.0), later.1)
not_later {least = least} r (there {check = (c, false)} {rest} f) =
    let above = ltb-true least c (and_left (ltb least c) (rising c rest) r) in
    let later = not_later (and_right (ltb least c) (rising c rest) r) f in
    (above, omega (arith, later.0, later.1))
