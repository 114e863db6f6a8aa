-- Tests over lists: one or the other passes, and an entry that passes.
use Prim.Native.Nat.{ℕ, zero, suc, ◌<◌}
use native.Mathlib.Omega.{arith}
use mathlib.Core.Bool.{Bool, true, false, ◌||◌, or-true, false≢true}
use mathlib.Core.List.{List, [], ◌∷◌}
use mathlib.Core.Path.{◌≡◌, refl, sym}
use lib.ListN.{length, get_or}
use Rattle.model.specs.Lists.{any_of}

pub or_cases : {P : Type 0} (a b : Bool) → (a || b) ≡ true → (a ≡ true → P) → (b ≡ true → P) → P
or_cases true b h f g = f refl
or_cases false b h f g = g h

pub or_neither : (a b : Bool) → (a || b) ≡ false → (a ≡ false) × (b ≡ false)
or_neither true b h = absurd (false≢true (sym h))
or_neither false b h = (refl, h)

-- Where an entry passes a test, some entry does, and the other way round.
pub any_at : {A : Type 0} (test : A → Bool) (xs : List A) (i : ℕ) (d : A) → i < length xs → test (get_or xs i d) ≡ true → any_of test xs ≡ true
any_at test [] i d h e = let z : ⊥ = omega arith in absurd z
any_at test (x ∷ xs) zero d h e = rw e
any_at test (x ∷ xs) (suc i) d h e = rw (any_at test xs i d (omega arith) e) (or-true (test x))

pub some_at : {A : Type 0} (test : A → Bool) (xs : List A) (d : A) → any_of test xs ≡ true → (i : ℕ) × (i < length xs) × (test (get_or xs i d) ≡ true)
some_at test [] d h = absurd (false≢true h)
some_at test (x ∷ xs) d h =
    or_cases (test x) (any_of test xs) h
    (λ here. (zero, omega arith, here))
    (λ later. let (i, within, passes) = some_at test xs d later in (suc i, omega arith, passes))
