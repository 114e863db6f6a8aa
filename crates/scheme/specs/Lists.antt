-- Tests over lists and over the numbers below a limit, and texts as bytes.
use Rattle.std.specs.Prelude.{ℕ, zero, suc, Bool, true, false, cond, ◌||◌, ◌&&◌, List, [], ◌∷◌, eqb}
use Prim.Native.Char.{code}
use Prim.Native.String.{String}

-- The bytes of a text in quotes.
abbrev pub bytes : String → List ℕ
bytes String.[] = []
bytes (String.◌∷◌ c s) = code c ∷ bytes s

-- The same bytes.
abbrev pub same : List ℕ → List ℕ → Bool
same [] [] = true
same [] (b ∷ bs) = false
same (a ∷ as') [] = false
same (a ∷ as') (b ∷ bs) = eqb a b && same as' bs

-- Every element passes the test.
abbrev pub all_of : {A : Type 0} → (A → Bool) → List A → Bool
all_of test [] = true
all_of test (x ∷ xs) = test x && all_of test xs

-- Some element passes the test.
abbrev pub any_of : {A : Type 0} → (A → Bool) → List A → Bool
any_of test [] = false
any_of test (x ∷ xs) = test x || any_of test xs

-- A test that asks for b only where a passes.
abbrev pub implies : Bool → Bool → Bool
implies true b = b
implies false b = true

-- The test passes at each number below n.
abbrev pub every : ℕ → (ℕ → Bool) → Bool
every zero test = true
every (suc n) test = test zero && every n (λ k. test (suc k))

-- The same for tests of two numbers.
abbrev pub every_pair : ℕ → (ℕ → ℕ → Bool) → Bool
every_pair n test = every n (λ a. every n (test a))

-- The least number below n that passes the test; n where none does.
abbrev pub first : ℕ → (ℕ → Bool) → ℕ
first zero test = zero
first (suc n) test = cond (test zero) zero (suc (first n (λ k. test (suc k))))
