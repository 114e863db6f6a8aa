-- A test that passes at every number below n, computed one number after the other, gives what it tests at any of them.
use mathlib.Core.Path.{◌≡◌, refl, sym, ap, ◌∙◌}
use mathlib.Core.Bool.{Bool, true, false, true≢false, cond, ◌&&◌, beq, and-eq-true_iff}
use mathlib.Core.List.{List, [], ◌∷◌}
use Prim.Native.Nat.{ℕ, zero, suc, ◌<◌, ◌≤◌}
use native.Mathlib.Nat.{le_of_suc-le-suc, not-suc-le-zero}
use native.Mathlib.Omega.{arith}
use lib.ListN.{length, get_or}
use Rattle.scheme.specs.Lists.{all_of}
pub use Rattle.scheme.specs.Lists.{implies, every, every_pair, first}

-- The two parts of a test that asks for both.
pub and_left : (a b : Bool) → (a && b) ≡ true → a ≡ true
and_left a b h = ((and-eq-true_iff a b).0 h).0

pub and_right : (a b : Bool) → (a && b) ≡ true → b ≡ true
and_right a b h = ((and-eq-true_iff a b).0 h).1

pub and_both : (a b : Bool) → a ≡ true → b ≡ true → (a && b) ≡ true
and_both a b p q = (and-eq-true_iff a b).1 (p, q)

pub implies_true : (a b : Bool) → implies a b ≡ true → a ≡ true → b ≡ true
implies_true true b h p = h
implies_true false b h p = cc

-- A test whether two tests agree.
pub beq-true : (a b : Bool) → beq a b ≡ true → a ≡ b
beq-true true true h = refl
beq-true true false h = cc
beq-true false true h = h
beq-true false false h = refl

-- Two tests that pass in the same cases agree.
pub both_ways : (a b : Bool) → (a ≡ true → b ≡ true) → (b ≡ true → a ≡ true) → a ≡ b
both_ways true b f g = sym (f refl)
both_ways false true f g = g refl
both_ways false false f g = refl

pub every_at : (n : ℕ) (test : ℕ → Bool) → every n test ≡ true → (k : ℕ) → k < n → test k ≡ true
every_at zero test h k below = absurd (not-suc-le-zero below)
every_at (suc n) test h zero below = and_left (test zero) (every n (λ k. test (suc k))) h
every_at (suc n) test h (suc k) below =
    every_at n (λ k. test (suc k)) (and_right (test zero) (every n (λ k. test (suc k))) h) k (le_of_suc-le-suc below)

-- The same for tests of two and of three numbers.
pub every_pair_at : (n : ℕ) (test : ℕ → ℕ → Bool) → every_pair n test ≡ true → (a b : ℕ) → a < n → b < n → test a b ≡ true
every_pair_at n test h a b below-a below-b = every_at n (test a) (every_at n (λ a. every n (test a)) h a below-a) b below-b

abbrev pub every_triple : ℕ → (ℕ → ℕ → ℕ → Bool) → Bool
every_triple n test = every n (λ a. every_pair n (test a))

pub every_triple_at : (n : ℕ) (test : ℕ → ℕ → ℕ → Bool) → every_triple n test ≡ true → (a b c : ℕ) → a < n → b < n → c < n → test a b c ≡ true
every_triple_at n test h a b c below-a below-b below_c =
    every_pair_at n (test a) (every_at n (λ a. every_pair n (test a)) h a below-a) b c below-b below_c

-- The other way round: a test that passes at every number below n passes the whole.
pub every_of : (n : ℕ) (test : ℕ → Bool) → ((k : ℕ) → k < n → test k ≡ true) → every n test ≡ true
every_of zero test h = refl
every_of (suc n) test h = and_both (test zero) (every n (λ k. test (suc k))) (h zero (omega arith)) (every_of n (λ k. test (suc k)) (λ k below. h (suc k) (omega arith)))

pub every_fails : (n : ℕ) (test : ℕ → Bool) (k : ℕ) → k < n → test k ≡ false → every n test ≡ false
every_fails n test k below fails = go (every n test) refl
  where
    go : (b : Bool) → every n test ≡ b → b ≡ false
    go true e = absurd (true≢false (sym (every_at n test e k below) ∙ fails))
    go false e = refl

-- The two ends of a loop over the numbers below n: all passed, or one failed.
module _ (n : ℕ) (test : ℕ → Bool) (k : ℕ) where
  pub every_true : n ≤ k → ((i : ℕ) → i < k → test i ≡ true) → true ≡ every n test
  every_true past h = sym (every_of n test (λ i below. h i (omega arith)))

  pub every_false : k < n → test k ≡ false → false ≡ every n test
  every_false below fails = sym (every_fails n test k below fails)

-- Every element of a list, by its place.
pub every_element : {A : Type 0} (test : A → Bool) (d : A) (l : List A) → every (length l) (λ k. test (get_or l k d)) ≡ all_of test l
every_element test d [] = refl
every_element test d (x ∷ xs) = ap (λ (b : Bool). test x && b) (every_element test d xs)

-- Tests that agree at every number below n agree as a whole, and in the least number that passes.
pub every_same : (n : ℕ) (f g : ℕ → Bool) → ((k : ℕ) → k < n → f k ≡ g k) → every n f ≡ every n g
every_same zero f g h = refl
every_same (suc n) f g h = cc (h zero (omega arith), every_same n (λ k. f (suc k)) (λ k. g (suc k)) (λ k below. h (suc k) (omega arith)))

pub first-same : (n : ℕ) (f g : ℕ → Bool) → ((k : ℕ) → k < n → f k ≡ g k) → first n f ≡ first n g
first-same zero f g h = refl
first-same (suc n) f g h = cc (h zero (omega arith), first-same n (λ k. f (suc k)) (λ k. g (suc k)) (λ k below. h (suc k) (omega arith)))

pub implies_of : (a b : Bool) → (a ≡ true → b ≡ true) → implies a b ≡ true
implies_of true b h = h refl
implies_of false b h = refl

-- The least number that passes the test passes it.
pub first_passes : (n : ℕ) (test : ℕ → Bool) → first n test < n → test (first n test) ≡ true
first_passes zero test h = absurd (not-suc-le-zero h)
first_passes (suc n) test h = go (test zero) refl (first_passes n (λ k. test (suc k)))
  where
    go : (b : Bool) → test zero ≡ b → (first n (λ k. test (suc k)) < n → test (suc (first n (λ k. test (suc k)))) ≡ true) → test (first (suc n) test) ≡ true
    go true e later = rw e e
    go false e later = let shorter : first n (λ k. test (suc k)) < n = omega (arith, rw e at h) in rw e (later shorter)

-- It is known from those before it, and where none passes it is n.
pub first-none : (n : ℕ) (test : ℕ → Bool) → ((k : ℕ) → k < n → test k ≡ false) → first n test ≡ n
first-none zero test none = refl
first-none (suc n) test none = rw (none zero (omega arith)) (ap suc (first-none n (λ k. test (suc k)) (λ k below. none (suc k) (omega arith))))

pub first-at : (n : ℕ) (test : ℕ → Bool) (c : ℕ) → c < n → ((k : ℕ) → k < c → test k ≡ false) → test c ≡ true → first n test ≡ c
first-at zero test c below none passes = absurd (not-suc-le-zero below)
first-at (suc n) test zero below none passes = rw passes refl
first-at (suc n) test (suc c) below none passes =
    rw (none zero (omega arith)) (ap suc (first-at n (λ k. test (suc k)) c (omega arith) (λ k before. none (suc k) (omega arith)) passes))

pub first_most : (n : ℕ) (test : ℕ → Bool) → first n test ≤ n
first_most zero test = omega arith
first_most (suc n) test = go (test zero) (first_most n (λ k. test (suc k)))
  where
    go : (b : Bool) → first n (λ k. test (suc k)) ≤ n → cond b zero (suc (first n (λ k. test (suc k)))) ≤ suc n
    go true h = omega arith
    go false h = omega arith
