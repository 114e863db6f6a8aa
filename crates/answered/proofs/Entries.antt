-- Lists whose every entry has a property, lists filled up to a length, and tabulated ones.
use Prim.Native.Nat.{ℕ, zero, suc, ◌-◌, ◌≤◌, ◌<◌}
use native.Mathlib.Omega.{arith}
use mathlib.Core.List.{List, [], ◌∷◌, ◌++◌}
use mathlib.Core.Path.{◌≡◌, refl, ap}
use lib.ListN.{length, get_or, take, replicate, length-append, length-replicate}
use lib.Seq.{take-append_seam}

-- Filled up to n entries.
abbrev pub filled : {A : Type 0} → ℕ → A → List A → List A
filled n d xs = xs ++ replicate (n - length xs) d

pub length-filled : {A : Type 0} (n : ℕ) (d : A) (xs : List A) → length xs ≤ n → length (filled n d xs) ≡ n
length-filled n d xs h = simp (length-append, length-replicate) (omega arith)

pub take_filled : {A : Type 0} (n : ℕ) (d : A) (xs : List A) → take (length xs) (filled n d xs) ≡ xs
take_filled n d xs = take-append_seam xs (replicate (n - length xs) d)

-- What a function gives at the numbers below n.
abbrev pub tabulated : {A : Type 0} → ℕ → (ℕ → A) → List A
tabulated zero f = []
tabulated (suc n) f = f zero ∷ tabulated n (λ k. f (suc k))

pub length_tabulated : {A : Type 0} (n : ℕ) (f : ℕ → A) → length (tabulated n f) ≡ n
length_tabulated zero f = refl
length_tabulated (suc n) f = ap suc (length_tabulated n (λ k. f (suc k)))

pub get_d_tabulated : {A : Type 0} (n : ℕ) (f : ℕ → A) (d : A) (i : ℕ) → i < n → get_or (tabulated n f) i d ≡ f i
get_d_tabulated zero f d i h = absurd (omega arith)
get_d_tabulated (suc n) f d zero h = refl
get_d_tabulated (suc n) f d (suc i) h = get_d_tabulated n (λ k. f (suc k)) d i (omega arith)

-- A property that the entry past the end has as well.
module _ {A : Type 0} (P : A → Type 0) (d : A) (past : P d) where
  abbrev pub Each : List A → Type 0
  Each xs = (i : ℕ) → P (get_or xs i d)

  each_below : (xs : List A) → ((i : ℕ) → i < length xs → P (get_or xs i d)) → Each xs
  each_below [] h i = past
  each_below (x ∷ xs) h zero = h 0 (omega arith)
  each_below (x ∷ xs) h (suc i) = each_below xs (λ j below. h (suc j) (omega arith)) i

  each_same : (k : ℕ) → Each (replicate k d)
  each_same zero i = past
  each_same (suc k) zero = past
  each_same (suc k) (suc i) = each_same k i

  pub each_joined : (xs ys : List A) → Each xs → Each ys → Each (xs ++ ys)
  each_joined [] ys h k i = k i
  each_joined (x ∷ xs) ys h k zero = h 0
  each_joined (x ∷ xs) ys h k (suc i) = each_joined xs ys (λ j. h (suc j)) k i

  pub each_filled : (n : ℕ) (xs : List A) → ((i : ℕ) → i < length xs → P (get_or xs i d)) → Each (filled n d xs)
  each_filled n xs h = each_joined xs (replicate (n - length xs) d) (each_below xs h) (each_same (n - length xs))

  pub each-cons : (a : A) (xs : List A) → P a → Each xs → Each (a ∷ xs)
  each-cons a xs p h zero = p
  each-cons a xs p h (suc i) = h i

  pub each_appended : (xs : List A) (a : A) → Each xs → P a → Each (xs ++ (a ∷ []))
  each_appended xs a h p = each_joined xs (a ∷ []) h (each-cons a [] p (λ i. past))

  pub each_tabulated : (n : ℕ) (f : ℕ → A) → ((i : ℕ) → P (f i)) → Each (tabulated n f)
  each_tabulated zero f h i = past
  each_tabulated (suc n) f h zero = h 0
  each_tabulated (suc n) f h (suc i) = each_tabulated n (λ k. f (suc k)) (λ k. h (suc k)) i

  pub each_taken : (k : ℕ) (xs : List A) → Each xs → Each (take k xs)
  each_taken zero xs h i = past
  each_taken (suc k) [] h i = past
  each_taken (suc k) (x ∷ xs) h zero = h 0
  each_taken (suc k) (x ∷ xs) h (suc i) = each_taken k xs (λ j. h (suc j)) i
