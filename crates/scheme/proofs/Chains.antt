-- What std's methods give, where a closure computes a test: over the numbers below n `all` is `every` and `find` is `first`, over a list `all` is `all_of`; and `array::from_fn` fills an array.
use Prim.Native.Nat.{ℕ, zero, suc, ◌+◌, ◌-◌, ◌<◌, ◌≤◌}
use native.Mathlib.Decide.{ℕ_discrete}
use native.Mathlib.Omega.{arith}
use mathlib.Core.Bool.{Bool, true, false, cond, ◌&&◌}
use mathlib.Core.List.{List, [], ◌∷◌}
use mathlib.Core.Path.{◌≡◌, refl, sym, ap, ◌∙◌}
use denote.Param.Members.{Mut, Called}
use denote.Ref.{Bor}
use lib.Dec.{ltb}
use lib.ListN.{get_or}
use borrow.Author.Tests.{lt-ltb, le-ltb}
use Rattle.std.specs.Fn.{CalledAt}
use Rattle.std.specs.Iterator.{YieldsThen}
use Rattle.std.specs.List.{FoldsTo, list_all, range_with_len}
use Rattle.std.specs.Option.{MatchOption}
use Rattle.std.specs.Bool.{⊤}
use Rattle.std.specs.declared.option.Option.{Option}
use Rattle.std.specs.declared.option.Option.TheVariants.{Some, None}
use Rattle.std.specs.declared.ops.Range.{Range}
use Rattle.std.proofs.iter.Yields.{nat_range_steps}
use Rattle.std.proofs.lemmas.Iterator.{YieldsList-from_range, first_from_Range}
use Rattle.std.proofs.lemmas.Iterator.Search.{all_from_yields_List}
use Rattle.std.specs.Array.{IsFromFnResult, IsFromFnResultFrom}
use Rattle.scheme.specs.Lists.{all_of, every, first}
use Rattle.scheme.specs.Filled.{Filled}
use Rattle.scheme.proofs.Every.{first-at, first-none, every_same}

-- The numbers from a on.
all_range : (test : ℕ → Bool) (n a : ℕ) → list_all test (range_with_len a n) ≡ every n (λ k. test (a + k))
all_range test zero a = refl
all_range test (suc n) a =
    let here : a + 0 ≡ a = omega arith in
    rw here (ap (λ (b : Bool). test a && b) (all_range test n (a + 1) ∙ every_same n (λ k. test (a + 1 + k)) (λ k. test (a + suc k)) (λ k below. let e : a + 1 + k ≡ a + suc k = omega arith in ap test e)))

module _ {F : Type 0} {g : Mut F (ℕ × Unit {0}) Bool} (test : ℕ → Bool) where
  pub all_every : {s : Range ℕ} (u : Range ℕ) (f : F) (n : ℕ) (r : Bool) → s ≡ record { start = 0; end = n } → (xs : List ℕ) × (o : Option ℕ) × (j : F) × YieldsThen nat_range_steps s xs o u × FoldsTo (λ p x q. Called g p (x, tt) true q) f xs j × MatchOption o (r ≡ true) (λ x. (r ≡ false) × ((h : F) × Called g j (x, tt) false h)) →
      ((x : ℕ) (b : Bool) (q : F) → Called g f (x, tt) b q → (q ≡ f) × (b ≡ test x)) → r ≡ every n test
  all_every {s} u f n r whole ran calls =
      let size : n - 0 ≡ n = omega arith in
      all_from_yields_List test u f r ran (YieldsList-from_range 0 n n whole size) calls ∙ all_range test n 0
      ∙ every_same n (λ k. test (0 + k)) test (λ k below. let e : 0 + k ≡ k = omega arith in ap test e)

-- Every element of a list.
pub all_list : {A : Type 0} (test : A → Bool) (l : List A) → list_all test l ≡ all_of test l
all_list test [] = refl
all_list test (x ∷ xs) = ap (λ (b : Bool). test x && b) (all_list test xs)

-- The least number that passes the test, if there is one.
first_of : (n : ℕ) (test : ℕ → Bool) (r : Option ℕ) → MatchOption r ((k : ℕ) → 0 ≤ k → k < n → test k ≡ false) (λ i. (0 ≤ i) × (i < n) × (test i ≡ true) × ((k : ℕ) → 0 ≤ k → k < i → test k ≡ false)) →
    r ≡ cond (ltb (first n test) n) (Some (first n test)) None
first_of n test None none =
    let e : first n test ≡ n = first-none n test (λ k below. none k (omega arith) below) in rw (e, le-ltb n n (omega arith)) refl
first_of n test (Some i) (low, below, passes, before) =
    let e : first n test ≡ i = first-at n test i below (λ k h. before k (omega arith) h) passes in rw (e, lt-ltb i n below) refl

module _ {F : Type 0} {g : Mut F (Bor ℕ × Unit {0}) Bool} (test : ℕ → Bool) where
  pub find_first : {s : Range ℕ} (u : Range ℕ) (f : F) (n : ℕ) (r : Option ℕ) → s ≡ record { start = 0; end = n } → (xs : List ℕ) × (j : F) × YieldsThen nat_range_steps s xs r u × FoldsTo (λ p x q. CalledAt g p x false q) f xs j × MatchOption r ⊤ (λ x. (h : F) × CalledAt g j x true h) →
      ((x : ℕ) (b : Bool) (q : F) → CalledAt g f x b q → (q ≡ f) × (b ≡ test x)) → r ≡ cond (ltb (first n test) n) (Some (first n test)) None
  find_first {s} u f n r whole ran calls =
      first_of n test r (rw whole at (first_from_Range s u f r (λ x. test x ≡ true) (λ x. test x ≡ false) ran (λ x q call. sym (calls x true q call).1) (λ x q call. let c = calls x false q call in (c.0, sym c.1))))

-- An array that calls of a closure made.
module _ {F A : Type 0} {g : Mut F (ℕ × Unit {0}) A} (Right : ℕ → A → Type 0) (f : F) where
  made : (xs : List A) (i n : ℕ) → ((x : ℕ) (a : A) (q : F) → Called g f (x, tt) a q → (q ≡ f) × Right x a) → IsFromFnResultFrom g f xs i n → (d : A) (k : ℕ) → i ≤ k → k < i + n → Right k (get_or xs k d)
  made xs i zero calls h d k low below = absurd (omega arith)
  made xs i (suc n) calls (q, y, at, call, rest) d k low below = go (ℕ_discrete k i) (made xs (i + 1) n calls (rw (calls i y q call).0 at rest) d k)
    where
      go : Dec (k ≡ i) → (i + 1 ≤ k → k < i + 1 + n → Right k (get_or xs k d)) → Right k (get_or xs k d)
      go (yes e) later = rw (e, at.1 d) (calls i y q call).1
      go (no other) later = later (omega arith) (omega arith)

  pub filled_made : {d : A} {size : ℕ} {xs : List A} → IsFromFnResult g f xs size → ((x : ℕ) (a : A) (q : F) → Called g f (x, tt) a q → (q ≡ f) × Right x a) → Filled d size Right size xs
  filled_made {d} {size} {xs} made_by calls = record { sized = made_by.long; held = λ i below. made xs 0 size calls made_by.each d i (omega arith) (omega arith) }
