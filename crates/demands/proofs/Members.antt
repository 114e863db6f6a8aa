-- Numbers of a list: one that passes a test or fails it, and those in front of another.
use Prim.Native.Nat.{ℕ, ◌<◌}
use native.Mathlib.Omega.{arith}
use mathlib.Core.Bool.{Bool, true, false, cond, ◌&&◌, ◌||◌, or-true, and-false, false≢true}
use mathlib.Core.List.{List, [], ◌∷◌}
use mathlib.Core.Path.{◌≡◌, refl, sym, ap, ◌∙◌}
use lib.Dec.{eqb, ltb}
use borrow.Author.Tests.{eqb-true, eqb-false, eq-eqb, ltb-true, ltb-false, le-ltb}
use Rattle.scheme.proofs.Every.{and_left, and_right}
use Rattle.model.specs.Lists.{any_of, all_of, contains}
use Rattle.checks.proofs.Tests.{or_cases}
use Rattle.demands.specs.Refusals.{in_front_of}

-- A number of the longer list is the first or one of the rest.
first_among : (a : ℕ) (ns : List ℕ) → contains a (a ∷ ns) ≡ true
first_among a ns = ap (λ (t : Bool). t || contains a ns) (eq-eqb a a refl)

later_among : (n a : ℕ) (ns : List ℕ) → contains n ns ≡ true → contains n (a ∷ ns) ≡ true
later_among n a ns h = ap (λ (t : Bool). eqb n a || t) h ∙ or-true (eqb n a)

among_cases : {P : Type 0} (n a : ℕ) (ns : List ℕ) → contains n (a ∷ ns) ≡ true → (n ≡ a → P) → (contains n ns ≡ true → P) → P
among_cases n a ns h first later = or_cases (eqb n a) (contains n ns) h (λ same. first (eqb-true n a same)) later

pub and_cases : {P : Type 0} (a b : Bool) → (a && b) ≡ false → (a ≡ false → P) → (b ≡ false → P) → P
and_cases true b h f g = g h
and_cases false b h f g = f refl

module _ (test : ℕ → Bool) where
  -- Some number of the list passes the test.
  pub some_passes : (ns : List ℕ) → any_of test ns ≡ true → (n : ℕ) × (contains n ns ≡ true) × (test n ≡ true)
  some_passes [] h = absurd (false≢true h)
  some_passes (a ∷ ns) h =
      or_cases (test a) (any_of test ns) h
      (λ passes. (a, first_among a ns, passes))
      (λ later. let (n, among, passes) = some_passes ns later in (n, later_among n a ns among, passes))

  pub one_passes : (n : ℕ) (ns : List ℕ) → contains n ns ≡ true → test n ≡ true → any_of test ns ≡ true
  one_passes n [] h e = absurd (false≢true h)
  one_passes n (a ∷ ns) h e =
      among_cases n a ns h
      (λ same. ap (λ (t : Bool). t || any_of test ns) (ap test (sym same) ∙ e))
      (λ later. ap (λ (t : Bool). test a || t) (one_passes n ns later e) ∙ or-true (test a))

  -- Some number of the list fails it.
  some_fails : (ns : List ℕ) → all_of test ns ≡ false → (n : ℕ) × (contains n ns ≡ true) × (test n ≡ false)
  some_fails [] h = absurd (false≢true (sym h))
  some_fails (a ∷ ns) h =
      and_cases (test a) (all_of test ns) h
      (λ fails. (a, first_among a ns, fails))
      (λ later. let (n, among, fails) = some_fails ns later in (n, later_among n a ns among, fails))

  one_fails : (n : ℕ) (ns : List ℕ) → contains n ns ≡ true → test n ≡ false → all_of test ns ≡ false
  one_fails n [] h e = absurd (false≢true h)
  one_fails n (a ∷ ns) h e =
      among_cases n a ns h
      (λ same. ap (λ (t : Bool). t && all_of test ns) (ap test (sym same) ∙ e))
      (λ later. ap (λ (t : Bool). test a && t) (one_fails n ns later e) ∙ and-false (test a))

  all_pass : (n : ℕ) (ns : List ℕ) → all_of test ns ≡ true → contains n ns ≡ true → test n ≡ true
  all_pass n [] all h = absurd (false≢true h)
  all_pass n (a ∷ ns) all h =
      among_cases n a ns h
      (λ same. ap test same ∙ and_left (test a) (all_of test ns) all)
      (all_pass n ns (and_right (test a) (all_of test ns) all))

-- Where not every number is below a limit, some one is not.
module _ (limit : ℕ) (ns : List ℕ) where
  pub some_not_below : all_of (λ n. ltb n limit) ns ≡ false → (n : ℕ) × (contains n ns ≡ true) × ¬ (n < limit)
  some_not_below h =
      let (n, among, fails) = some_fails (λ n. ltb n limit) ns h in
      (n, among, λ below. let past = ltb-false n limit fails in omega arith)

  pub one_not_below : (n : ℕ) → contains n ns ≡ true → ¬ (n < limit) → all_of (λ n. ltb n limit) ns ≡ false
  one_not_below n among past = one_fails (λ n. ltb n limit) n ns among (le-ltb n limit (omega arith))

-- What stands in front of k in a list that begins with another number.
in_front_cases : {P : Type 0} (k n a : ℕ) (ns : List ℕ) → contains n (in_front_of k (a ∷ ns)) ≡ true →
    (¬ (a ≡ k) → n ≡ a → P) → (¬ (a ≡ k) → contains n (in_front_of k ns) ≡ true → P) → P
in_front_cases {P} k n a ns h first later = by (eqb a k) refl h
  where
    by : (t : Bool) → eqb a k ≡ t → contains n (cond t [] (a ∷ in_front_of k ns)) ≡ true → P
    by true e h = absurd (false≢true h)
    by false e h = among_cases n a (in_front_of k ns) h (first (eqb-false a k e)) (later (eqb-false a k e))

-- No number stands in front of itself.
pub not_in_front : (n : ℕ) (ns : List ℕ) → ¬ (contains n (in_front_of n ns) ≡ true)
not_in_front n [] h = false≢true h
not_in_front n (a ∷ ns) h = in_front_cases n n a ns h (λ other same. other (sym same)) (λ other. not_in_front n ns)

-- In a list of numbers that rise, those in front of one are less.
abbrev pub rising : List ℕ → Bool
rising [] = true
rising (a ∷ ns) = all_of (λ n. ltb a n) ns && rising ns

pub in_front_less : (k n : ℕ) (ns : List ℕ) → rising ns ≡ true → contains k ns ≡ true → contains n (in_front_of k ns) ≡ true → n < k
in_front_less k n [] r among h = absurd (false≢true h)
in_front_less k n (a ∷ ns) r among h =
    let after : ¬ (a ≡ k) → contains k ns ≡ true = λ other. among_cases k a ns among (λ same. absurd (other (sym same))) (λ later. later) in
    let above = and_left (all_of (λ n. ltb a n) ns) (rising ns) r in
    in_front_cases k n a ns h
    (λ other same. let less = ltb-true a k (all_pass (λ n. ltb a n) k ns above (after other)) in omega arith)
    (λ other. in_front_less k n ns (and_right (all_of (λ n. ltb a n) ns) (rising ns) r) (after other))
