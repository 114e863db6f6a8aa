-- The laws of a scheme table's order, and of its greatest, meeting and highest qualifiers.
use mathlib.Core.Path.{◌≡◌, refl, sym, ap, ◌∙◌}
use mathlib.Core.List.{List, [], ◌∷◌}
use mathlib.Core.Bool.{Bool, true, false, false≢true, not, ◌&&◌, ◌||◌, beq}
use Prim.Native.Nat.{ℕ, zero, suc, ◌<◌, ◌≤◌}
use native.Mathlib.Decide.{dec_lt}
use native.Mathlib.Omega.{arith}
use lib.Dec.{eqb, ltb, leb}
use lib.ListN.{length}
use borrow.Author.Tests.{ltb-true, lt-ltb, le-ltb, eqb-true, eq-eqb, ne_eqb}
use Rattle.scheme.specs.Lists.{bytes, same, all_of}
use Rattle.scheme.specs.Schemes.{SchemeTable, is_capital, is_name, words, supports, below, greatest, top_of, meet_of, highest_of, alike, bits_differ, has_meets, has_highest, Sound}
use Rattle.scheme.proofs.Every.{and_left, and_right, and_both, implies, implies_true, implies_of, both_ways, every, every_at, every_of, every_fails, every_pair_at, first_passes}

pub name_short : (s : List ℕ) → is_name s ≡ true → leb (length s) 5 ≡ true
unfolding is_name
name_short s h = and_right (leb 1 (length s)) _ (and_left _ (all_of is_capital s) (and_left _ (not (same s (bytes "PLAIN"))) h))

module _ (T : SchemeTable) where
  abbrev wider_at_lem : ℕ → ℕ → ℕ → Bool
  wider_at_lem a b o = implies (supports T b o) (supports T a o)

  -- The order as one rule for all codes: the operations have the places 0 to 4, and the place 5 has PLAIN alone.
  abbrev pub wider : ℕ → ℕ → Bool
  wider a b = every 6 (wider_at_lem a b)

  scheme_not_plain : (c : ℕ) → eqb (suc c) 0 ≡ false
  scheme_not_plain c = ne_eqb (suc c) 0 (λ e. omega arith)

  no_scheme_at_5 : (c : ℕ) → supports T (suc c) 5 ≡ false
  no_scheme_at_5 c = rw (scheme_not_plain c) refl

  places : (a b : ℕ) → every 5 (wider_at_lem (suc a) (suc b)) ≡ wider (suc a) (suc b)
  places a b =
      both_ways (every 5 (wider_at_lem (suc a) (suc b))) (wider (suc a) (suc b))
      (λ h. every_of 6 (wider_at_lem (suc a) (suc b)) (λ o in_range. go o (dec_lt o 5) in_range h))
      (λ h. every_of 5 (wider_at_lem (suc a) (suc b)) (λ o in_range. every_at 6 (wider_at_lem (suc a) (suc b)) h o (omega arith)))
    where
      go : (o : ℕ) → Dec (o < 5) → o < 6 → every 5 (wider_at_lem (suc a) (suc b)) ≡ true → wider_at_lem (suc a) (suc b) o ≡ true
      go o (yes below) in_range h = every_at 5 (wider_at_lem (suc a) (suc b)) h o below
      go o (no past) in_range h = let e : o ≡ 5 = omega arith in rw (e, no_scheme_at_5 b) refl

  by_tests : {c : Bool} (p q w : Bool) → p ≡ false → q ≡ c → (p || (q && w)) ≡ (c && w)
  by_tests p q w first second = rw (first, second) refl

  pub below_wider : (a b : ℕ) → below T a b ≡ (ltb a (words T) && wider a b)
  unfolding below
  below_wider zero b = ap (λ (w : Bool). ltb 0 (words T) && w) (sym (every_of 6 (wider_at_lem 0 b) (λ o in_range. implies_of (supports T b o) true (λ s. refl))))
  below_wider (suc a) zero =
      let fails : wider (suc a) 0 ≡ false = every_fails 6 (wider_at_lem (suc a) 0) 5 (omega arith) (no_scheme_at_5 a) in
      ap (λ (w : Bool). ltb (suc a) (words T) && w) (by_tests (eqb (suc a) 0) false (every 5 (wider_at_lem (suc a) 0)) (scheme_not_plain a) refl ∙ sym fails)
  below_wider (suc a) (suc b) =
      ap (λ (w : Bool). ltb (suc a) (words T) && w)
      (by_tests (eqb (suc a) 0) (not (eqb (suc b) 0)) (every 5 (wider_at_lem (suc a) (suc b))) (scheme_not_plain a) (ap not (scheme_not_plain b)) ∙ places a b)

  -- What a qualifier at or below another has.
  pub below_code : (a b : ℕ) → below T a b ≡ true → a < words T
  below_code a b h = ltb-true a (words T) (and_left _ (wider a b) (sym (below_wider a b) ∙ h))

  pub below_supports : (a b o : ℕ) → o < 6 → below T a b ≡ true → supports T b o ≡ true → supports T a o ≡ true
  below_supports a b o in_range h s =
      implies_true (supports T b o) (supports T a o) (every_at 6 (wider_at_lem a b) (and_right (ltb a (words T)) (wider a b) (sym (below_wider a b) ∙ h)) o in_range) s

  pub below_of : (a b : ℕ) → a < words T → ((o : ℕ) → o < 6 → supports T b o ≡ true → supports T a o ≡ true) → below T a b ≡ true
  below_of a b code more =
      below_wider a b
      ∙ and_both _ _ (lt-ltb a (words T) code) (every_of 6 (wider_at_lem a b) (λ o in_range. implies_of (supports T b o) (supports T a o) (more o in_range)))

  -- "the order is reflexive and transitive"
  pub reflexive : (a : ℕ) → a < words T → below T a a ≡ true
  reflexive a code = below_of a a code (λ o in_range s. s)

  pub transitive : (a b c : ℕ) → below T a b ≡ true → below T b c ≡ true → below T a c ≡ true
  transitive a b c first second = below_of a c (below_code a b first) (λ o in_range s. below_supports a b o in_range first (below_supports b c o in_range second s))

  -- "PLAIN is below all"
  pub plain_lowest : (a : ℕ) → below T 0 a ≡ true
  plain_lowest a = below_of 0 a (omega arith) (λ o in_range s. refl)

  no_scheme : (c : ℕ) → supports T (suc c) 5 ≡ true → ⊥
  no_scheme c h = false≢true (sym (no_scheme_at_5 c) ∙ h)

  -- Where no two schemes support the same, different qualifiers are not at or below each other both ways.
  module _ (differ : bits_differ T ≡ true) where
    same_support : (a b : ℕ) → below T a b ≡ true → below T b a ≡ true → alike T a b ≡ true
    same_support a b p q =
        every_of 5 (λ o. beq (supports T a o) (supports T b o)) (λ o in_range.
        let same : supports T a o ≡ supports T b o =
        both_ways _ _ (below_supports b a o (omega arith) q) (below_supports a b o (omega arith) p) in rw same (beq_same (supports T b o)))
      where
        beq_same : (b : Bool) → beq b b ≡ true
        beq_same true = refl
        beq_same false = refl

    pub antisymmetric : (a b : ℕ) → below T a b ≡ true → below T b a ≡ true → a ≡ b
    unfolding bits_differ
    antisymmetric zero zero p q = refl
    antisymmetric zero (suc b) p q = absurd (no_scheme b (below_supports (suc b) 0 5 (omega arith) q refl))
    antisymmetric (suc a) zero p q = absurd (no_scheme a (below_supports (suc a) 0 5 (omega arith) p refl))
    antisymmetric (suc a) (suc b) p q =
        let e : a ≡ b =
        eqb-true a b
        (implies_true _ _
        (every_pair_at (length T.names) (λ i j. implies (alike T (suc i) (suc j)) (eqb i j)) differ a b (omega (arith, below_code _ _ p)) (omega (arith, below_code _ _ q)))
        (same_support (suc a) (suc b) p q)) in
        cc

  -- The greatest of those that pass a test passes it, and all that pass are at or below it.
  module _ (test : ℕ → Bool) (found : greatest T test < words T) where
    abbrev best : ℕ → Bool
    best c = test c && every (words T) (λ d. implies (test d) (below T d c))

    best_found : best (greatest T test) ≡ true
    unfolding greatest
    best_found = first_passes (words T) best found

    pub greatest_passes : test (greatest T test) ≡ true
    greatest_passes = and_left _ (every (words T) (λ d. implies (test d) (below T d (greatest T test)))) best_found

    pub greatest_above : (d : ℕ) → d < words T → test d ≡ true → below T d (greatest T test) ≡ true
    greatest_above d code h =
        implies_true (test d) _ (every_at (words T) (λ d. implies (test d) (below T d (greatest T test))) (and_right (test (greatest T test)) _ best_found) d code) h

module _ {T : SchemeTable} (r : Sound T) where
  pub sound_few : words T ≤ 9
  sound_few = omega (arith, r.few)

  -- No name is longer than PLAIN.
  pub sound_short : all_of (λ s. leb (length s) 5) T.names ≡ true
  sound_short = go T.names r.named
    where
      go : (names : List (List ℕ)) → all_of is_name names ≡ true → all_of (λ s. leb (length s) 5) names ≡ true
      go [] h = refl
      go (s ∷ names) h = and_both _ _ (name_short s (and_left _ (all_of is_name names) h)) (go names (and_right (is_name s) _ h))

  pub top_code : top_of T < words T
  unfolding has_meets
  top_code = ltb-true _ _ (and_left _ _ r.meets)

  pub top_greatest : (a : ℕ) → a < words T → below T a (top_of T) ≡ true
  top_greatest a code = greatest_above T (λ c. true) top_code a code refl

  module _ (a b : ℕ) (code_a : a < words T) (code_b : b < words T) where
    pub meet_code : meet_of T a b < words T
    unfolding has_meets
    meet_code = ltb-true _ _ (every_pair_at (words T) (λ a b. ltb (meet_of T a b) (words T)) (and_right (ltb (top_of T) (words T)) _ r.meets) a b code_a code_b)

    meet_both : (below T (meet_of T a b) a && below T (meet_of T a b) b) ≡ true
    meet_both = greatest_passes T (λ c. below T c a && below T c b) meet_code

    pub meet_left : below T (meet_of T a b) a ≡ true
    meet_left = and_left _ _ meet_both

    pub meet_right : below T (meet_of T a b) b ≡ true
    meet_right = and_right (below T (meet_of T a b) a) _ meet_both

    pub meet_greatest : (c : ℕ) → below T c a ≡ true → below T c b ≡ true → below T c (meet_of T a b) ≡ true
    meet_greatest c p q = greatest_above T (λ c. below T c a && below T c b) meet_code c (below_code T c a p) (and_both _ _ p q)

    pub meet_is_left : eqb (meet_of T a b) a ≡ below T a b
    meet_is_left =
        both_ways (eqb (meet_of T a b) a) (below T a b)
        (λ same. rw (eqb-true (meet_of T a b) a same) at meet_right)
        (λ p. eq-eqb (meet_of T a b) a (antisymmetric T r.differ (meet_of T a b) a meet_left (meet_greatest a (reflexive T a code_a) p)))

  -- The highest scheme of an operation is a code, and a qualifier is at or below it exactly where it supports the operation.
  pub highest_code : (o : ℕ) → o < 5 → highest_of T o < words T
  unfolding has_highest
  highest_code o in_range = ltb-true _ _ (every_at 5 (λ o. ltb (highest_of T o) (words T)) r.highest o in_range)

  pub highest_supports : (o c : ℕ) → o < 5 → c < words T → below T c (highest_of T o) ≡ supports T c o
  highest_supports o c in_range code =
      both_ways (below T c (highest_of T o)) (supports T c o)
      (λ p. below_supports T c (highest_of T o) o (omega arith) p (greatest_passes T (λ c. supports T c o) (highest_code o in_range)))
      (λ s. greatest_above T (λ c. supports T c o) (highest_code o in_range) c code s)

  -- Past the five operations PLAIN is the highest, so that the highest is always a code.
  past_highest : (o : ℕ) → 5 ≤ o → highest_of T o ≡ 0
  unfolding greatest
  past_highest o past =
      let none : ltb o 5 ≡ false = le-ltb o 5 past in
      let all : every (words T) (λ d. implies (supports T d o) (below T d 0)) ≡ true =
      every_of (words T) (λ d. implies (supports T d o) (below T d 0)) (λ d code. implies_of (supports T d o) (below T d 0) (λ s. plain_only d (rw none at s))) in
      rw all refl
    where
      plain_only : (d : ℕ) → (eqb d 0 || false) ≡ true → below T d 0 ≡ true
      plain_only zero s = plain_lowest T 0
      plain_only (suc d) s = let scheme : eqb (suc d) 0 ≡ false = ne_eqb (suc d) 0 (λ e. omega arith) in absurd (false≢true (rw scheme at s))

  pub highest_code_all : (o : ℕ) → highest_of T o < words T
  highest_code_all o = go (dec_lt o 5)
    where
      go : Dec (o < 5) → highest_of T o < words T
      go (yes in_range) = highest_code o in_range
      go (no past) = let e : highest_of T o ≡ 0 = past_highest o (omega arith) in omega arith
