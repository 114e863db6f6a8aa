-- From a scheme table to its ruling.
use mathlib.Core.Path.{◌≡◌, refl, sym, ◌∙◌}
use mathlib.Core.Bool.{true, ◌&&◌}
use mathlib.Core.List.{List}
use Prim.Native.Nat.{ℕ, ◌<◌}
use native.Mathlib.Omega.{arith}
use lib.Dec.{eqb, ltb}
use borrow.Author.Tests.{ltb-true, lt-ltb}
use Rattle.scheme.specs.Schemes.{SchemeTable, Sound, words, below, top_of, meet_of}
use Rattle.scheme.specs.Rule.{meet_at, words_at, under, Ruled, Lattice}
use Rattle.scheme.proofs.Every.{and_left, and_right}
use Rattle.scheme.proofs.Schemes as Laws

-- A code at or below another has the two as codes.
pub under_codes : (R : List ℕ) (a b : ℕ) → under R a b ≡ true → (a < words_at R) × (b < words_at R)
unfolding under
under_codes R a b h =
    let codes = and_left (ltb a (words_at R) && ltb b (words_at R)) (eqb (meet_at R a b) a) h in
    (ltb-true a (words_at R) (and_left _ (ltb b (words_at R)) codes), ltb-true b (words_at R) (and_right (ltb a (words_at R)) _ codes))

module _ {T : SchemeTable} (sound : Sound T) {R : List ℕ} (rules : Ruled T R) where
  -- On codes the two orders are one.
  pub under_same : (a b : ℕ) → a < words T → b < words T → under R a b ≡ below T a b
  unfolding under
  under_same a b h k =
      let code_a : ltb a (words_at R) ≡ true = lt-ltb a (words_at R) (omega (arith, rules.words_same)) in
      let code_b : ltb b (words_at R) ≡ true = lt-ltb b (words_at R) (omega (arith, rules.words_same)) in
      let meets = rules.meets_same a b h k in
      rw (code_a, code_b, meets) (Laws.meet_is_left sound a b h k)

  to_below : (a b : ℕ) → under R a b ≡ true → below T a b ≡ true
  to_below a b h =
      let codes = under_codes R a b h in
      sym (under_same a b (omega (arith, codes.0, rules.words_same)) (omega (arith, codes.1, rules.words_same))) ∙ h

  to_under : (a b : ℕ) → b < words T → below T a b ≡ true → under R a b ≡ true
  to_under a b k h = under_same a b (Laws.below_code T a b h) k ∙ h

  pub lattice : Lattice R
  lattice =
      let code : (a : ℕ) → a < words_at R → a < words T = λ a h. omega (arith, rules.words_same) in
      let other : (a : ℕ) → a < words T → a < words_at R = λ a h. omega (arith, rules.words_same) in
      let meets : (a b : ℕ) → a < words_at R → b < words_at R → meet_at R a b ≡ meet_of T a b = λ a b h k. rules.meets_same a b (code a h) (code b k) in
      record {
        some = omega (arith, rules.words_same);
        few = omega (arith, rules.words_same, sound.few);
        top_code = omega (arith, rules.words_same, rules.top_same, Laws.top_code sound);
        reflexive = λ a h. to_under a a (code a h) (Laws.reflexive T a (code a h));
        transitive = λ a b c p q. to_under a c (code c (under_codes R b c q).1) (Laws.transitive T a b c (to_below a b p) (to_below b c q));
        antisymmetric = λ a b p q. Laws.antisymmetric T sound.differ a b (to_below a b p) (to_below b a q);
        plain_lowest = λ a h. to_under 0 a (code a h) (Laws.plain_lowest T a);
        top_greatest = λ a h. rw rules.top_same (to_under a (top_of T) (Laws.top_code sound) (Laws.top_greatest sound a (code a h)));
        meet_code = λ a b h k. omega (arith, meets a b h k, Laws.meet_code sound a b (code a h) (code b k), rules.words_same);
        meet_left = λ a b h k. rw (meets a b h k) (to_under (meet_of T a b) a (code a h) (Laws.meet_left sound a b (code a h) (code b k)));
        meet_right = λ a b h k. rw (meets a b h k) (to_under (meet_of T a b) b (code b k) (Laws.meet_right sound a b (code a h) (code b k)));
        meet_greatest = λ a b c p q.
            let h = (under_codes R c a p).1 in
            let k = (under_codes R c b q).1 in
            rw (meets a b h k)
            (to_under c (meet_of T a b) (Laws.meet_code sound a b (code a h) (code b k)) (Laws.meet_greatest sound a b (code a h) (code b k) c (to_below c a p) (to_below c b q)));
        highest_code = λ o h. omega (arith, rules.highest_same o h, Laws.highest_code sound o h, rules.words_same);
      }

-- A meet is the left one exactly where that is at or below the other.
pub meet_is_left : {R : List ℕ} → Lattice R → (a b : ℕ) → a < words_at R → b < words_at R → eqb (meet_at R a b) a ≡ under R a b
unfolding under
meet_is_left {R} l a b h k = rw (lt-ltb a (words_at R) h, lt-ltb b (words_at R) k) refl
