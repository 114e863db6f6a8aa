-- Digits without a leading zero: a digit more at their end, a digit less, and that they are what the definition of a number takes.
use Prim.Native.Nat.{ℕ, ◌+◌, ◌-◌, ◌*◌, ◌≤◌, ◌<◌}
use native.Mathlib.Omega.{arith}
use mathlib.Core.Bool.{Bool, true, false, ◌&&◌, cond}
use mathlib.Core.List.{List, [], ◌∷◌, ◌++◌}
use mathlib.Core.Path.{◌≡◌, refl, sym, ◌∙◌}
use lib.Dec.{eqb, leb}
use lib.ListN.{get_or}
use borrow.Author.Tests.{le-leb, leb-true, ne_eqb, eqb-false, not-true}
use Rattle.std.specs.Prelude.{Some, None}
use Rattle.scheme.proofs.Every.{and_left, and_right, and_both}
use Rattle.model.specs.Lists.{all_of}
use Rattle.model.specs.Number.{is_digit, value_from, no_leading_zero, number_of}
use Rattle.model.proofs.Digits.{value_grows}

-- The bytes are digits of the value n without a leading zero; where n is not 0 the first is no 0, so that digits may follow.
pub record Numeral (n : ℕ) (w : List ℕ) : Type 0 where
  pub all_digits : all_of is_digit w ≡ true
  pub value : value_from 0 w ≡ n
  pub led : no_leading_zero w ≡ true
  pub first : 0 < n → get_or w 0 0 ≡ 48 → ⊥

-- A digit, by its byte.
pub is_digit_lem : (b : ℕ) → 48 ≤ b → b ≤ 57 → is_digit b ≡ true
is_digit_lem b low high = simp (le-leb 48 b low, le-leb b 57 high)

pub digit_low : (b : ℕ) → is_digit b ≡ true → 48 ≤ b
digit_low b e = leb-true 48 b (and_left (leb 48 b) (leb b 57) e)

pub digit_high : (b : ℕ) → is_digit b ≡ true → b ≤ 57
digit_high b e = leb-true b 57 (and_right (leb 48 b) (leb b 57) e)

-- One digit.
pub one_digit : (b : ℕ) → is_digit b ≡ true → Numeral (b - 48) (b ∷ [])
one_digit b e =
    record {
      all_digits = simp e;
      value = omega arith;
      led = refl;
      first = λ p f. omega arith;
    }

-- A digit more at the end.
digits_end : (w : List ℕ) (b : ℕ) → all_of is_digit w ≡ true → is_digit b ≡ true → all_of is_digit (w ++ (b ∷ [])) ≡ true
digits_end [] b p q = simp q
digits_end (x ∷ w) b p q = and_both (is_digit x) _ (and_left (is_digit x) (all_of is_digit w) p) (digits_end w b (and_right (is_digit x) (all_of is_digit w) p) q)

value_end : (m : ℕ) (w : List ℕ) (b : ℕ) → value_from m (w ++ (b ∷ [])) ≡ value_from m w * 10 + (b - 48)
value_end m [] b = refl
value_end m (x ∷ w) b = value_end (m * 10 + (x - 48)) w b

led_end : (w : List ℕ) (b : ℕ) → no_leading_zero w ≡ true → (get_or w 0 0 ≡ 48 → ⊥) → (no_leading_zero (w ++ (b ∷ [])) ≡ true) × (get_or (w ++ (b ∷ [])) 0 0 ≡ 48 → ⊥)
led_end [] b l f = let z : ◌≡◌ {A = ℕ} 0 1 = cc in absurd (omega arith)
led_end (x ∷ []) b l f = (simp (ne_eqb x 48 f), f)
led_end (x ∷ y ∷ w) b l f = (l, f)

pub longer_numeral : (m b : ℕ) (w : List ℕ) → 0 < m → is_digit b ≡ true → Numeral m w → Numeral (m * 10 + (b - 48)) (w ++ (b ∷ []))
longer_numeral m b w p e n =
    let l : (no_leading_zero (w ++ (b ∷ [])) ≡ true) × (get_or (w ++ (b ∷ [])) 0 0 ≡ 48 → ⊥) = led_end w b n.led (n.first p) in
    record {
      all_digits = digits_end w b n.all_digits e;
      value = value_end 0 w b ∙ omega (arith, n.value);
      led = l.0;
      first = λ q. l.1;
    }

-- A digit less at the end.
front_digits : (w : List ℕ) (b : ℕ) → all_of is_digit (w ++ (b ∷ [])) ≡ true → all_of is_digit w ≡ true
front_digits [] b e = refl
front_digits (x ∷ w) b e = and_both (is_digit x) _ (and_left (is_digit x) _ e) (front_digits w b (and_right (is_digit x) (all_of is_digit (w ++ (b ∷ []))) e))

pub last_digit : (w : List ℕ) (b : ℕ) → all_of is_digit (w ++ (b ∷ [])) ≡ true → is_digit b ≡ true
last_digit [] b e = and_left (is_digit b) true e
last_digit (x ∷ w) b e = last_digit w b (and_right (is_digit x) (all_of is_digit (w ++ (b ∷ []))) e)

-- Where a byte follows the first one, that is no 0.
front_first : (x : ℕ) (w : List ℕ) (b : ℕ) → no_leading_zero ((x ∷ w) ++ (b ∷ [])) ≡ true → x ≡ 48 → ⊥
front_first x [] b l = eqb-false x 48 (not-true (eqb x 48) l)
front_first x (y ∷ w) b l = eqb-false x 48 (not-true (eqb x 48) l)

front_led : (x : ℕ) (w : List ℕ) (b : ℕ) → no_leading_zero ((x ∷ w) ++ (b ∷ [])) ≡ true → no_leading_zero (x ∷ w) ≡ true
front_led x [] b l = refl
front_led x (y ∷ w) b l = l

-- What stands before the last of two digits or more: a number that is not 0.
pub record Shorter (n : ℕ) (w : List ℕ) (b : ℕ) : Type 0 where
  pub front : Numeral (value_from 0 w) w
  pub positive : 0 < value_from 0 w
  pub whole : n ≡ value_from 0 w * 10 + (b - 48)

pub shorter_numeral : (n x : ℕ) (w : List ℕ) (b : ℕ) → Numeral n ((x ∷ w) ++ (b ∷ [])) → Shorter n (x ∷ w) b
shorter_numeral n x w b m =
    let digits : all_of is_digit (x ∷ w) ≡ true = front_digits (x ∷ w) b m.all_digits in
    let low : 48 ≤ x = digit_low x (and_left (is_digit x) (all_of is_digit w) digits) in
    let other : x ≡ 48 → ⊥ = front_first x w b m.led in
    record {
      front = record { all_digits = digits; value = refl; led = front_led x w b m.led; first = λ p. other };
      positive = omega (arith, value_grows (0 * 10 + (x - 48)) w);
      whole = sym m.value ∙ value_end 0 (x ∷ w) b;
    }

-- The definition of a number takes such bytes, and no others.
pub numeral_number : (most n : ℕ) (s : List ℕ) → Numeral n s → n ≤ most → number_of most s ≡ Some n
unfolding number_of
numeral_number most n s m h = simp (m.led, m.all_digits, m.value, le-leb n most h)

module _ (most : ℕ) (s : List ℕ) where
  -- The definition's tests, one by one.
  by_tests : {P : Type 0} → ((value_from 0 s ≤ most) → Numeral (value_from 0 s) s → P) → (number_of most s ≡ None → P) → P
  unfolding number_of
  by_tests {P} some none = go (no_leading_zero s) (all_of is_digit s) (leb (value_from 0 s) most) refl refl refl none
    where
      first : (s : List ℕ) → no_leading_zero s ≡ true → 0 < value_from 0 s → get_or s 0 0 ≡ 48 → ⊥
      first [] l p e = omega arith
      first (x ∷ []) l p e = omega arith
      first (x ∷ y ∷ w) l p e = eqb-false x 48 (not-true (eqb x 48) l) e

      go : (led digits small : Bool) → no_leading_zero s ≡ led → all_of is_digit s ≡ digits → leb (value_from 0 s) most ≡ small →
          (cond (led && digits && small) (Some (value_from 0 s)) None ≡ None → P) → P
      go true true true l d e none = some (leb-true (value_from 0 s) most e) (record { all_digits = d; value = refl; led = l; first = first s l })
      go true true false l d e none = none refl
      go true false small l d e none = none refl
      go false digits small l d e none = none refl

  pub number_numeral : (n : ℕ) → number_of most s ≡ Some n → Numeral n s × (n ≤ most)
  number_numeral n e = by_tests some (λ none. let z : ◌≡◌ {A = ℕ} 0 1 = cc in absurd (omega arith))
    where
      some : value_from 0 s ≤ most → Numeral (value_from 0 s) s → Numeral n s × (n ≤ most)
      some h m = let is : value_from 0 s ≡ n = cc (numeral_number most (value_from 0 s) s m h) in (rw is at m, omega arith)

  pub no_number : ((n : ℕ) → Numeral n s → n ≤ most → ⊥) → number_of most s ≡ None
  no_number none = by_tests (λ h m. absurd (none (value_from 0 s) m h)) (λ e. e)
