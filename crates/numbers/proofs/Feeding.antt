-- One byte more: a numeral with a digit more is one, and what is none stays none. What is kept says which of the two the bytes were.
use Prim.Native.Nat.{ℕ, ◌+◌, ◌-◌, ◌*◌, ◌≤◌, ◌<◌}
use native.Mathlib.Omega.{arith}
use mathlib.Core.Bool.{true, false, not, false≢true}
use mathlib.Core.List.{List, [], ◌∷◌, ◌++◌}
use mathlib.Core.Path.{◌≡◌, refl, sym, ap, ◌∙◌}
use mir.Syntax.{w32}
use mir.Val.{Fits}
use borrow.Author.Tests.{not-true, not-false}
use Rattle.std.specs.Prelude.{Option, Some, None}
use Rattle.model.specs.Number.{value_from, number_of}
use Rattle.model.proofs.Numerals.{Numeral, is_digit_lem, digit_low, digit_high, one_digit, longer_numeral, last_digit, Shorter, shorter_numeral, numeral_number, number_numeral, no_number}
use Rattle.numbers.specs.OnePass.{largest, or_past, kept, after, Feeds, Answers}
use Rattle.numbers.specs.declared.Reader.{Reader}

-- What the bytes were, by what is kept of them.
after_empty : (s : List ℕ) → (after s).begun ≡ false → s ≡ []
unfolding after
after_empty [] e = refl
after_empty (b ∷ bs) e = absurd (false≢true (sym e))

kept_number : (f : Option ℕ) → or_past f ≤ largest → f ≡ Some (or_past f)
kept_number (Some n) h = refl
kept_number None h = absurd (omega arith)

after_number : (s : List ℕ) → (after s).begun ≡ true → (after s).number ≤ largest → Numeral (after s).number s
unfolding after
after_number [] e h = absurd (false≢true e)
after_number (b ∷ bs) e h = (number_numeral largest (b ∷ bs) _ (kept_number (number_of largest (b ∷ bs)) h)).0

-- Past the largest number: some byte stands there, and the bytes are no number.
after_past : {P : Type 0} (s : List ℕ) → largest < (after s).number → ((x : ℕ) (w : List ℕ) → s ≡ x ∷ w → number_of largest s ≡ None → P) → P
unfolding after
after_past [] h go = absurd (omega arith)
after_past {P} (b ∷ bs) h go = by (number_of largest (b ∷ bs)) refl h
  where
    by : (f : Option ℕ) → number_of largest (b ∷ bs) ≡ f → largest < or_past f → P
    by (Some n) e past = absurd (omega (arith, (number_numeral largest (b ∷ bs) n e).1))
    by None e past = go b bs refl e

after_more : (s : List ℕ) (b : ℕ) → after (s ++ (b ∷ [])) ≡ kept (number_of largest (s ++ (b ∷ [])))
unfolding after
after_more [] b = refl
after_more (x ∷ w) b = refl

-- The same of a reader that holds it.
module _ (reader : Reader) (s : List ℕ) (is : reader ≡ after s) where
  was_empty : reader.begun ≡ false → s ≡ []
  was_empty e = after_empty s (rw is at e)

  numeral : reader.begun ≡ true → reader.number ≤ largest → Numeral reader.number s
  numeral e h = rw is (after_number s (rw is at e) (rw is at h))

-- A number's front is one.
front_number : (x : ℕ) (w : List ℕ) (b n : ℕ) → Numeral n ((x ∷ w) ++ (b ∷ [])) → n ≤ largest → number_of largest (x ∷ w) ≡ None → ⊥
front_number x w b n whole small none =
    let shorter : Shorter n (x ∷ w) b = shorter_numeral n x w b whole in
    let number : number_of largest (x ∷ w) ≡ Some (value_from 0 (x ∷ w)) = numeral_number largest _ (x ∷ w) shorter.front (omega (arith, shorter.whole)) in
    let z : ◌≡◌ {A = ℕ} 0 1 = cc in
    omega arith

-- Only a number that is not 0 has a digit more, and its value is then this one.
digit_more : (k n : ℕ) (s : List ℕ) (b : ℕ) → Numeral k s → Numeral n (s ++ (b ∷ [])) → (0 < k) × (n ≡ k * 10 + (b - 48))
digit_more k n [] b m whole = let e : false ≡ true = m.led in let z : ◌≡◌ {A = ℕ} 0 1 = cc in absurd (omega arith)
digit_more k n (x ∷ w) b m whole = let shorter : Shorter n (x ∷ w) b = shorter_numeral n x w b whole in (rw m.value at shorter.positive, rw m.value at shorter.whole)

-- The ways out of `feed`: the reader holds what is kept of some bytes, and r is what is kept with the byte b.
module _ (reader : Reader) (b : ℕ) (r : Reader) where
  -- The bytes with this one are no number.
  feeds_none : r ≡ kept None → ((s : List ℕ) → reader ≡ after s → (n : ℕ) → Numeral n (s ++ (b ∷ [])) → n ≤ largest → ⊥) → Feeds reader b r
  unfolding Feeds
  feeds_none e none s is = e ∙ sym (after_more s b ∙ ap kept (no_number largest (s ++ (b ∷ [])) (none s is)))

  feeds_some : (n : ℕ) → r ≡ kept (Some n) → n ≤ largest → ((s : List ℕ) → reader ≡ after s → Numeral n (s ++ (b ∷ []))) → Feeds reader b r
  unfolding Feeds
  feeds_some n e small some s is = e ∙ sym (after_more s b ∙ ap kept (numeral_number largest n (s ++ (b ∷ [])) (some s is) small))

  -- A byte that is no digit.
  pub feed_below : b < 48 → r ≡ kept None → Feeds reader b r
  feed_below h e = feeds_none e (λ s is n m small. omega (arith, digit_low b (last_digit s b m.all_digits)))

  pub feed_above : 57 < b → r ≡ kept None → Feeds reader b r
  feed_above h e = feeds_none e (λ s is n m small. omega (arith, digit_high b (last_digit s b m.all_digits)))

  pub feed_first : 48 ≤ b → b ≤ 57 → not reader.begun ≡ true → r ≡ kept (Some (b - 48)) → Feeds reader b r
  feed_first low high m e = feeds_some (b - 48) e (omega arith) (λ s is. rw (was_empty reader s is (not-true reader.begun m)) (one_digit b (is_digit_lem b low high)))

  -- The bytes before are a number.
  module _ (m : not reader.begun ≡ false) (h : reader.number ≤ largest) where
    before : (s : List ℕ) → reader ≡ after s → Numeral reader.number s
    before s is = numeral reader s is (not-false reader.begun m) h

    pub feed_zero : reader.number ≡ 0 → r ≡ kept None → Feeds reader b r
    feed_zero zero e = feeds_none e (λ s is n whole small. omega (arith, (digit_more reader.number n s b (before s is) whole).0))

    pub feed_over : largest < reader.number * 10 + (b - 48) → r ≡ kept None → Feeds reader b r
    feed_over over e = feeds_none e (λ s is n whole small. omega (arith, (digit_more reader.number n s b (before s is) whole).1))

    pub feed_next : 48 ≤ b → b ≤ 57 → (reader.number ≡ 0 → ⊥) → reader.number * 10 + (b - 48) ≤ largest → r ≡ kept (Some (reader.number * 10 + (b - 48))) → Feeds reader b r
    feed_next low high positive small e =
        feeds_some (reader.number * 10 + (b - 48)) e small (λ s is. longer_numeral reader.number b s (omega arith) (is_digit_lem b low high) (before s is))

-- What is past the largest number is kept as it is.
pub feed_past : (reader : Reader) (b : ℕ) → largest < reader.number → Feeds reader b reader
unfolding Feeds after
feed_past reader b h s is = after_past s (rw is at h) stays
  where
    stays : (x : ℕ) (w : List ℕ) → s ≡ x ∷ w → number_of largest s ≡ None → reader ≡ after (s ++ (b ∷ []))
    stays x w e none =
        let now : number_of largest (x ∷ w) ≡ None = rw e at none in
        let next : number_of largest ((x ∷ w) ++ (b ∷ [])) ≡ None = no_number largest ((x ∷ w) ++ (b ∷ [])) (λ n whole small. front_number x w b n whole small now) in
        is ∙ rw e (ap kept now ∙ sym (ap kept next))

pub ruleset feeds = (feed_below, feed_above, feed_first, feed_past, feed_zero, feed_over, feed_next)

-- The ways out of `answer`. What is no number under the largest upper end is none under a lower one, as any upper end is that fits 32 bits.
module _ (reader : Reader) (most : ℕ) where
  pub answer_past : Fits w32 most → most < reader.number → Answers reader most None
  unfolding Answers after
  answer_past h past s is = by s (rw is at past)
    where
      by : (s : List ℕ) → most < (after s).number → None ≡ number_of most s
      by [] past = absurd (omega arith)
      by (b ∷ bs) past = sym (no_number most (b ∷ bs) (λ n m small. above n (numeral_number largest n (b ∷ bs) m (omega arith)) small))
        where
          above : (n : ℕ) → number_of largest (b ∷ bs) ≡ Some n → n ≤ most → ⊥
          above n e small = omega (arith, ap or_past e)

  pub answer_within : Fits w32 most → reader.number ≤ most → reader.begun ≡ true → Answers reader most (Some reader.number)
  unfolding Answers
  answer_within h small m s is = sym (numeral_number most reader.number s (numeral reader s is m (omega arith)) small)

  pub answer_empty : reader.begun ≡ false → Answers reader most None
  unfolding Answers number_of
  answer_empty m s is = rw (was_empty reader s is m)

pub ruleset answers = (answer_past, answer_within, answer_empty)
