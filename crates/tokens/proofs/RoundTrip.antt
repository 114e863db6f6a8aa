-- What is written is read again: a number as `decimal` writes it, a qualifier as its word, in either case, or as `g` with its number.
use Prim.Native.Nat.{ℕ, zero, suc, ◌+◌, ◌-◌, ◌*◌, ◌/◌, ◌%◌, ◌≤◌, ◌<◌}
use native.Mathlib.Omega.{arith}
use mathlib.Core.Bool.{Bool, true, false, cond}
use mathlib.Core.List.{List, [], ◌∷◌, ◌++◌}
use mathlib.Core.Path.{◌≡◌, refl, sym, ap, ◌∙◌}
use lib.Dec.{eqb, ltb}
use lib.ListN.{get_or}
use borrow.Author.Tests.{ltb-true, ltb-false, eqb-true}
use Rattle.std.specs.Prelude.{Option, Some, None}
use Rattle.scheme.proofs.Every.{every_at}
use Rattle.model.specs.Number.{is_digit, number_of, digits, decimal}
use Rattle.model.specs.Word.{qualifier_words, capital, capitals, spells, place_in, variable_code, word_of, qualifier_of, qualifier_word}
use Rattle.scheme.specs.Six.{six_table}
use Rattle.model.proofs.Numerals.{Numeral, is_digit_lem, one_digit, longer_numeral, numeral_number}
use Rattle.model.proofs.Capitals.{spells_exactly, word_capitals}
use Rattle.tokens.proofs.Bounds.{none_is_none, place_between}

written_digit : (d : ℕ) → d < 10 → is_digit (48 + d) ≡ true
written_digit d h = is_digit_lem (48 + d) (omega arith) (omega arith)

last_numeral : (n : ℕ) → n < 10 → Numeral n ((48 + n) ∷ [])
last_numeral n h = let back : 48 + n - 48 ≡ n = omega arith in rw back at (one_digit (48 + n) (written_digit n h))

digits_numeral : (fuel n : ℕ) → n ≤ fuel → Numeral n (digits fuel n)
digits_numeral zero n h = last_numeral n (omega arith)
digits_numeral (suc fuel) n h = by (ltb n 10) refl (digits_numeral fuel (n / 10))
  where
    by : (t : Bool) → ltb n 10 ≡ t → (n / 10 ≤ fuel → Numeral (n / 10) (digits fuel (n / 10)))
        → Numeral n (cond t ((48 + n) ∷ []) (digits fuel (n / 10) ++ ((48 + n % 10) ∷ [])))
    by true e shorter = last_numeral n (ltb-true n 10 e)
    by false e shorter =
        let long : 10 ≤ n = ltb-false n 10 e in
        let whole : n / 10 * 10 + (48 + n % 10 - 48) ≡ n = omega arith in
        rw whole at (longer_numeral (n / 10) (48 + n % 10) (digits fuel (n / 10)) (omega arith) (written_digit (n % 10) (omega arith)) (shorter (omega arith)))

pub number_of_decimal : (most n : ℕ) → n ≤ most → number_of most (decimal n) ≡ Some n
unfolding decimal
number_of_decimal most n h = numeral_number most n (digits n n) (digits_numeral n n (omega arith)) h

-- The seven words, one computed test.
is_value : ℕ → Option ℕ → Bool
is_value c (Some n) = eqb n c
is_value c None = false

is_value_lem : (c : ℕ) (f : Option ℕ) → is_value c f ≡ true → f ≡ Some c
unfolding is_value
is_value_lem c (Some n) e = ap Some (eqb-true n c e)
is_value_lem c None e = let z : ◌≡◌ {A = ℕ} 0 1 = cc in absurd (omega arith)

-- The names of the built-in six.
abbrev six_names : List (List ℕ)
six_names = six_table.names

pub word_of_word : (c : ℕ) → c < 7 → word_of six_names (qualifier_word six_names c) ≡ Some c
unfolding capital spells word_of qualifier_word is_value
word_of_word c h = is_value_lem c (word_of six_names (qualifier_word six_names c)) (every_at 7 (λ k. is_value k (word_of six_names (qualifier_word six_names k))) refl c h)

-- A field is the word of a code exactly where its capitals are the word that is written for the code.
place_spelled : (c : ℕ) (words : List (List ℕ)) (s : List ℕ) (n : ℕ) → place_in c words s ≡ Some n → capitals s ≡ get_or words (n - c) []
place_spelled c [] s n e = none_is_none n e
place_spelled c (word ∷ words) s n e = by (spells s word) refl e (place_spelled (c + 1) words s n)
  where
    by : (t : Bool) → spells s word ≡ t → cond t (Some c) (place_in (c + 1) words s) ≡ Some n
        → (place_in (c + 1) words s ≡ Some n → capitals s ≡ get_or words (n - (c + 1)) []) → capitals s ≡ get_or (word ∷ words) (n - c) []
    by true p q later =
        let first : n - c ≡ 0 = (let v : c ≡ n = cc in omega arith) in
        (spells_exactly s word).0 p ∙ ap (λ (k : ℕ). get_or (word ∷ words) k []) (sym first)
    by false p q later =
        let above : c + 1 ≤ n = (place_between (c + 1) words s n q).0 in
        let one_more : n - c ≡ suc (n - (c + 1)) = omega arith in
        later q ∙ ap (λ (k : ℕ). get_or (word ∷ words) k []) (sym one_more)

pub word_spelled : (names : List (List ℕ)) (s : List ℕ) (c : ℕ) → word_of names s ≡ Some c → capitals s ≡ qualifier_word names c
unfolding word_of qualifier_word
word_spelled names s c e = let first : c - 0 ≡ c = omega arith in place_spelled 0 (qualifier_words names) s c e ∙ ap (qualifier_word names) first

pub word_exactly : (s : List ℕ) (c : ℕ) →
    (word_of six_names s ≡ Some c → capitals s ≡ qualifier_word six_names c) × (c < 7 → capitals s ≡ qualifier_word six_names c → word_of six_names s ≡ Some c)
word_exactly s c = (word_spelled six_names s c, λ h e. sym (word_capitals six_names s) ∙ ap (word_of six_names) e ∙ word_of_word c h)

pub qualifier_of_word : (c : ℕ) → c < 7 → qualifier_of six_names (qualifier_word six_names c) ≡ Some c
unfolding qualifier_of
qualifier_of_word c h = simp (word_of_word c h)

-- No word begins with `g`, so what does is a named variable.
pub qualifier_of_variable : (k : ℕ) → k ≤ 63 → qualifier_of six_names (103 ∷ decimal k) ≡ Some (k + 7)
unfolding capital spells qualifier_of word_of
qualifier_of_variable k h = ap (variable_code 7) (number_of_decimal 63 k h)
