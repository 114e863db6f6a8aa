-- The numbers of a run, word by word: those so far and those of the words that are left are the numbers of all words.
use Prim.Native.Nat.{ℕ, ◌+◌, ◌-◌, ◌*◌, ◌^◌, ◌≤◌, ◌<◌}
use native.Mathlib.Numerals.{add-one}
use native.Mathlib.Omega.{arith}
use mathlib.Core.Bool.{true, false, cond}
use mathlib.Core.List.{List, [], ◌∷◌, ◌++◌, map, append-nil, append_assoc}
use mathlib.Core.Path.{◌≡◌, refl, sym, ap, ◌∙◌}
use lib.ListN.{length, take, drop, set, length-drop, length-set}
use lib.Seq.{drop-drop, take-suc-set}
use mir.Syntax.{w64}
use mir.Val.{Fits}
use borrow.Author.Tests.{lt-ltb, le-ltb}
use Rattle.std.specs.Prelude.{Option, Some, None}
use Rattle.model.specs.Lists.{all_of, contains, length_before}
use Rattle.model.proofs.Lists.{contains_before}
use Rattle.numbers.specs.NumberTo.{next_place, bytes_to, number_to}
use Rattle.numbers.proofs.Ends.{number_failed, number_read, number_within}
use Rattle.conversation.specs.Script.{argument, before_blank, after_blank, front_words, is_number, number_in, arguments_of}

-- Numbers, and those of the words behind them; none at all where some word is no number.
abbrev with : List ℕ → List (List ℕ) → List ℕ
with numbers words = cond (all_of (λ s. is_number (argument s)) words) (numbers ++ map (λ s. number_in (argument s)) words) []

module _ (numbers word : List ℕ) (words : List (List ℕ)) where
  with_none : argument word ≡ None → with numbers (word ∷ words) ≡ []
  with_none e = simp e

  with_one : (n : ℕ) → argument word ≡ Some n → with numbers (word ∷ words) ≡ with (numbers ++ (n ∷ [])) words
  with_one n e = simp (e, append_assoc)

with_no_more : (numbers : List ℕ) → with numbers [] ≡ numbers
with_no_more numbers = append-nil numbers

words_first : (most n : ℕ) (s : List ℕ) → n ≡ most + 1 → front_words n s ≡ before_blank s ∷ cond (contains 32 s) (front_words most (after_blank s)) []
unfolding front_words
words_first most n s e = rw (e ∙ add-one most)

-- So many numbers stand in the array, and the next word starts at `from`.
pub record Counted (s into : List ℕ) (count from : ℕ) : Type 0 where
  pub room : length into ≡ 66
  pub few : count ≤ 66
  pub within : from ≤ length s
  pub left : arguments_of (front_words 66 s) ≡ with (take count into) (front_words (66 - count) (drop from s))

pub count_first : (s into : List ℕ) → length into ≡ 66 → Counted s into 0 0
unfolding arguments_of
count_first s into long = record { room = long; few = omega arith; within = omega arith; left = refl }

pub count_fits : (s into : List ℕ) (count from : ℕ) → Counted s into count from → count ≤ length into
count_fits s into count from counted = omega (arith, counted.few, counted.room)

pub count_full : (s into : List ℕ) (count from : ℕ) → Counted s into count from → 66 ≤ count → take count into ≡ arguments_of (front_words 66 s)
unfolding front_words
count_full s into count from counted h =
    let none : 66 - count ≡ 0 = omega arith in
    sym (counted.left ∙ rw none (with_no_more (take count into)))

-- The word that starts at `from` ends at the next blank, or with the bytes.
module _ (s into : List ℕ) (count from : ℕ) (word : Option (ℕ × ℕ)) (counted : Counted s into count from) (more : count < 66) (read : word ≡ number_to 32 4294967295 s from) where
  abbrev later : List (List ℕ)
  later = cond (contains 32 (drop from s)) (front_words (66 - (count + 1)) (drop (next_place 32 s from + 1) s)) []

  read_words : front_words (66 - count) (drop from s) ≡ bytes_to 32 s from ∷ later
  read_words =
      let next : from + (length_before 32 (drop from s) + 1) ≡ next_place 32 s from + 1 = omega arith in
      words_first (66 - (count + 1)) (66 - count) (drop from s) (omega arith) ∙ rw (drop-drop (length_before 32 (drop from s) + 1) from s, next)

  pub no_number : word ≡ None → arguments_of (front_words 66 s) ≡ []
  no_number e = counted.left ∙ ap (with (take count into)) read_words ∙ with_none (take count into) _ later (number_failed 32 4294967295 s from word read e)

  module _ (n to : ℕ) (is : word ≡ Some (n, to)) where
    number_is : (argument (bytes_to 32 s from) ≡ Some n) × (next_place 32 s from ≡ to)
    number_is = number_read 32 4294967295 s from word read n to is

    word_within : to ≤ length s
    word_within = number_within 32 4294967295 s from word read n to is counted.within

    -- A slice has fewer than 2 ^ 63 bytes.
    pub next_fits : length s * 1 < 2 ^ 63 → Fits w64 (to + 1)
    next_fits room = omega (arith, word_within)

    one_more : arguments_of (front_words 66 s) ≡ with (take (count + 1) (set into count n)) later
    one_more =
        let stored : take (count + 1) (set into count n) ≡ take count into ++ (n ∷ []) = rw add-one (take-suc-set into count n (omega (arith, counted.room))) in
        counted.left ∙ ap (with (take count into)) read_words ∙ with_one (take count into) _ later n number_is.0 ∙ ap (λ (numbers : List ℕ). with numbers later) (sym stored)

    pub last_number : to ≡ length s → take (count + 1) (set into count n) ≡ arguments_of (front_words 66 s)
    last_number end =
        let none : contains 32 (drop from s) ≡ false = contains_before 32 (drop from s) ∙ le-ltb (length_before 32 (drop from s)) (length (drop from s)) (omega (arith, number_is.1, length-drop from s)) in
        sym (one_more ∙ rw none (with_no_more (take (count + 1) (set into count n))))

    pub last_fits : count + 1 ≤ length (set into count n)
    last_fits = simp length-set (omega (arith, counted.room))

    pub next_number : ¬ (to ≡ length s) → Counted s (set into count n) (count + 1) (to + 1)
    next_number inner =
        let some : contains 32 (drop from s) ≡ true = contains_before 32 (drop from s) ∙ lt-ltb (length_before 32 (drop from s)) (length (drop from s)) (omega (arith, number_is.1, length-drop from s, word_within)) in
        record {
          room = length-set into count n ∙ counted.room;
          few = omega arith;
          within = omega (arith, word_within);
          left = one_more ∙ rw (some, number_is.1) refl;
        }
