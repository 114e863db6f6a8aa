-- The numbers of a run are decided by the first bytes that they stand in: eleven for each word, since a word of more than ten is no number.
use Prim.Native.Nat.{ℕ, zero, suc, ◌+◌, ◌-◌, ◌*◌, ◌≤◌, ◌<◌}
use native.Mathlib.Omega.{arith}
use native.Mathlib.Decide.{dec_le, dec_lt}
use mathlib.Core.Bool.{Bool, true, false, ◌&&◌, cond}
use mathlib.Core.List.{List, [], ◌∷◌}
use mathlib.Core.Path.{◌≡◌, refl, sym, ap, ◌∙◌}
use lib.Dec.{ltb}
use lib.ListN.{length, take, drop, length-take}
use lib.Seq.{take-take}
use borrow.Author.Tests.{lt-ltb, le-ltb}
use Rattle.model.specs.Lists.{all_of, contains, length_before}
use Rattle.model.proofs.Lists.{before_most, before_front, contains_before, drop-take}
use Rattle.model.proofs.Digits.{long_number}
use Rattle.conversation.specs.Script.{before_blank, after_blank, argument, front_words, is_number, arguments_of}

-- A front that reaches past the first b holds one just where the whole does.
contains_front : (b n : ℕ) (s : List ℕ) → length_before b s < n → contains b (take n s) ≡ contains b s
contains_front b n s h = contains_before b (take n s) ∙ by (dec_lt (length_before b s) (length s)) ∙ sym (contains_before b s)
  where
    by : Dec (length_before b s < length s) → ltb (length_before b (take n s)) (length (take n s)) ≡ ltb (length_before b s) (length s)
    by (yes some) = lt-ltb (length_before b (take n s)) (length (take n s)) (omega (arith, before_front b n s, length-take n s)) ∙ sym (lt-ltb (length_before b s) (length s) some)
    by (no none) = le-ltb (length_before b (take n s)) (length (take n s)) (omega (arith, before_front b n s, length-take n s)) ∙ sym (le-ltb (length_before b s) (length s) (omega arith))

-- All of the words are numbers.
abbrev all_numbers : List (List ℕ) → Bool
all_numbers words = all_of (λ s. is_number (argument s)) words

-- The words are the same, or each list has one that is no number.
data Alike : List (List ℕ) → List (List ℕ) → Type 0 where
  same_words : {words : List (List ℕ)} → Alike words words
  both_fail : {words words' : List (List ℕ)} → all_numbers words ≡ false → all_numbers words' ≡ false → Alike words words'

fails_behind : (t rest : Bool) → rest ≡ false → (t && rest) ≡ false
fails_behind true rest h = h
fails_behind false rest h = refl

behind : (word : List ℕ) {words words' : List (List ℕ)} → Alike words words' → Alike (word ∷ words) (word ∷ words')
behind word same_words = same_words
behind word (both_fail f g) = both_fail (fails_behind (is_number (argument word)) _ f) (fails_behind (is_number (argument word)) _ g)

arguments_alike : {words words' : List (List ℕ)} → Alike words words' → arguments_of words ≡ arguments_of words'
unfolding arguments_of
arguments_alike same_words = refl
arguments_alike (both_fail f g) = simp (f, g)

-- A word of more than ten bytes is no number.
long_fails : (word : List ℕ) (words : List (List ℕ)) → 10 < length word → all_numbers (word ∷ words) ≡ false
long_fails word words h = simp (long_number word h)

-- The words after the first one, where a blank follows it.
later_words : (t : Bool) {words words' : List (List ℕ)} → Alike words words' → Alike (cond t words []) (cond t words' [])
later_words true alike = alike
later_words false alike = same_words

words_front : (most n : ℕ) (s : List ℕ) → 11 * most ≤ n → Alike (front_words most (take n s)) (front_words most s)
unfolding front_words
words_front zero n s h = same_words
words_front (suc most) n s h = by (dec_le (length_before 32 s) 10) (λ k fits. words_front most k (after_blank s) fits)
  where
    by : Dec (length_before 32 s ≤ 10) → ((k : ℕ) → 11 * most ≤ k → Alike (front_words most (take k (after_blank s))) (front_words most (after_blank s))) →
        Alike (front_words (suc most) (take n s)) (front_words (suc most) s)
    by (yes few) later =
        let place : length_before 32 (take n s) ≡ length_before 32 s = omega (arith, before_front 32 n s) in
        let first : before_blank (take n s) ≡ before_blank s = ap (λ (k : ℕ). take k (take n s)) place ∙ take-take (length_before 32 s) n s (omega arith) in
        let rest : after_blank (take n s) ≡ take (n - (length_before 32 s + 1)) (after_blank s) = ap (λ (k : ℕ). drop (k + 1) (take n s)) place ∙ drop-take (length_before 32 s + 1) n s in
        rw (first, rest, contains_front 32 n s (omega arith))
        (behind (before_blank s) (later_words (contains 32 s) (later (n - (length_before 32 s + 1)) (omega arith))))
    by (no many) later =
        let front : 10 < length (before_blank (take n s)) = simp length-take (omega (arith, before_front 32 n s, length-take n s, before_most 32 s)) in
        let whole : 10 < length (before_blank s) = simp length-take (omega (arith, before_most 32 s)) in
        both_fail
        (long_fails (before_blank (take n s)) (cond (contains 32 (take n s)) (front_words most (after_blank (take n s))) []) front)
        (long_fails (before_blank s) (cond (contains 32 s) (front_words most (after_blank s)) []) whole)

pub arguments_front : (most n : ℕ) (s : List ℕ) → 11 * most ≤ n → arguments_of (front_words most (take n s)) ≡ arguments_of (front_words most s)
arguments_front most n s h = arguments_alike (words_front most n s h)
