-- The loops that feed a reader: it holds what is kept of the bytes from a place to the present one.
use Prim.Native.Nat.{ℕ, suc, ◌+◌, ◌-◌, ◌≤◌, ◌<◌}
use native.Mathlib.Omega.{arith}
use native.Mathlib.Decide.{dec_le}
use native.Mathlib.Numerals.{add-one}
use mathlib.Core.List.{List, []}
use mathlib.Core.Path.{◌≡◌, refl, ap, ◌∙◌}
use lib.ListN.{length, get_or, take, drop, length-drop, drop_of_length-le}
use lib.Seq.{take-suc, take_all, get_or-drop, drop-cons}
use borrow.Author.Tests.{eq-eqb, ne_eqb}
use Rattle.std.specs.Prelude.{Option}
use Rattle.model.specs.Lists.{length_before}
use Rattle.model.specs.Number.{number_of}
use Rattle.numbers.specs.OnePass.{after, Feeds, Answers}
use Rattle.numbers.specs.NumberTo.{with_end, next_place, bytes_to, number_to}
use Rattle.numbers.specs.declared.Reader.{Reader}

pub record Passed (s : List ℕ) (from i : ℕ) (reader : Reader) : Type 0 where
  pub later : from ≤ i
  pub bytes : reader ≡ after (take (i - from) (drop from s))

pub pass_first : (s : List ℕ) (from : ℕ) (reader : Reader) → reader ≡ after [] → Passed s from from reader
pass_first s from reader e =
    let none : from - from ≡ 0 = omega arith in
    record { later = omega arith; bytes = rw none e }

module _ (s : List ℕ) (from i : ℕ) (reader : Reader) (passed : Passed s from i reader) where
  pub pass_next : i < length s → (r : Reader) → Feeds reader (get_or s i 0) r → Passed s from (i + 1) r
  unfolding Feeds
  pass_next h r feeds =
      let later : from ≤ i = passed.later in
      let next : i + 1 - from ≡ suc (i - from) = omega arith in
      let here : from + (i - from) ≡ i = omega arith in
      let below : i - from < length (drop from s) = simp length-drop (omega arith) in
      record {
        later = omega arith;
        bytes = feeds (take (i - from) (drop from s)) passed.bytes ∙ simp (next, take-suc (drop from s) (i - from) 0 below, get_or-drop, here);
      }

  pub pass_answer : (most : ℕ) (answer : Option ℕ) → Answers reader most answer → answer ≡ number_of most (take (i - from) (drop from s))
  unfolding Answers
  pass_answer most answer answers = answers (take (i - from) (drop from s)) passed.bytes

-- All bytes.
pub pass_whole : (s : List ℕ) (i : ℕ) (reader : Reader) (most : ℕ) (answer : Option ℕ) → Passed s 0 i reader → length s ≤ i → Answers reader most answer → answer ≡ number_of most s
pass_whole s i reader most answer passed h answers = pass_answer s 0 i reader passed most answer answers ∙ ap (number_of most) (take_all (i - 0) s (omega arith))

pub ruleset passes = (pass_first, pass_next, pass_whole)

-- The next `byte`: at it, at another byte, and past the last one.
module _ (b : ℕ) (s : List ℕ) (i end : ℕ) (left : i + length_before b (drop i s) ≡ end) where
  find_none : length s ≤ i → i ≡ end
  find_none h = omega (arith, ap (length_before b) (drop_of_length-le s h))

  module _ (h : i < length s) where
    find_here : get_or s i 0 ≡ b → i ≡ end
    find_here e =
        let none : length_before b (drop i s) ≡ 0 = simp (drop-cons s i 0 h, eq-eqb (get_or s i 0) b e) in
        omega arith

    find_other : (get_or s i 0 ≡ b → ⊥) → i + 1 + length_before b (drop (i + 1) s) ≡ end
    find_other e =
        let one : length_before b (drop i s) ≡ suc (length_before b (drop (i + 1) s)) = simp (drop-cons s i 0 h, ne_eqb (get_or s i 0) b e, add-one) in
        omega arith

-- The bytes before the next `byte`.
pub record Sought (byte : ℕ) (s : List ℕ) (from i : ℕ) (reader : Reader) : Type 0 where
  pub passed : Passed s from i reader
  pub left : i + length_before byte (drop i s) ≡ from + length_before byte (drop from s)

pub sought_first : (byte : ℕ) (s : List ℕ) (from : ℕ) (reader : Reader) → reader ≡ after [] → Sought byte s from from reader
sought_first byte s from reader e = record { passed = pass_first s from reader e; left = refl }

module _ (byte : ℕ) (s : List ℕ) (from i : ℕ) (reader : Reader) (sought : Sought byte s from i reader) where
  pub sought_next : i < length s → (get_or s i 0 ≡ byte → ⊥) → (r : Reader) → Feeds reader (get_or s i 0) r → Sought byte s from (i + 1) r
  sought_next h other r feeds = record { passed = pass_next s from i reader sought.passed h r feeds; left = find_other byte s i _ sought.left h other }

  module _ (most : ℕ) (value : Option ℕ) (answers : Answers reader most value) where
    read : i ≡ next_place byte s from → value ≡ number_of most (bytes_to byte s from)
    read e =
        let size : i - from ≡ length_before byte (drop from s) = omega arith in
        rw size at (pass_answer s from i reader sought.passed most value answers)

    ended : (r : Option (ℕ × ℕ)) → r ≡ with_end value i → i ≡ next_place byte s from → r ≡ number_to byte most s from
    unfolding number_to
    ended r is e = is ∙ ap (λ (f : Option ℕ). with_end f i) (read e) ∙ ap (with_end (number_of most (bytes_to byte s from))) e

    pub sought_here : (r : Option (ℕ × ℕ)) → r ≡ with_end value i → i < length s → get_or s i 0 ≡ byte → r ≡ number_to byte most s from
    sought_here r is h b = ended r is (find_here byte s i _ sought.left h b)

    -- Past the end no bytes stand, and those are no number.
    none_past : (r : Option (ℕ × ℕ)) (end : ℕ) → r ≡ with_end value end → length s ≤ i → length s < from → r ≡ number_to byte most s from
    unfolding number_to number_of
    none_past r end is h past =
        let none : drop from s ≡ [] = drop_of_length-le s (omega arith) in
        is ∙ ap (λ (f : Option ℕ). with_end f end) (read (find_none byte s i _ sought.left h)) ∙ simp none

    pub sought_none : (r : Option (ℕ × ℕ)) → r ≡ with_end value (length s) → length s ≤ i → (from ≤ length s → i ≤ length s) → r ≡ number_to byte most s from
    sought_none r is h last = by (dec_le from (length s))
      where
        by : Dec (from ≤ length s) → r ≡ number_to byte most s from
        by (yes within) =
            let end : length s ≡ i = omega (arith, last within) in
            ended r (rw end at is) (find_none byte s i _ sought.left h)
        by (no past) = none_past r (length s) is h (omega arith)

pub ruleset seeks = (sought_first, sought_next, sought_none, sought_here)
