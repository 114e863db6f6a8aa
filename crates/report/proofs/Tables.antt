-- The table of the words: what stands at a place of it, and what a letter and a comma of the names do to it.
use Prim.Native.Nat.{ℕ, zero, suc, ◌+◌, ◌-◌, ◌*◌, ◌≤◌, ◌<◌}
use native.Mathlib.Numerals.{add-one}
use native.Mathlib.Omega.{arith}
use mathlib.Core.Bool.{Bool, true, false}
use mathlib.Core.List.{List, [], ◌∷◌, ◌++◌, append-nil, append_assoc}
use mathlib.Core.Path.{◌≡◌, refl, sym, ap, ◌∙◌}
use lib.Dec.{leb, ltb}
use lib.ListN.{length, get_or, take, drop, set, replicate, length-append, length-drop, length-set, length-replicate, get_or-replicate, drop_of_length-le, get_or-eq_default}
use lib.Seq.{drop-drop, drop-set-lt, drop-set-add, get_or-drop, get_or-set_same, get_or-set_other, length-take-le, take-set-le, take-suc-set}
use borrow.Author.Tests.{leb-true, ltb-true, ltb-false}
use Rattle.scheme.proofs.Every.{and_left, and_right}
use Rattle.model.specs.Lists.{all_of}
use Rattle.model.specs.Line.{onto, fields}
use Rattle.model.specs.Word.{qualifier_word}
use Rattle.tokens.proofs.Parting.{onto_first, onto_later, some_field, at_comma, at_other}
use Rattle.report.specs.Writing.{first_words, Tabled, Spelled}
use Rattle.report.specs.Written.{Short}

-- By which of two numbers is less, and by whether they are the same.
by_less : {P : Type 0} (x y : ℕ) → (x < y → P) → (y ≤ x → P) → P
by_less {P} x y less more = by (ltb x y) refl
  where
    by : (b : Bool) → ltb x y ≡ b → P
    by true e = less (ltb-true x y e)
    by false e = more (ltb-false x y e)

by_eq : {P : Type 0} (x y : ℕ) → (x ≡ y → P) → ((x ≡ y → ⊥) → P) → P
by_eq x y same other = by_less x y (λ l. other (λ e. omega arith)) λ h. by_less y x (λ l. other (λ e. omega arith)) λ h'. same (omega arith)

-- Word k stands from byte 8 k on, and its size 7 bytes after that.
abbrev pub size_at : List ℕ → ℕ → ℕ
size_at t k = get_or t (8 * k + 7) 0

abbrev word_at : List ℕ → ℕ → List ℕ
word_at t k = take (size_at t k) (drop (8 * k) t)

-- The table with a letter behind word k.
abbrev with : List ℕ → ℕ → ℕ → List ℕ
with t k b = set (set t (8 * k + size_at t k) b) (8 * k + 7) (size_at t k + 1)

-- The words of a table by their places, and none past the last.
pub words_at_lem : (n k : ℕ) (t : List ℕ) → k < n → get_or (first_words n t) k [] ≡ word_at t k
unfolding first_words
words_at_lem zero k t h = absurd (omega arith)
words_at_lem (suc n) zero t h = refl
words_at_lem (suc n) (suc k) t h =
    let size : 8 + (8 * k + 7) ≡ 8 * suc k + 7 = omega arith in
    let start : 8 + 8 * k ≡ 8 * suc k = omega arith in
    words_at_lem n k (drop 8 t) (omega arith) ∙ rw (get_or-drop 8 t (8 * k + 7) 0, drop-drop (8 * k) 8 t, size, start)

pub words_past : (n k : ℕ) (t : List ℕ) → n ≤ k → get_or (first_words n t) k [] ≡ []
unfolding first_words
words_past zero k t h = refl
words_past (suc n) zero t h = absurd (omega arith)
words_past (suc n) (suc k) t h = words_past n k (drop 8 t) (omega arith)

-- A name of a list of short names.
short_name : (names : List (List ℕ)) (k : ℕ) → all_of (λ s. leb (length s) 5) names ≡ true → length (get_or names k []) ≤ 5
short_name [] k h = omega arith
short_name (s ∷ names) zero h = leb-true (length s) 5 (and_left _ (all_of (λ s. leb (length s) 5) names) h)
short_name (s ∷ names) (suc k) h = short_name names k (and_right (leb (length s) 5) _ h)

-- Nor is any word longer, PLAIN among them.
pub short_word : (names : List (List ℕ)) (code : ℕ) → Short names → length (qualifier_word names code) ≤ 5
unfolding qualifier_word
short_word names zero short = omega arith
short_word names (suc k) short = short_name names k short.short

-- What the loop has made of the names: those before name k are whole, each later one becomes so with what the rest has of it, and the table has a word for each.
pub record Making (names : List (List ℕ)) (t : List ℕ) (k : ℕ) (rest : List (List ℕ)) : Type 0 where
  pub table : Tabled t
  pub below : k < 8
  pub few : k + length rest ≤ 8
  pub made : (j : ℕ) → j < k → word_at t j ≡ get_or names j []
  pub left : (j : ℕ) → j < 8 → k ≤ j → word_at t j ++ get_or rest (j - k) [] ≡ get_or names j []

-- A table of zeros has no word.
pub making_none : (names : List (List ℕ)) → Short names → Making names (replicate 64 0) 0 names
making_none names short = record {
  table = record { long = length-replicate {A = ℕ} 64 0; sized = λ k h. omega (arith, zero_at k h) };
  below = omega arith;
  few = omega (arith, short.few);
  made = λ j h. absurd (omega arith);
  left = λ j h _. let e : j - 0 ≡ j = omega arith in rw (zero_at j h, e) refl;
}
  where
    zero_at : (j : ℕ) → j < 8 → ◌≡◌ {A = ℕ} (get_or (replicate 64 0) (8 * j + 7) 0) 0
    zero_at j h = get_or-replicate 64 (8 * j + 7) 0 0 (omega arith)

module _ (names : List (List ℕ)) (t : List ℕ) (k : ℕ) where
  making_comma : (rest : List (List ℕ)) → 0 < length rest → Making names t k ([] ∷ rest) → Making names t (k + 1) rest
  making_comma rest some p = record {
    table = p.table;
    below = omega (arith, p.few);
    few = omega (arith, p.few);
    made = made;
    left = λ j below from. let e : j - k ≡ suc (j - (k + 1)) = omega arith in rw e at (p.left j below (omega arith));
  }
    where
      -- With nothing left of name k, it is whole too.
      made : (j : ℕ) → j < k + 1 → word_at t j ≡ get_or names j []
      made j h = by_less j k (p.made j) λ last. let e : j - k ≡ 0 = omega arith in sym (append-nil (word_at t j)) ∙ rw e at (p.left j (omega (arith, p.below)) last)

  making_end : Short names → Making names t k ([] ∷ []) → Tabled t × Spelled t names
  making_end short p = (p.table, λ j. by_less j 8 (within j) λ past. words_past 8 j t past ∙ sym (get_or-eq_default names [] (omega (arith, short.few))))
    where
      nothing : (n : ℕ) → ◌≡◌ {A = List ℕ} (get_or ([] ∷ []) n []) []
      nothing zero = refl
      nothing (suc n) = refl

      within : (j : ℕ) → j < 8 → get_or (first_words 8 t) j [] ≡ get_or names j []
      within j h = words_at_lem 8 j t h ∙ by_less j k (p.made j) λ from. sym (append-nil (word_at t j)) ∙ rw (nothing (j - k)) at (p.left j h from)

-- A letter behind word k: that has the letter then, and the others are as they were.
module _ (t : List ℕ) (k b : ℕ) (table : Tabled t) (below : k < 8) (room : size_at t k < 5) where
  own_size : size_at (with t k b) k ≡ size_at t k + 1
  own_size = get_or-set_same (set t (8 * k + size_at t k) b) (8 * k + 7) (size_at t k + 1) 0 (rw (length-set t (8 * k + size_at t k) b) (omega (arith, table.long)))

  other_size : (j : ℕ) → (j ≡ k → ⊥) → size_at (with t k b) j ≡ size_at t j
  other_size j other =
      get_or-set_other (set t (8 * k + size_at t k) b) (8 * k + 7) (8 * j + 7) (size_at t k + 1) 0 (λ e. other (omega arith))
      ∙ get_or-set_other t (8 * k + size_at t k) (8 * j + 7) b 0 (λ e. omega arith)

  lettered : word_at (with t k b) k ≡ word_at t k ++ (b ∷ [])
  lettered =
      let before-size = take-set-le (size_at t k + 1) (set (drop (8 * k) t) (size_at t k) b) 7 (size_at t k + 1) (omega arith) in
      rw (own_size, drop-set-add (8 * k) (set t (8 * k + size_at t k) b) 7 (size_at t k + 1), drop-set-add (8 * k) t (size_at t k) b, before-size, add-one (size_at t k))
      (take-suc-set (drop (8 * k) t) (size_at t k) b (rw (length-drop (8 * k) t) (omega (arith, table.long))))

  -- A byte past a part of a list leaves it as it is.
  far : (n m i a : ℕ) (l : List ℕ) → m + n ≤ i → take n (drop m (set l i a)) ≡ take n (drop m l)
  far n m i a l h =
      let e : i ≡ m + (i - m) = omega arith in
      rw e (ap (take n) (drop-set-add m l (i - m) a) ∙ take-set-le n (drop m l) (i - m) a (omega arith))

  kept : (j : ℕ) → j < 8 → (j ≡ k → ⊥) → word_at (with t k b) j ≡ word_at t j
  kept j h other = rw (other_size j other) (by_less j k before after)
    where
      before : j < k → take (size_at t j) (drop (8 * j) (with t k b)) ≡ word_at t j
      before l =
          far (size_at t j) (8 * j) (8 * k + 7) (size_at t k + 1) (set t (8 * k + size_at t k) b) (omega (arith, table.sized j h))
          ∙ far (size_at t j) (8 * j) (8 * k + size_at t k) b t (omega (arith, table.sized j h))

      after : k ≤ j → take (size_at t j) (drop (8 * j) (with t k b)) ≡ word_at t j
      after l =
          ap (take (size_at t j))
          (drop-set-lt (8 * j) (set t (8 * k + size_at t k) b) (8 * k + 7) (size_at t k + 1) (omega (arith, other))
          ∙ drop-set-lt (8 * j) t (8 * k + size_at t k) b (omega (arith, other)))

  with_table : Tabled (with t k b)
  with_table = record {
    long = length-set (set t (8 * k + size_at t k) b) (8 * k + 7) (size_at t k + 1) ∙ length-set t (8 * k + size_at t k) b ∙ table.long;
    sized = λ j h. by_eq j k (own j) (λ other. rw (other_size j other) (table.sized j h));
  }
    where
      own : (j : ℕ) → j ≡ k → size_at (with t k b) j ≤ 5
      own j e = rw (e, own_size) (omega arith)

-- A letter in front of the rest leaves at least as many names.
onto_more : (b : ℕ) (fs : List (List ℕ)) → length fs ≤ length (onto b fs)
onto_more b [] = omega arith
onto_more b (f ∷ fs) = omega arith

-- A letter of the names goes behind name k, for which there is room since the name is short.
module _ (names : List (List ℕ)) (short : Short names) (t : List ℕ) (k b : ℕ) (rest : List (List ℕ)) (p : Making names t k (onto b rest)) where
  letter_room : size_at t k < 5
  letter_room =
      let e : k - k ≡ 0 = omega arith in
      let whole : word_at t k ++ (b ∷ get_or rest 0 []) ≡ get_or names k [] = rw (← onto_first b rest) (rw e at (p.left k p.below (omega arith))) in
      let size : length (word_at t k) ≡ size_at t k =
      length-take-le (size_at t k) (drop (8 * k) t) (rw (length-drop (8 * k) t) (omega (arith, p.table.long, p.table.sized k p.below, p.below))) in
      omega (arith, short_name names k short.short, ap length whole, length-append (word_at t k) (b ∷ get_or rest 0 []))

  making_letter : Making names (with t k b) k rest
  making_letter = record {
    table = with_table t k b p.table p.below letter_room;
    below = p.below;
    few = omega (arith, p.few, onto_more b rest);
    made = λ j h. kept t k b p.table p.below letter_room j (omega (arith, p.below)) (λ e. omega arith) ∙ p.made j h;
    left = λ j h from. by_eq j k (own j h) (later j h from);
  }
    where
      own : (j : ℕ) → j < 8 → j ≡ k → word_at (with t k b) j ++ get_or rest (j - k) [] ≡ get_or names j []
      own j h e =
          let z : k - k ≡ 0 = omega arith in
          rw (e, z, lettered t k b p.table p.below letter_room, append_assoc (word_at t k) (b ∷ []) (get_or rest 0 []), ← onto_first b rest)
          (rw z at (p.left k p.below (omega arith)))

      later : (j : ℕ) → j < 8 → k ≤ j → (j ≡ k → ⊥) → word_at (with t k b) j ++ get_or rest (j - k) [] ≡ get_or names j []
      later j h from other =
          rw (kept t k b p.table p.below letter_room j h other, ← onto_later b rest (j - k) (λ e. other (omega arith))) (p.left j h from)

-- The loop over the bytes of the names, at byte i.
module _ (names : List ℕ) (short : Short (fields names)) (t : List ℕ) (k i : ℕ) (p : Making (fields names) t k (fields (drop i names))) where
  pub walked : length names ≤ i → Tabled t × Spelled t (fields names)
  walked h = making_end (fields names) t k short (rw (drop_of_length-le names h) at p)

  module _ (h : i < length names) where
    pub walk_comma : get_or names i 0 ≡ 44 → Making (fields names) t (k + 1) (fields (drop (i + 1) names))
    walk_comma comma = making_comma (fields names) t k (fields (drop (i + 1) names)) (some_field (drop (i + 1) names)) (rw (at_comma names i h comma) at p)

    module _ (other : get_or names i 0 ≡ 44 → ⊥) where
      pub walk_room : size_at t k < 5
      walk_room = letter_room (fields names) short t k (get_or names i 0) (fields (drop (i + 1) names)) (rw (at_other names i h other) at p)

      pub walk_letter : Making (fields names) (with t k (get_or names i 0)) k (fields (drop (i + 1) names))
      walk_letter = making_letter (fields names) short t k (get_or names i 0) (fields (drop (i + 1) names)) (rw (at_other names i h other) at p)
