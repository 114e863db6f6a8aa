-- The words of the report, as the table spells them.
use Prim.Native.Nat.{ℕ, zero, suc, ◌+◌, ◌-◌, ◌*◌, ◌≤◌, ◌<◌}
use native.Mathlib.Omega.{arith}
use mathlib.Core.List.{List, [], ◌∷◌, ◌++◌}
use mathlib.Core.Path.{◌≡◌, refl, ◌∙◌}
use lib.ListN.{get_or, take, drop, set}
use Rattle.model.specs.Lists.{bytes}
use Rattle.model.specs.Word.{qualifier_word}
use Rattle.report.specs.Writing.{Room, Wrote, words_in}
use Rattle.report.proofs.Tables.{size_at, words_at_lem, words_past}
use Rattle.report.proofs.Writing.{wrote_byte}

-- A qualifier's word is PLAIN, or the word of the table that stands before its code.
plain_word : (names : List (List ℕ)) (code : ℕ) → code ≡ 0 → qualifier_word names code ≡ bytes "PLAIN"
unfolding qualifier_word
plain_word names code e = rw e refl

named_word : (names : List (List ℕ)) (code : ℕ) → (code ≡ 0 → ⊥) → qualifier_word names code ≡ get_or names (code - 1) []
unfolding qualifier_word
named_word names zero h = absurd (h refl)
named_word names (suc k) h = let e : suc k - 1 ≡ k = omega arith in rw e refl

module _ {l : List ℕ} {i : ℕ} (names : List (List ℕ)) (code : ℕ) (end : List ℕ) (e : code ≡ 0) where
  pub plain_room : Room l i (qualifier_word names code ++ end) → Room l i (bytes "PLAIN" ++ end)
  plain_room p = rw (plain_word names code e) at p

  pub plain_wrote : {l' : List ℕ} {i' : ℕ} → Wrote l i (bytes "PLAIN" ++ end) l' i' → Wrote l i (qualifier_word names code ++ end) l' i'
  plain_wrote p = rw (plain_word names code e) p

-- Past the eight words of the table it is empty.
module _ (t : List ℕ) (code : ℕ) (past : 8 < code) where
  no_word : qualifier_word (words_in t) code ≡ []
  no_word = named_word (words_in t) code (λ e. omega arith) ∙ words_past 8 (code - 1) t (omega arith)

  pub no_word_wrote : (l : List ℕ) (i end : ℕ) → Wrote l i (qualifier_word (words_in t) code ++ (end ∷ [])) (set l i end) (i + 1)
  no_word_wrote l i end = rw no_word (wrote_byte l i end)

module _ (t : List ℕ) (code : ℕ) (h : code ≡ 0 → ⊥) (below : code ≤ 8) where
  -- The bytes of the table from the word's first to its last.
  abbrev part : List ℕ
  part = take (8 * (code - 1) + size_at t (code - 1) - 8 * (code - 1)) (drop (8 * (code - 1)) t)

  part_word : qualifier_word (words_in t) code ≡ part
  part_word =
      let e : 8 * (code - 1) + size_at t (code - 1) - 8 * (code - 1) ≡ size_at t (code - 1) = omega arith in
      named_word (words_in t) code h ∙ words_at_lem 8 (code - 1) t (omega arith) ∙ rw e refl

  pub tabled_room : {l : List ℕ} {i : ℕ} (end : List ℕ) → Room l i (qualifier_word (words_in t) code ++ end) → Room l i (part ++ end)
  tabled_room end p = rw part_word at p

  pub tabled_wrote : {l l' : List ℕ} {i i' : ℕ} (end : List ℕ) → Wrote l i (part ++ end) l' i' → Wrote l i (qualifier_word (words_in t) code ++ end) l' i'
  tabled_wrote end p = rw part_word p
