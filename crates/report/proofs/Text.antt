-- The text that `write` writes, from the codes alone, is the report of every machine that they match.
use Prim.Native.Nat.{ℕ, zero, suc, ◌+◌, ◌<◌}
use native.Mathlib.Omega.{arith}
use mathlib.Core.List.{List, ◌++◌}
use mathlib.Core.Path.{◌≡◌, refl, sym, ap, ◌∙◌}
use lib.ListN.{length, get_or}
use lib.Seq.{sets-eq}
use Rattle.model.specs.Lists.{bytes}
use Rattle.model.specs.Machine.{Machine}
use Rattle.model.specs.Word.{qualifier_word}
use Rattle.model.specs.Report.{lines, variable_line, param_line, row_line, report}
use Rattle.report.specs.Codes.{coded_word, coded_shape}
use Rattle.report.specs.declared.Codes.{Codes}
use Rattle.report.specs.Writing.{Room, Wrote, Spelled, words_in, pair_text, variable_text, slot_text, variable_at, slot_at}
use Rattle.report.specs.Written.{Matches, report_of, Written}
use Rattle.report.proofs.Writing.{room_first, room_rest, wrote_both}

unfoldable pub text : List (List ℕ) → Codes → ℕ → ℕ → List ℕ
text names c params rows =
    pair_text (bytes "OK") params rows
    ++ lines (variable_at names c.variables) 0 64
    ++ lines (slot_at names 80 c.paramwords c.paramshapes) 0 params
    ++ lines (slot_at names 69 c.rowwords c.rowshapes) 0 rows

lines_same : (f g : ℕ → List ℕ) (i n : ℕ) → ((k : ℕ) → k < i + n → f k ≡ g k) → lines f i n ≡ lines g i n
unfolding lines
lines_same f g i zero h = refl
lines_same f g i (suc n) h = rw (h i (omega arith), lines_same f g (i + 1) n (λ k b. h k (omega arith)))

module _ (c : Codes) (params rows : ℕ) (m : Machine) (matched : Matches m c params rows) where
  variable_same : (k : ℕ) → k < 64 → variable_line m (coded_word c) (coded_shape c) k ≡ variable_at m.schemes.names c.variables k
  unfolding variable_line variable_text
  variable_same k h = rw (matched.listed k h)

  own_names : report_of m c ≡ text m.schemes.names c params rows
  unfolding report text pair_text param_line row_line slot_text
  own_names = rw (matched.params_counted, matched.rows_counted, lines_same _ _ 0 64 variable_same)

  pub is_report : (names : List (List ℕ)) → m.schemes.names ≡ names → report_of m c ≡ text names c params rows
  is_report names named = own_names ∙ ap (λ (l : List (List ℕ)). text l c params rows) named

-- The words of a table give the text of the names that it spells.
module _ (table : List ℕ) (names : List (List ℕ)) (spelled : Spelled table names) where
  same_word : (code : ℕ) → qualifier_word (words_in table) code ≡ qualifier_word names code
  unfolding qualifier_word
  same_word zero = refl
  same_word (suc k) = spelled k

  module _ {l : List ℕ} {i : ℕ} (code : ℕ) (end : List ℕ) where
    pub named_room : Room l i (qualifier_word names code ++ end) → Room l i (qualifier_word (words_in table) code ++ end)
    named_room p = rw (same_word code) p

    pub named_wrote : {l' : List ℕ} {i' : ℕ} → Wrote l i (qualifier_word (words_in table) code ++ end) l' i' → Wrote l i (qualifier_word names code ++ end) l' i'
    named_wrote p = rw (same_word code) at p

  same_variables : (variables : List ℕ) → lines (variable_at (words_in table) variables) 0 64 ≡ lines (variable_at names variables) 0 64
  unfolding variable_text
  same_variables variables = lines_same _ _ 0 64 (λ k h. rw (same_word (get_or variables k 9)))

  same_slots : (tag : ℕ) (codes shapes : List ℕ) (n : ℕ) → lines (slot_at (words_in table) tag codes shapes) 0 n ≡ lines (slot_at names tag codes shapes) 0 n
  unfolding slot_text
  same_slots tag codes shapes n = lines_same _ _ 0 n (λ k h. rw (same_word (get_or codes k 0)))

  pub same_text : (c : Codes) (params rows : ℕ) → text (words_in table) c params rows ≡ text names c params rows
  unfolding text
  same_text c params rows =
      rw (same_variables c.variables, same_slots 80 c.paramwords c.paramshapes params, same_slots 69 c.rowwords c.rowshapes rows)

-- The four parts of the text in turn: each has room once those before it are written, and with the last of them the report is written.
module _ (names : List (List ℕ)) (c : Codes) (params rows : ℕ) {l : List ℕ} (room : Room l 0 (text names c params rows)) where
  pub counts_room : Room l 0 (pair_text (bytes "OK") params rows)
  unfolding text
  counts_room = room_first _ (room_first _ (room_first _ room))

  module _ {l₁ : List ℕ} {i₁ : ℕ} (counts : Wrote l 0 (pair_text (bytes "OK") params rows) l₁ i₁) where
    pub variables_room : Room l₁ i₁ (lines (variable_at names c.variables) 0 64)
    unfolding text
    variables_room = room_rest _ (room_first _ (room_first _ room)) counts

    module _ {l₂ : List ℕ} {i₂ : ℕ} (variables : Wrote l₁ i₁ (lines (variable_at names c.variables) 0 64) l₂ i₂) where
      pub params_room : Room l₂ i₂ (lines (slot_at names 80 c.paramwords c.paramshapes) 0 params)
      unfolding text
      params_room = room_rest _ (room_first _ room) (wrote_both counts variables)

      module _ {l₃ : List ℕ} {i₃ : ℕ} (slots : Wrote l₂ i₂ (lines (slot_at names 80 c.paramwords c.paramshapes) 0 params) l₃ i₃) where
        pub rows_room : Room l₃ i₃ (lines (slot_at names 69 c.rowwords c.rowshapes) 0 rows)
        unfolding text
        rows_room = room_rest _ room (wrote_both (wrote_both counts variables) slots)

        pub written : {l₄ : List ℕ} {i₄ : ℕ} (own : List (List ℕ)) → text names c params rows ≡ text own c params rows
            → Wrote l₃ i₃ (lines (slot_at names 69 c.rowwords c.rowshapes) 0 rows) l₄ i₄ → Written own c params rows l l₄ i₄
        unfolding text
        written {l₄} {i₄} own same last =
            let reported : (m : Machine) → m.schemes.names ≡ own → Matches m c params rows → report_of m c ≡ text names c params rows =
            λ m named matched. is_report c params rows m matched own named ∙ sym same in
            let start : 0 + length (text names c params rows) ≡ length (text names c params rows) = omega arith in
            let whole : Wrote l 0 (text names c params rows) l₄ i₄ = wrote_both (wrote_both (wrote_both counts variables) slots) last in
            record {
              buffer = λ m named matched. rw (reported m named matched) (whole.bytes ∙ sets-eq (text names c params rows) l 0 room.fits ∙ rw start);
              size = λ m named matched. rw (reported m named matched) (whole.end ∙ start);
            }
