-- A byte's capital, the fields of a line's capitals, and what reads of a field as it reads of its capitals: a word's place and a number.
use Prim.Native.Nat.{ℕ, zero, suc, ◌+◌, ◌-◌, ◌≤◌, ◌<◌}
use native.Mathlib.Omega.{arith}
use native.Mathlib.Decide.{dec_le}
use mathlib.Core.Bool.{Bool, true, false, ◌&&◌, ◌||◌, cond, and-false}
use mathlib.Core.List.{List, [], ◌∷◌, map}
use mathlib.Core.Path.{◌≡◌, refl, sym, ap, ap₂, ◌∙◌}
use lib.Dec.{eqb, leb}
use lib.ListN.{length, length-map, get_or}
use borrow.Author.Tests.{le-leb, lt-leb, leb-true, ne_eqb}
use Rattle.std.specs.Prelude.{Option, Some, None}
use Rattle.scheme.proofs.Every.{and_left, and_right}
use Rattle.model.specs.Lists.{all_of, contains, same}
use Rattle.model.specs.Number.{is_digit, number_of}
use Rattle.model.specs.Word.{qualifier_words, operation_words, capital, capitals, spells, place_in, word_of, scheme_of, operation_of}
use Rattle.model.specs.Line.{onto, fields}
use Rattle.model.proofs.Lists.{same_bytes, same_self}

-- The three ranges of bytes.
pub capital_before : (b : ℕ) → b < 97 → b ≡ capital b
unfolding capital
capital_before b h = simp (lt-leb 97 b h)

pub capital_small : (b : ℕ) → 97 ≤ b → b ≤ 122 → b - 32 ≡ capital b
unfolding capital
capital_small b low high = simp (le-leb 97 b low, le-leb b 122 high)

pub capital_after : (b : ℕ) → 122 < b → b ≡ capital b
unfolding capital
capital_after b h = simp (lt-leb b 122 h, and-false)

-- A byte is a small letter with its capital, or reads as itself.
capital_cases : {P : Type 0} (b : ℕ) → (97 ≤ b → b ≤ 122 → b - 32 ≡ capital b → P) → (b ≡ capital b → P) → P
capital_cases {P} b small other = by (dec_le 97 b) (dec_le b 122)
  where
    by : Dec (97 ≤ b) → Dec (b ≤ 122) → P
    by (yes low) (yes high) = small low high (capital_small b low high)
    by (yes low) (no past) = let after : 122 < b = omega arith in other (capital_after b after)
    by (no before) high = let below : b < 97 = omega arith in other (capital_before b below)

capital_again : (b : ℕ) → capital (capital b) ≡ capital b
capital_again b = capital_cases b (λ low high e. sym (ap capital e) ∙ sym (capital_before (b - 32) (omega arith)) ∙ e) (λ e. sym (ap capital e))

capitals_again : (s : List ℕ) → capitals (capitals s) ≡ capitals s
capitals_again [] = refl
capitals_again (b ∷ bs) = ap₂ ◌∷◌ (capital_again b) (capitals_again bs)

-- There are as many capitals as bytes, and byte i of them is the capital of byte i.
pub capitals_length : (s : List ℕ) → length (capitals s) ≡ length s
capitals_length s = length-map s capital

pub capitals_at : (s : List ℕ) (i : ℕ) → get_or (capitals s) i 0 ≡ capital (get_or s i 0)
capitals_at [] zero = capital_before 0 (omega arith)
capitals_at [] (suc i) = capital_before 0 (omega arith)
capitals_at (b ∷ bs) zero = refl
capitals_at (b ∷ bs) (suc i) = capitals_at bs i

-- A test that fails from `A` to `z` has the same result for a byte and its capital.
pub test_capital : (test : ℕ → Bool) → ((b : ℕ) → 65 ≤ b → b ≤ 122 → test b ≡ false) → (b : ℕ) → test (capital b) ≡ test b
test_capital test fails b =
    capital_cases b
    (λ low high e. sym (ap test e) ∙ fails (b - 32) (omega arith) (omega arith) ∙ sym (fails b (omega arith) high))
    (λ e. sym (ap test e))

pub capitals_contain : (c : ℕ) → c < 65 → (s : List ℕ) → contains c (capitals s) ≡ contains c s
capitals_contain c h [] = refl
capitals_contain c h (b ∷ bs) = ap₂ ◌||◌ (test_capital (eqb c) (λ b low high. ne_eqb c b (λ e. omega arith)) b) (capitals_contain c h bs)

-- A comma is no letter, so that a line's capitals have the capitals of its fields.
onto_capitals : (b : ℕ) (fs : List (List ℕ)) → map capitals (onto b fs) ≡ onto (capital b) (map capitals fs)
onto_capitals b [] = refl
onto_capitals b (f ∷ fs) = refl

pub fields_capitals : (s : List ℕ) → fields (capitals s) ≡ map capitals (fields s)
fields_capitals [] = refl
fields_capitals (b ∷ bs) =
    simp (test_capital (λ b. eqb b 44) (λ b low high. ne_eqb b 44 (λ e. omega arith)) b, fields_capitals bs) (by (eqb b 44))
  where
    by : (t : Bool) → cond t ([] ∷ map capitals (fields bs)) (onto (capital b) (map capitals (fields bs))) ≡ map capitals (cond t ([] ∷ fields bs) (onto b (fields bs)))
    by true = refl
    by false = sym (onto_capitals b (fields bs))

pub field_capitals : (fs : List (List ℕ)) (k : ℕ) → get_or (map capitals fs) k [] ≡ capitals (get_or fs k [])
field_capitals [] zero = refl
field_capitals [] (suc k) = refl
field_capitals (f ∷ fs) zero = refl
field_capitals (f ∷ fs) (suc k) = field_capitals fs k

-- A field spells a word exactly where its capitals are the word.
pub spells_exactly : (s word : List ℕ) → (spells s word ≡ true → capitals s ≡ word) × (capitals s ≡ word → spells s word ≡ true)
unfolding spells
spells_exactly s word = (same_bytes (capitals s) word, λ e. ap (same (capitals s)) (sym e) ∙ same_self (capitals s))

-- So a field and its capitals spell the same word, and have the same place among words.
pub spells_capitals : (s word : List ℕ) → spells (capitals s) word ≡ spells s word
unfolding spells
spells_capitals s word = ap (λ (s : List ℕ). same s word) (capitals_again s)

place_capitals : (c : ℕ) (words : List (List ℕ)) (s : List ℕ) → place_in c words (capitals s) ≡ place_in c words s
place_capitals c [] s = refl
place_capitals c (word ∷ words) s = ap₂ (λ (t : Bool) (later : Option ℕ). cond t (Some c) later) (spells_capitals s word) (place_capitals (c + 1) words s)

module _ (names : List (List ℕ)) where
  pub word_capitals : (s : List ℕ) → word_of names (capitals s) ≡ word_of names s
  unfolding word_of
  word_capitals s = place_capitals 0 (qualifier_words names) s

  pub scheme_capitals : (s : List ℕ) → scheme_of names (capitals s) ≡ scheme_of names s
  unfolding scheme_of
  scheme_capitals s = place_capitals 1 names s

pub operation_capitals : (s : List ℕ) → operation_of (capitals s) ≡ operation_of s
unfolding operation_of
operation_capitals s = place_capitals 0 operation_words s

-- Digits are no letters, so a number reads alike as well.
no_digit : (b : ℕ) → 65 ≤ b → b ≤ 122 → is_digit b ≡ false
no_digit b low high = simp (lt-leb b 57 (omega arith), and-false)

digits_capitals : (s : List ℕ) → all_of is_digit (capitals s) ≡ all_of is_digit s
digits_capitals [] = refl
digits_capitals (b ∷ bs) = ap₂ ◌&&◌ (test_capital is_digit no_digit b) (digits_capitals bs)

pub digits_stay : (s : List ℕ) → all_of is_digit s ≡ true → capitals s ≡ s
digits_stay [] h = refl
digits_stay (b ∷ bs) h =
    let digit : b ≤ 57 = leb-true b 57 (and_right (leb 48 b) (leb b 57) (and_left (is_digit b) (all_of is_digit bs) h)) in
    ap₂ ◌∷◌ (sym (capital_before b (omega arith))) (digits_stay bs (and_right (is_digit b) (all_of is_digit bs) h))

no_number : (most : ℕ) (s : List ℕ) → all_of is_digit s ≡ false → number_of most s ≡ None
unfolding number_of
no_number most s h = simp (h, and-false)

pub number_capitals : (most : ℕ) (s : List ℕ) → number_of most (capitals s) ≡ number_of most s
number_capitals most s = by (all_of is_digit s) refl
  where
    by : (t : Bool) → all_of is_digit s ≡ t → number_of most (capitals s) ≡ number_of most s
    by true h = ap (number_of most) (digits_stay s h)
    by false h = no_number most (capitals s) (digits_capitals s ∙ h) ∙ sym (no_number most s h)

-- What reads of a field as of its capitals reads alike of two fields that have the same capitals.
pub read_alike : {A : Type 0} (reading : List ℕ → A) → ((s : List ℕ) → reading (capitals s) ≡ reading s) → {s t : List ℕ} → capitals s ≡ capitals t → reading s ≡ reading t
read_alike reading stays {s} {t} e = sym (stays s) ∙ ap reading e ∙ stays t
