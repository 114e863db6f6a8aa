-- A line that holds a line feed has none of the forms: no field that is read holds one.
use Prim.Native.Nat.{ℕ, suc, ◌+◌, ◌<◌}
use native.Mathlib.Omega.{arith}
use native.Mathlib.Decide.{dec_lt}
use mathlib.Core.Bool.{Bool, true, false, not, cond, false≢true}
use mathlib.Core.List.{List, [], ◌∷◌}
use mathlib.Core.Path.{◌≡◌, refl, sym, ap, subst, ◌∙◌}
use lib.Dec.{eqb, leb}
use lib.ListN.{length}
use borrow.Author.Tests.{eqb-true, not-true}
use Rattle.std.specs.Prelude.{Option, Some, None}
use Rattle.scheme.proofs.Every.{and_left, and_right}
use Rattle.model.specs.Lists.{all_of, contains, same, bytes}
use Rattle.model.specs.Number.{is_digit, number_of}
use Rattle.model.specs.Word.{qualifier_words, operation_words, spells, place_in, word_of, variable_of, qualifier_of, scheme_of, operation_of}
use Rattle.model.specs.Line.{fields, field, number, literal, qualifier, floor, scheme, operation, given, choose, exactly, tag, kind, int_line, any_line, arrow_line, param_line, lam_line, app_line, op_line, var_line, num_line, enc_line, type_line, leaf_line, term_line, line_of}
use Rattle.model.specs.declared.Line.{Line}
use Rattle.model.specs.declared.Line.TheVariants.{NoForm}
use Rattle.model.proofs.Lists.{same_bytes}
use Rattle.model.proofs.Capitals.{capitals_contain, spells_exactly}
use Rattle.tokens.proofs.Bounds.{variable_cases, qualifier_cases, floor_cases}
use Rattle.demands.proofs.Decimal.{number_digits}
use Rattle.demands.proofs.Without.{kind_without, fields_contain, parts_without}

-- The bytes hold no line feed.
abbrev Clean : List ℕ → Type 0
Clean s = contains 10 s ≡ false

-- What is read of a field: a number, a word, a qualifier.
number_clean : (most v : ℕ) (f : List ℕ) → number_of most f ≡ Some v → Clean f
number_clean most v f e = kind_without 10 is_digit refl f (number_digits most v f e)

same_clean : (f letter : List ℕ) → Clean letter → same f letter ≡ true → Clean f
same_clean f letter clean h = ap (contains 10) (same_bytes f letter h) ∙ clean

-- A line feed is no letter, so it is no byte's capital but its own.
word_clean : (f word : List ℕ) → Clean word → spells f word ≡ true → Clean f
word_clean f word clean h = sym (capitals_contain 10 (omega arith) f) ∙ ap (contains 10) ((spells_exactly f word).0 h) ∙ clean

place_clean : (c v : ℕ) (words : List (List ℕ)) (f : List ℕ) → all_of (λ word. not (contains 10 word)) words ≡ true → place_in c words f ≡ Some v → Clean f
place_clean c v [] f clean e = cc
place_clean c v (word ∷ words) f clean e = by (spells f word) refl (place_clean (c + 1) v words f (and_right (not (contains 10 word)) _ clean)) e
  where
    by : (t : Bool) → spells f word ≡ t → (place_in (c + 1) words f ≡ Some v → Clean f) → cond t (Some c) (place_in (c + 1) words f) ≡ Some v → Clean f
    by true h later e = word_clean f word (not-true (contains 10 word) (and_left (not (contains 10 word)) _ clean)) h
    by false h later e = later e

variable_clean : (n v : ℕ) (f : List ℕ) → variable_of n f ≡ Some v → Clean f
variable_clean n v f e = variable_cases n f v e (λ digits k begins number code. ap (contains 10) begins ∙ number_clean 63 k digits number)

operation_clean : (v : ℕ) (f : List ℕ) → operation_of f ≡ Some v → Clean f
unfolding operation_of
operation_clean v f e = place_clean 0 v operation_words f refl e

-- A line has no form unless each of its steps passes.
given_none : (f : Option ℕ) (rest : ℕ → Line) → ((v : ℕ) → f ≡ Some v → rest v ≡ NoForm) → given f rest ≡ NoForm
unfolding given
given_none (Some v) rest none = none v refl
given_none None rest none = refl

choose_none : (t : Bool) {a b : Line} → (t ≡ true → a ≡ NoForm) → b ≡ NoForm → choose t a b ≡ NoForm
unfolding choose
choose_none true none other = none refl
choose_none false none other = other

module _ (s : List ℕ) where
  exactly_none : (n : ℕ) {line : Line} → (length (fields s) ≡ n → line ≡ NoForm) → exactly n s line ≡ NoForm
  unfolding exactly
  exactly_none n none = choose_none (eqb (length (fields s)) n) (λ e. none (eqb-true (length (fields s)) n e)) refl

  -- A field that passes is clean.
  module _ (k : ℕ) {rest : ℕ → Line} (none : Clean (field s k) → (v : ℕ) → rest v ≡ NoForm) where
    number-none : given (number s k) rest ≡ NoForm
    number-none = given_none (number s k) rest (λ v e. none (number_clean 65535 v (field s k) e) v)

    literal_none : given (literal s k) rest ≡ NoForm
    literal_none = given_none (literal s k) rest (λ v e. none (number_clean 4294967295 v (field s k) e) v)

    operation_none : given (operation s k) rest ≡ NoForm
    operation_none = given_none (operation s k) rest (λ v e. none (operation_clean v (field s k) e) v)

  -- The tag stands in field 0, the kind's word in field 2.
  tag_none : (letter : List ℕ) {line other : Line} → Clean letter → (Clean (field s 0) → line ≡ NoForm) → other ≡ NoForm → choose (tag s letter) line other ≡ NoForm
  tag_none letter clean none = choose_none (tag s letter) (λ e. none (same_clean (field s 0) letter clean e))

  kind_none : (word : List ℕ) {line other : Line} → Clean word → (Clean (field s 2) → line ≡ NoForm) → other ≡ NoForm → choose (kind s word) line other ≡ NoForm
  kind_none word clean none = choose_none (kind s word) (λ e. none (word_clean (field s 2) word clean e))

infixl 60 ◌then◌
-- The first fields of a line are clean.
data CleanTo (s : List ℕ) : ℕ → Type 0 where
  start : CleanTo s 0
  ◌then◌ : {k : ℕ} → CleanTo s k → Clean (field s k) → CleanTo s (suc k)

clean_at : {s : List ℕ} {n : ℕ} → CleanTo s n → (k : ℕ) → k < n → Clean (field s k)
clean_at start k h = absurd (omega arith)
clean_at {s} (◌then◌ {k = n} front last) k h = by (dec_lt k n) (clean_at front k)
  where
    by : Dec (k < n) → (k < n → Clean (field s k)) → Clean (field s k)
    by (yes below) earlier = earlier below
    by (no past) earlier = let is_last : n ≡ k = omega arith in subst (λ (k : ℕ). Clean (field s k)) is_last last

-- Qualifiers and schemes are read by the names of a scheme table, none of which holds a line feed.
module _ (names : List (List ℕ)) (clean : all_of (λ name. not (contains 10 name)) names ≡ true) where
  qualifier_word_clean : (v : ℕ) (f : List ℕ) → word_of names f ≡ Some v → Clean f
  unfolding word_of
  qualifier_word_clean v f e = place_clean 0 v (qualifier_words names) f clean e

  qualifier_clean : (v : ℕ) (f : List ℕ) → qualifier_of names f ≡ Some v → Clean f
  qualifier_clean v f e = qualifier_cases names f v e (qualifier_word_clean v f) (variable_clean (suc (length names)) v f)

  scheme_clean : (v : ℕ) (f : List ℕ) → scheme_of names f ≡ Some v → Clean f
  unfolding scheme_of
  scheme_clean v f e = place_clean 1 v names f clean e

  module _ (s : List ℕ) where
    module _ (k : ℕ) {rest : ℕ → Line} (none : Clean (field s k) → (v : ℕ) → rest v ≡ NoForm) where
      qualifier_none : given (qualifier names s k) rest ≡ NoForm
      qualifier_none = given_none (qualifier names s k) rest (λ v e. none (qualifier_clean v (field s k) e) v)

      scheme_none : given (scheme names s k) rest ≡ NoForm
      scheme_none = given_none (scheme names s k) rest (λ v e. none (scheme_clean v (field s k) e) v)

    -- The floor is left out, or stands in field 4.
    floor_none : {rest : ℕ → Line} → (length (fields s) ≡ 4 → (v : ℕ) → rest v ≡ NoForm) → (length (fields s) ≡ 5 → Clean (field s 4) → (v : ℕ) → rest v ≡ NoForm) → given (floor names s) rest ≡ NoForm
    floor_none {rest} four five = given_none (floor names s) rest (λ v e. floor_cases names s v e (λ n plain. four n v) (λ n word. five n (qualifier_word_clean v (field s 4) word) v))

  module _ (s : List ℕ) (feed : contains 10 s ≡ true) where
    -- The line feed stands in a field that is read.
    all_read : {n : ℕ} {line : Line} → length (fields s) ≡ n → CleanTo s n → line ≡ NoForm
    all_read e clean = absurd (false≢true (sym (parts_without 10 (fields s) (λ k h. clean_at clean k (omega arith))) ∙ fields_contain 10 refl s ∙ feed))

    module _ (c₀ : Clean (field s 0)) where
      param-none : param_line names s ≡ NoForm
      unfolding param_line
      param-none =
          number-none s 1 λ c₁ p. qualifier_none s 2 λ c₂ q. number-none s 3 λ c₃ t.
          floor_none s (λ n f. all_read n (start then c₀ then c₁ then c₂ then c₃)) (λ n c₄ f. all_read n (start then c₀ then c₁ then c₂ then c₃ then c₄))

      module _ (c₂ : Clean (field s 2)) where
        int_none : int_line s ≡ NoForm
        unfolding int_line
        int_none = exactly_none s 3 λ n. number-none s 1 λ c₁ i. all_read n (start then c₀ then c₁ then c₂)

        any_none : any_line s ≡ NoForm
        unfolding any_line
        any_none = exactly_none s 3 λ n. number-none s 1 λ c₁ i. all_read n (start then c₀ then c₁ then c₂)

        arrow_none : arrow_line names s ≡ NoForm
        unfolding arrow_line
        arrow_none =
            exactly_none s 7 λ n. number-none s 1 λ c₁ i. qualifier_none s 3 λ c₃ q. number-none s 4 λ c₄ t. qualifier_none s 5 λ c₅ q'. number-none s 6 λ c₆ t'.
            all_read n (start then c₀ then c₁ then c₂ then c₃ then c₄ then c₅ then c₆)

        lam_none : lam_line s ≡ NoForm
        unfolding lam_line
        lam_none = exactly_none s 5 λ n. number-none s 1 λ c₁ i. number-none s 3 λ c₃ p. number-none s 4 λ c₄ b. all_read n (start then c₀ then c₁ then c₂ then c₃ then c₄)

        app_none : app_line s ≡ NoForm
        unfolding app_line
        app_none = exactly_none s 5 λ n. number-none s 1 λ c₁ i. number-none s 3 λ c₃ f. number-none s 4 λ c₄ a. all_read n (start then c₀ then c₁ then c₂ then c₃ then c₄)

        op_none : op_line s ≡ NoForm
        unfolding op_line
        op_none =
            exactly_none s 6 λ n. number-none s 1 λ c₁ i. operation_none s 3 λ c₃ o. number-none s 4 λ c₄ l. number-none s 5 λ c₅ r.
            all_read n (start then c₀ then c₁ then c₂ then c₃ then c₄ then c₅)

        var_none : var_line s ≡ NoForm
        unfolding var_line
        var_none = exactly_none s 4 λ n. number-none s 1 λ c₁ i. number-none s 3 λ c₃ p. all_read n (start then c₀ then c₁ then c₂ then c₃)

        num_none : num_line s ≡ NoForm
        unfolding num_line
        num_none = exactly_none s 4 λ n. number-none s 1 λ c₁ i. literal_none s 3 λ c₃ v. all_read n (start then c₀ then c₁ then c₂ then c₃)

        enc_none : enc_line names s ≡ NoForm
        unfolding enc_line
        enc_none = exactly_none s 5 λ n. number-none s 1 λ c₁ i. scheme_none s 3 λ c₃ e. literal_none s 4 λ c₄ v. all_read n (start then c₀ then c₁ then c₂ then c₃ then c₄)

      type_none : type_line names s ≡ NoForm
      unfolding type_line
      type_none = kind_none s (bytes "INT") refl int_none (kind_none s (bytes "ANY") refl any_none (kind_none s (bytes "ARROW") refl arrow_none refl))

      leaf_none : leaf_line names s ≡ NoForm
      unfolding leaf_line
      leaf_none = kind_none s (bytes "VAR") refl var_none (kind_none s (bytes "NUM") refl num_none (kind_none s (bytes "ENC") refl enc_none refl))

      term_none : term_line names s ≡ NoForm
      unfolding term_line
      term_none = kind_none s (bytes "LAM") refl lam_none (kind_none s (bytes "APP") refl app_none (kind_none s (bytes "OP") refl op_none leaf_none))

    pub feed_no_form : line_of names s ≡ NoForm
    unfolding line_of
    feed_no_form =
        choose_none (leb (length s) 64)
        (λ short. tag_none s (bytes "T") refl type_none (tag_none s (bytes "P") refl param-none (tag_none s (bytes "E") refl term_none refl)))
        refl
