-- A report holds no small letter: its tags and words are in capitals, and digits, commas and line feeds are no letters.
use Prim.Native.Nat.{ℕ, zero, suc, ◌+◌}
use mathlib.Core.Bool.{Bool, true, false, cond}
use mathlib.Core.List.{List, [], ◌∷◌, ◌++◌, map-append}
use mathlib.Core.Path.{◌≡◌, refl, sym, ap, ap₂, ◌∙◌}
use lib.ListN.{length, get_or, take}
use lib.Seq.{take-append_seam}
use Rattle.scheme.proofs.Every.{and_left, and_right}
use Rattle.scheme.specs.Schemes.{words, Sound}
use Rattle.model.specs.Lists.{all_of, same, bytes}
use Rattle.model.specs.Number.{decimal}
use Rattle.model.specs.Word.{qualifier_words, capital, capitals, qualifier_word}
use Rattle.model.specs.Machine.{Machine}
use Rattle.model.specs.Inference.{Slot, variable, Shape, mentions}
use Rattle.model.specs.Report.{joined, line, shape_word, lines, variable_line, param_line, row_line, report}
use Rattle.model.specs.Session.{Outcome, Infers}
use Rattle.model.proofs.Lists.{same_bytes}
use Rattle.model.proofs.Capitals.{digits_stay}
use Rattle.model.proofs.Names.{names_stay}
use Rattle.inference.proofs.Corollaries.{reported_greatest}
use Rattle.starred.specs.Starred.{All, []ᴬ, ◌∷ᴬ◌}
use Rattle.demands.specs.Replacements.{report_in}
use Rattle.demands.proofs.Decimal.{decimal-digits}

-- The bytes are their own capitals.
abbrev InCapitals : List ℕ → Type 0
InCapitals s = capitals s ≡ s

both : (xs ys : List ℕ) → InCapitals xs → InCapitals ys → InCapitals (xs ++ ys)
both xs ys p q = map-append capital xs ys ∙ ap₂ ◌++◌ p q

comma : InCapitals (44 ∷ [])
unfolding capital
comma = refl

line_feed : InCapitals (10 ∷ [])
unfolding capital
line_feed = refl

joined_capitals : (fs : List (List ℕ)) → All InCapitals fs → InCapitals (joined fs)
joined_capitals [] []ᴬ = refl
joined_capitals (f ∷ []) (p ∷ᴬ []ᴬ) = p
joined_capitals (f ∷ g ∷ fs) (p ∷ᴬ more) = both f (44 ∷ joined (g ∷ fs)) p (both (44 ∷ []) (joined (g ∷ fs)) comma (joined_capitals (g ∷ fs) more))

line_capitals : (fs : List (List ℕ)) → All InCapitals fs → InCapitals (line fs)
unfolding line
line_capitals fs each = both (joined fs) (10 ∷ []) (joined_capitals fs each) line_feed

lines_capitals : (f : ℕ → List ℕ) → ((k : ℕ) → InCapitals (f k)) → (i n : ℕ) → InCapitals (lines f i n)
unfolding lines
lines_capitals f each i zero = refl
lines_capitals f each i (suc n) = both (f i) (lines f (i + 1) n) (each i) (lines_capitals f each (i + 1) n)

-- The fields of a report's lines.
number_stays : (n : ℕ) → InCapitals (decimal n)
number_stays n = digits_stay (decimal n) (decimal-digits n)

word_of : (ws : List (List ℕ)) → all_of (λ w. same (capitals w) w) ws ≡ true → (c : ℕ) → InCapitals (get_or ws c [])
word_of [] h c = refl
word_of (w ∷ ws) h zero = same_bytes (capitals w) w (and_left _ (all_of (λ w. same (capitals w) w) ws) h)
word_of (w ∷ ws) h (suc c) = word_of ws (and_right (same (capitals w) w) _ h) c

word_stays : (names : List (List ℕ)) → all_of (λ w. same (capitals w) w) names ≡ true → (c : ℕ) → InCapitals (qualifier_word names c)
unfolding capital qualifier_word
word_stays names stay c = word_of (qualifier_words names) stay c

shape_stays : (shape : Shape) → InCapitals (shape_word shape)
unfolding capital shape_word
shape_stays Shape.int = refl
shape_stays Shape.arrow = refl
shape_stays Shape.any = refl

tags_stay : InCapitals (bytes "OK") × InCapitals (bytes "G") × InCapitals (bytes "P") × InCapitals (bytes "E")
unfolding capital
tags_stay = (refl, refl, refl, refl)

module _ (m : Machine) (sound : Sound m.schemes) (word : Slot → ℕ) (shape : Slot → Shape) where
  own : (c : ℕ) → InCapitals (qualifier_word m.schemes.names c)
  own = word_stays m.schemes.names (names_stay m.schemes.names sound.named)

  variable_capitals : (k : ℕ) → InCapitals (variable_line m word shape k)
  unfolding variable_line
  variable_capitals k = by (mentions m (k + words m.schemes))
    where
      by : (t : Bool) → InCapitals (cond t (line (bytes "G" ∷ decimal k ∷ qualifier_word m.schemes.names (word (variable k)) ∷ [])) [])
      by true = line_capitals _ (tags_stay.1 ∷ᴬ number_stays k ∷ᴬ own _ ∷ᴬ []ᴬ)
      by false = refl

  param_capitals : (p : ℕ) → InCapitals (param_line m word shape p)
  unfolding param_line
  param_capitals p = line_capitals _ (tags_stay.2 ∷ᴬ number_stays p ∷ᴬ own _ ∷ᴬ shape_stays _ ∷ᴬ []ᴬ)

  row_capitals : (i : ℕ) → InCapitals (row_line m word shape i)
  unfolding row_line
  row_capitals i = line_capitals _ (tags_stay.3 ∷ᴬ number_stays i ∷ᴬ own _ ∷ᴬ shape_stays _ ∷ᴬ []ᴬ)

  report_capitals : InCapitals (report m word shape)
  unfolding report
  report_capitals =
      let counts = line_capitals _ (tags_stay.0 ∷ᴬ number_stays (length m.params) ∷ᴬ number_stays (length m.terms) ∷ᴬ []ᴬ) in
      let with-variables = both _ _ counts (lines_capitals _ variable_capitals 0 64) in
      let with_params = both _ _ with-variables (lines_capitals _ param_capitals 0 (length m.params)) in
      both _ _ with_params (lines_capitals _ row_capitals 0 (length m.terms))

pub reported_capitals : {m : Machine} {buffer : List ℕ} {o : Outcome} → Sound m.schemes → Infers m buffer o → o.number ≡ 0 → capitals (report_in o) ≡ report_in o
reported_capitals {m} {buffer} {o} sound i accepted =
    let (word, shape, size, after, greatest) = reported_greatest i accepted in
    let front : report_in o ≡ report m word shape = ap₂ take size after ∙ take-append_seam (report m word shape) _ in
    ap capitals front ∙ report_capitals m sound word shape ∙ sym front
