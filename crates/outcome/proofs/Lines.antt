-- What a run came to and the steps made are its line, for which there is room: no number has more than ten digits, and no word more than five bytes.
use Prim.Native.Nat.{ℕ, ◌≤◌}
use native.Mathlib.Omega.{arith}
use native.Mathlib.Decide.{dec_le}
use mathlib.Core.List.{List, [], ◌∷◌, ◌++◌, append_assoc}
use mathlib.Core.Path.{◌≡◌, ap, ◌∙◌}
use lib.ListN.{length, length-append}
use lib.Seq.{length-sets}
use Rattle.model.specs.Lists.{bytes}
use Rattle.model.specs.Number.{decimal}
use Rattle.model.specs.Word.{qualifier_word}
use Rattle.model.specs.Machine.{Machine}
use Rattle.model.specs.Report.{line}
use Rattle.model.proofs.Digits.{long_number}
use Rattle.tokens.proofs.RoundTrip.{number_of_decimal}
use Rattle.report.specs.Writing.{Room, Wrote, Front}
use Rattle.report.specs.Written.{Short}
use Rattle.report.proofs.Tables.{short_word}
use Rattle.report.proofs.Writing.{wrote_both}
use Rattle.report.proofs.Fronts.{front_written}
use Rattle.conversation.specs.Script.{ran_line}
use Rattle.std.specs.Prelude.{Result, Ok, Err}
use Rattle.moves.specs.Moves.{refusal_number}
use Rattle.moves.specs.declared.Refusal.{Refusal}
use Rattle.evaluator.specs.Evaluation.{outcome}
use Rattle.evaluator.specs.declared.Answer.{Answer}
use Rattle.evaluator.specs.declared.Answer.TheVariants.{Number, Function}
use Rattle.evaluator.specs.declared.Ran.{Ran}
use Rattle.outcome.specs.Result.{result_text}

-- Ten digits at most, since more would not be read again as a number.
digits_most : (n : ℕ) → n ≤ 4294967295 → length (decimal n) ≤ 10
digits_most n h = by (dec_le (length (decimal n)) 10)
  where
    by : Dec (length (decimal n) ≤ 10) → length (decimal n) ≤ 10
    by (yes few) = few
    by (no many) = let z : ◌≡◌ {A = ℕ} 0 1 = cc (number_of_decimal 4294967295 n h, long_number (decimal n) (omega arith)) in absurd (omega arith)

-- The text w was written at i, and what follows it has room.
after_room : {l w l₁ : List ℕ} {i i₁ : ℕ} (w₁ : List ℕ) → 6280 ≤ length l → Wrote l i w l₁ i₁ → i₁ ≤ 24 → length w₁ ≤ 22 → Room l₁ i₁ w₁
after_room {l} {w} {i = i} w₁ long wrote near short = record { fits = omega (arith, ap length wrote.bytes ∙ length-sets l i w) }

-- Behind the first word there is room for a number, and behind that for the word of its tag.
module _ (l l₁ : List ℕ) (i₁ : ℕ) (long : 6280 ≤ length l) (word : List ℕ) (short : length word ≤ 7) (opened : Wrote l 0 word l₁ i₁) (n : ℕ) (h : n ≤ 4294967295) where
  pub number_room : Room l₁ i₁ (decimal n ++ (44 ∷ []))
  number_room = after_room (decimal n ++ (44 ∷ [])) long opened (omega (arith, opened.end)) (simp length-append (omega (arith, digits_most n h)))

  module _ (l₂ : List ℕ) (i₂ : ℕ) (counted : Wrote l₁ i₁ (decimal n ++ (44 ∷ [])) l₂ i₂) where
    pub number_near : i₂ ≤ 18
    number_near = omega (arith, opened.end, counted.end, length-append (decimal n) (44 ∷ []), digits_most n h)

    module _ (names : List (List ℕ)) (tag : ℕ) (named : Short names) where
      pub tag_room : Room l₂ i₂ (qualifier_word names tag ++ (44 ∷ []))
      tag_room =
          after_room (qualifier_word names tag ++ (44 ∷ [])) long (wrote_both opened counted) (omega (arith, number_near)) (simp length-append (omega (arith, short_word names tag named)))

      pub tag_near : (l₃ : List ℕ) (i₃ : ℕ) → Wrote l₂ i₂ (qualifier_word names tag ++ (44 ∷ [])) l₃ i₃ → i₃ ≤ 24
      tag_near l₃ i₃ tagged = omega (arith, number_near, tagged.end, length-append (qualifier_word names tag) (44 ∷ []), short_word names tag named)

-- The three results.
module _ (names : List (List ℕ)) (answer : Result Answer Refusal) {l l₁ : List ℕ} {i₁ : ℕ} where
  pub number_result : {l₂ l₃ : List ℕ} {i₂ i₃ : ℕ} {a : Answer} (n tag : ℕ) → answer ≡ Ok a → a ≡ Number n tag → Wrote l 0 (bytes "NUMBER,") l₁ i₁ → Wrote l₁ i₁ (decimal n ++ (44 ∷ [])) l₂ i₂ →
      Wrote l₂ i₂ (qualifier_word names tag ++ (44 ∷ [])) l₃ i₃ → Wrote l 0 (result_text names answer) l₃ i₃
  unfolding result_text
  number_result n tag e is opened counted tagged = rw (e, is) (wrote_both (wrote_both opened counted) tagged)

  pub function_result : {a : Answer} → answer ≡ Ok a → a ≡ Function → Wrote l 0 (bytes "FUNCTION,") l₁ i₁ → Wrote l 0 (result_text names answer) l₁ i₁
  unfolding result_text
  function_result e is opened = rw (e, is) opened

  pub refusal_result : {l₂ : List ℕ} {i₂ n : ℕ} (e : Refusal) → answer ≡ Err e → n ≡ refusal_number e → Wrote l 0 (bytes "NO,") l₁ i₁ → Wrote l₁ i₁ (decimal n ++ (44 ∷ [])) l₂ i₂ →
      Wrote l 0 (result_text names answer) l₂ i₂
  unfolding result_text
  refusal_result e is said opened counted = rw (is, ← said) (wrote_both opened counted)

-- The line has the result first and the counts last.
whole : (m : Machine) (ran : Ran) → ran_line m (outcome ran) ≡ result_text m.schemes.names ran.answer ++ line (decimal ran.applications ∷ decimal ran.operations ∷ [])
unfolding ran_line result_text line
whole m ran = by ran.answer
  where
    by : (a : Result Answer Refusal) → ran_line m (outcome (record { applications = ran.applications; operations = ran.operations; answer = a })) ≡ result_text m.schemes.names a ++ line (decimal ran.applications ∷ decimal ran.operations ∷ [])
    by (Ok (Number n tag)) = simp append_assoc
    by (Ok Function) = simp append_assoc
    by (Err e) = simp append_assoc

module _ (l l₁ result : List ℕ) (i₁ : ℕ) (long : 6280 ≤ length l) (wrote : Wrote l 0 result l₁ i₁) (near : i₁ ≤ 24) (applications operations : ℕ) (h : applications ≤ 65535) (k : operations ≤ 65535) where
  counts_short : length (line (decimal applications ∷ decimal operations ∷ [])) ≤ 22
  unfolding line
  counts_short = simp length-append (omega (arith, digits_most applications (omega arith), digits_most operations (omega arith)))

  pub counts_room : Room l₁ i₁ (line (decimal applications ∷ decimal operations ∷ []))
  counts_room = after_room (line (decimal applications ∷ decimal operations ∷ [])) long wrote near counts_short

  line_room : Room l 0 (result ++ line (decimal applications ∷ decimal operations ∷ []))
  line_room = record { fits = simp length-append (omega (arith, wrote.end, counts_short)) }

-- So the line stands at the front of the buffer, for every machine with these names.
pub ran_front : (names : List (List ℕ)) (ran : Ran) (l l₁ l₂ : List ℕ) (i₁ i₂ : ℕ) → 6280 ≤ length l → ran.applications ≤ 65535 → ran.operations ≤ 65535 →
    Wrote l 0 (result_text names ran.answer) l₁ i₁ → i₁ ≤ 24 → Wrote l₁ i₁ (line (decimal ran.applications ∷ decimal ran.operations ∷ [])) l₂ i₂ →
    (m : Machine) → m.schemes.names ≡ names → Front (ran_line m (outcome ran)) l₂ i₂
ran_front names ran l l₁ l₂ i₁ i₂ long h k wrote near counts m named =
    rw (whole m ran, named) (front_written _ l l₂ i₂ (line_room l l₁ _ i₁ long wrote near ran.applications ran.operations h k) (wrote_both wrote counts))
