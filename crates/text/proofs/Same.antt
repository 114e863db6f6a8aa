-- What is printed, and what is returned, is a function of the text and the buffer.
use Prim.Native.Nat.{ℕ, ◌+◌, ◌*◌}
use native.Mathlib.Omega.{arith}
use mathlib.Core.Bool.{Bool, true, false, cond}
use mathlib.Core.List.{List, [], ◌∷◌}
use mathlib.Core.Path.{◌≡◌, refl, sym, ap, ap₂, subst, ◌∙◌}
use lib.Dec.{eqb}
use Rattle.model.specs.Lists.{bytes}
use Rattle.model.specs.Number.{decimal}
use Rattle.scheme.specs.Schemes.{SchemeTable, Sound}
use Rattle.model.specs.Machine.{Machine, fresh_machine, added}
use Rattle.model.specs.Inference.{ruling, Slot, Shape, Judged}
use Rattle.model.specs.Report.{line, report}
use Rattle.model.specs.Session.{Outcome, Infers, adds}
use Rattle.model.specs.Text.{lines_of, load_from, load, Load, loaded, stopped, Prints, refused_add, refused_inference, reported, Returns, short}
use Rattle.model.proofs.Lawful.{sound_lawful}
use Rattle.model.proofs.Keeps.{answers_keep}
use Rattle.model.proofs.Unique.{Lawful, judged_same, judged_accepted, word_same, shapes_same, report_same}
use Rattle.model.proofs.Answers.{infers_same}

-- A text loads as one machine, or stops at one line.
module _ {l : Load} where
  machine_same : {m m' : Machine} → l ≡ loaded m → l ≡ loaded m' → m' ≡ m
  machine_same e e' = cc

  stop_same : {a b a' b' : ℕ} → l ≡ stopped a b → l ≡ stopped a' b' → (a ≡ a') × (b ≡ b')
  stop_same e e' = (cc, cc)

  not_both : {m : Machine} {a b : ℕ} → l ≡ loaded m → l ≡ stopped a b → ⊥
  not_both e e' = let z : ◌≡◌ {A = ℕ} 0 1 = cc in omega arith

reports_same : {m : Machine} → Lawful (ruling m) → {word word' : Slot → ℕ} {shape shape' : Slot → Shape} → Judged (ruling m) m 0 0 word shape → Judged (ruling m) m 0 0 word' shape' → report m word shape ≡ report m word' shape'
reports_same {m} lawful j j' =
    let a = judged_accepted j refl in
    let a' = judged_accepted j' refl in
    report_same m (word_same (ruling m) lawful m a a') (shapes_same (ruling m) lawful m a a')

-- The machine that a text loads as has the scheme table that it was loaded under.
load_keeps : (m : Machine) (n : ℕ) (lines : List (List ℕ)) (after : Machine) → load_from m n lines ≡ loaded after → after.schemes ≡ m.schemes
unfolding load_from
load_keeps m n [] after e = ap (λ (m : Machine). m.schemes) (machine_same refl e)
load_keeps m n (s ∷ rest) after e = by (eqb (added m s).number 0) e (load_keeps (added m s).machine (n + 1) rest after)
  where
    by : (t : Bool) → cond t (load_from (added m s).machine (n + 1) rest) (stopped (added m s).number n) ≡ loaded after
        → (load_from (added m s).machine (n + 1) rest ≡ loaded after → after.schemes ≡ (added m s).machine.schemes) → after.schemes ≡ m.schemes
    by true e later = later e ∙ answers_keep m adds
    by false e later = absurd (not_both e refl)

module _ (T : SchemeTable) (sound : Sound T) where
  pub loaded_sound : (text : List ℕ) {m : Machine} → load T text ≡ loaded m → Sound m.schemes
  loaded_sound text e = subst Sound (sym (load_keeps (fresh_machine T) 1 (lines_of text) _ e)) sound

  lawful : (text : List ℕ) {m : Machine} → load T text ≡ loaded m → Lawful (ruling m)
  lawful text {m} e = sound_lawful m.schemes (loaded_sound text e)

  pub prints_same : {text out out' : List ℕ} → Prints T text out → Prints T text out' → out ≡ out'
  prints_same (refused_add e) (refused_add e') = let same = stop_same e e' in ap₂ (λ (a b : ℕ). line (bytes "X" ∷ decimal a ∷ decimal b ∷ [])) same.0 same.1
  prints_same (refused_add e) (refused_inference e' j n) = absurd (not_both e' e)
  prints_same (refused_add e) (reported e' j) = absurd (not_both e' e)
  prints_same (refused_inference e j n) (refused_add e') = absurd (not_both e e')
  prints_same {text} (refused_inference {m} {number} {k} e j n) (refused_inference {m = m'} {number = number'} {k = k'} {word = word'} {shape = shape'} e' j' n') =
      let same = judged_same (ruling m) (lawful text e) m j (subst (λ (m : Machine). Judged (ruling m) m number' k' word' shape') (machine_same e e') j') in
      ap₂ (λ (a b : ℕ). line (bytes "NO" ∷ decimal a ∷ decimal b ∷ [])) same.0 same.1
  prints_same {text} (refused_inference {m} e j n) (reported {word = word'} {shape = shape'} e' j') =
      absurd (n (judged_same (ruling m) (lawful text e) m j (subst (λ (m : Machine). Judged (ruling m) m 0 0 word' shape') (machine_same e e') j')).0)
  prints_same (reported e j) (refused_add e') = absurd (not_both e e')
  prints_same {text} (reported {m} e j) (refused_inference {number = number'} {k = k'} {word = word'} {shape = shape'} e' j' n') =
      absurd (n' (judged_same (ruling m) (lawful text e) m (subst (λ (m : Machine). Judged (ruling m) m number' k' word' shape') (machine_same e e') j') j).0)
  prints_same {text} (reported {m} e j) (reported {m = m'} {word = word'} {shape = shape'} e' j') =
      reports_same (lawful text e) j (subst (λ (m : Machine). Judged (ruling m) m 0 0 word' shape') (machine_same e e') j') ∙ ap (λ (m : Machine). report m word' shape') (sym (machine_same e e'))

  outcome_same : (text : List ℕ) {buffer : List ℕ} {m m' : Machine} {o o' : Outcome} → load T text ≡ loaded m → load T text ≡ loaded m' → Infers m buffer o → Infers m' buffer o' → o ≡ o'
  outcome_same text {buffer} {o' = o'} e e' i i' = infers_same (loaded_sound text e) i (subst (λ (m : Machine). Infers m buffer o') (machine_same e e') i')

  pub returns_same : {text buffer b b' : List ℕ} {n n' : ℕ} → Returns T text buffer n b → Returns T text buffer n' b' → (n ≡ n') × (b ≡ b')
  returns_same (short h) (short h') = (refl, refl)
  returns_same (short h) (Returns.refused_add h' e) = let z : ⊥ = omega arith in absurd z
  returns_same (short h) (Returns.refused_inference h' e i n) = let z : ⊥ = omega arith in absurd z
  returns_same (short h) (Returns.reported h' e i n) = let z : ⊥ = omega arith in absurd z
  returns_same (Returns.refused_add h e) (short h') = let z : ⊥ = omega arith in absurd z
  returns_same (Returns.refused_add h e) (Returns.refused_add h' e') = let same = stop_same e e' in (ap₂ (λ (a b : ℕ). a * 1000 + b) same.0 same.1, refl)
  returns_same (Returns.refused_add h e) (Returns.refused_inference h' e' i n) = absurd (not_both e' e)
  returns_same (Returns.refused_add h e) (Returns.reported h' e' i n) = absurd (not_both e' e)
  returns_same (Returns.refused_inference h e i n) (short h') = let z : ⊥ = omega arith in absurd z
  returns_same (Returns.refused_inference h e i n) (Returns.refused_add h' e') = absurd (not_both e e')
  returns_same {text} (Returns.refused_inference h e i n) (Returns.refused_inference h' e' i' n') =
      let same = outcome_same text e e' i i' in
      (ap (λ (o : Outcome). o.number * 1000 + o.row) same, ap (λ (o : Outcome). o.buffer) same)
  returns_same {text} (Returns.refused_inference h e i n) (Returns.reported h' e' i' n') = absurd (n (ap (λ (o : Outcome). o.number) (outcome_same text e e' i i') ∙ n'))
  returns_same (Returns.reported h e i n) (short h') = let z : ⊥ = omega arith in absurd z
  returns_same (Returns.reported h e i n) (Returns.refused_add h' e') = absurd (not_both e e')
  returns_same {text} (Returns.reported h e i n) (Returns.refused_inference h' e' i' n') = absurd (n' (ap (λ (o : Outcome). o.number) (outcome_same text e' e i' i) ∙ n))
  returns_same {text} (Returns.reported h e i n) (Returns.reported h' e' i' n') =
      let same = outcome_same text e e' i i' in
      (ap (λ (o : Outcome). 100000 + o.size) same, ap (λ (o : Outcome). o.buffer) same)
