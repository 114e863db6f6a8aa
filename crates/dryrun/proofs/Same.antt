-- The dry run's outcome is determined by the machine, the numbers and the budget.
use Prim.Native.Nat.{ℕ, zero, suc, ◌<◌}
use native.Mathlib.Omega.{arith}
use mathlib.Core.Bool.{true, ◌||◌, false≢true}
use mathlib.Core.List.{List, [], ◌∷◌}
use mathlib.Core.Path.{◌≡◌, refl, sym, ap, ap₂, subst, ◌∙◌}
use lib.Dec.{eqb}
use lib.ListN.{length}
use borrow.Author.Tests.{eqb-true, eq-eqb}
use Rattle.scheme.specs.Schemes.{words}
use Rattle.model.specs.Lists.{contains}
use Rattle.model.specs.Machine.{Machine, term_at}
use Rattle.model.specs.Closed.{Closed}
use Rattle.model.specs.WellFormed.{WellFormed, TermStands}
use Rattle.model.specs.Strength.{Schemes}
use Rattle.model.specs.Inference.{ruling, Slot, param, row, Shape, Judged}
use Rattle.model.specs.declared.Term.{Term}
use Rattle.model.specs.declared.Term.TheVariants.{Lam, App, Op, Var, Num, Enc}
use Rattle.model.proofs.Lawful.{sound_lawful}
use Rattle.model.proofs.Unique.{Lawful, word_same, shapes_same, judged_same, judged_accepted}
use Rattle.dryrun.specs.Expression.{Expression, number, function, apply, operate, row_expression, unfolded, leading_of, leading_from, applied}
use Rattle.dryrun.specs.Transition.{Tagged}
use Rattle.dryrun.specs.Run.{Outcome, Runs, nothing_made, last_row, leading, job, allowed, DryRuns, not_accepted, wrong_count, arrow, ran}
use Rattle.dryrun.proofs.Determined.{runs_same}
use Rattle.dryrun.proofs.Typed.{by_cases}

module _ (m : Machine) (w : WellFormed m) where
  -- A leading parameter is declared.
  leads_declared : (p i : ℕ) (below : ℕ → List ℕ) → ((j : ℕ) → j < i → contains p (below j) ≡ true → p < length m.params) → (t : Term) → TermStands (words m.schemes) (length m.params) i t →
      contains p (leading_of below t) ≡ true → p < length m.params
  leads_declared p i below ih (Lam x b) (hx, hb) h =
      by_cases (λ t. eqb p x ≡ t → (t || contains p (below b)) ≡ true → p < length m.params) (eqb p x)
      (λ e d h. omega (arith, eqb-true p x e)) (λ e d h. ih b hb h) refl h
  leads_declared p i below ih (App f a) stands h = absurd (false≢true h)
  leads_declared p i below ih (Op o l r) stands h = absurd (false≢true h)
  leads_declared p i below ih (Var x) stands h = absurd (false≢true h)
  leads_declared p i below ih (Num n) stands h = absurd (false≢true h)
  leads_declared p i below ih (Enc s n) stands h = absurd (false≢true h)

  leading_declared : (p depth i : ℕ) → i < length m.terms → contains p (leading_from m depth i) ≡ true → p < length m.params
  unfolding leading_from
  leading_declared p zero i h e = absurd (false≢true e)
  leading_declared p (suc depth) i h e = leads_declared p i (leading_from m depth) (λ j b e. leading_declared p depth j (omega arith) e) (term_at m i) (w.terms_stand i h) e

  module _ (word word' : Slot → ℕ) (rows : (i : ℕ) → i < length m.terms → word (row i) ≡ word' (row i)) (params : (p : ℕ) → p < length m.params → word (param p) ≡ word' (param p)) where
    row_words : (a b : ℕ → Expression) (i : ℕ) → i < length m.terms → ((j : ℕ) → j < i → a j ≡ b j) → (t : Term) → TermStands (words m.schemes) (length m.params) i t →
        row_expression a (word (row i)) t ≡ row_expression b (word' (row i)) t
    row_words a b i k h (Lam p x) (hp, hx) = ap (function p) (h x hx)
    row_words a b i k h (App f x) (hf, hx) = ap₂ apply (h f hf) (h x hx)
    row_words a b i k h (Op o l r) (ho, hl, hr) = ap₂ (operate o) (h l hl) (h r hr)
    row_words a b i k h (Var p) stands = refl
    row_words a b i k h (Num n) stands = ap (number n) (rows i k)
    row_words a b i k h (Enc s n) stands = ap (number n) (rows i k)

    unfolded_words : (depth i : ℕ) → i < length m.terms → unfolded m word depth i ≡ unfolded m word' depth i
    unfolding unfolded
    unfolded_words zero i h = refl
    unfolded_words (suc depth) i h = row_words (unfolded m word depth) (unfolded m word' depth) i h (λ j b. unfolded_words depth j (omega arith)) (term_at m i) (w.terms_stand i h)

    applied_words : (e : Expression) (ps numbers : List ℕ) → ((p : ℕ) → contains p ps ≡ true → p < length m.params) → applied word e ps numbers ≡ applied word' e ps numbers
    unfolding applied
    applied_words e [] numbers h = refl
    applied_words e (p ∷ ps) [] h = refl
    applied_words e (p ∷ ps) (n ∷ numbers) h =
        ap (λ (t : ℕ). applied word (apply e (number n t)) ps numbers) (params p (h p (rw (eq-eqb p p refl))))
        ∙ applied_words (apply e (number n (word' (param p)))) ps numbers (λ x e. h x (by_cases (λ b. (b || contains x ps) ≡ true) (eqb x p) (λ d. refl) (λ d. e)))

    job_words : 0 < length m.terms → (numbers : List ℕ) → job m word numbers ≡ job m word' numbers
    job_words some numbers =
        applied_words (unfolded m word (length m.terms) (last_row m)) (leading m) numbers (λ p e. leading_declared p (length m.terms) (last_row m) (omega arith) e)
        ∙ ap (λ (e : Expression). applied word' e (leading m) numbers) (unfolded_words (length m.terms) (last_row m) (omega arith))

-- What infer accepts is closed.
pub judged_closed : {S : Schemes} {m : Machine} {n k : ℕ} {word : Slot → ℕ} {shape : Slot → Shape} → Judged S m n k word shape → n ≡ 0 → Closed m
judged_closed (Judged.not_closed no-closed) e = let z : ⊥ = omega arith in absurd z
judged_closed (Judged.not_typable closed r) e = closed
judged_closed (Judged.below_floor closed a missed) e = closed
judged_closed (Judged.typed closed a met) e = closed

module _ (m : Machine) (w : WellFormed m) where
  abbrev lawful : Lawful (ruling m)
  lawful = sound_lawful m.schemes w.schemes_sound

  -- Two answers of infer have one shape for a leading parameter.
  leading_shape : {word word' : Slot → ℕ} {shape shape' : Slot → Shape} → Judged (ruling m) m 0 0 word shape → Judged (ruling m) m 0 0 word' shape' →
      (p : ℕ) → contains p (leading m) ≡ true → shape (param p) ≡ shape' (param p)
  leading_shape j j' p l =
      shapes_same (ruling m) lawful m (judged_accepted j refl) (judged_accepted j' refl) (param p)
      (leading_declared m w p (length m.terms) (last_row m) (omega (arith, (judged_closed j refl).some_row)) l)

  -- They have one expression to start from.
  job_same : {word word' : Slot → ℕ} {shape shape' : Slot → Shape} → Judged (ruling m) m 0 0 word shape → Judged (ruling m) m 0 0 word' shape' →
      (numbers : List ℕ) → job m word numbers ≡ job m word' numbers
  job_same {word} {word'} j j' numbers =
      let same = word_same (ruling m) lawful m (judged_accepted j refl) (judged_accepted j' refl) in
      job_words m w word word' (λ i h. same (row i) h) (λ p h. same (param p) h) (judged_closed j refl).some_row numbers

  pub dry_runs_same : (numbers : List ℕ) (budget : ℕ) {o o' : Outcome} → DryRuns m numbers budget o → DryRuns m numbers budget o' → o ≡ o'
  dry_runs_same numbers budget (not_accepted j h) (not_accepted j' h') = refl
  dry_runs_same numbers budget (not_accepted j h) (wrong_count j' h') = refl
  dry_runs_same numbers budget (not_accepted j h) (arrow j' p l h') = refl
  dry_runs_same numbers budget (not_accepted j h) (ran j' count shapes r) = absurd (h (judged_same (ruling m) lawful m j j').0)
  dry_runs_same numbers budget (wrong_count j h) (not_accepted j' h') = refl
  dry_runs_same numbers budget (wrong_count j h) (wrong_count j' h') = refl
  dry_runs_same numbers budget (wrong_count j h) (arrow j' p l h') = refl
  dry_runs_same numbers budget (wrong_count j h) (ran j' count shapes r) = absurd (h count)
  dry_runs_same numbers budget (arrow j p l h) (not_accepted j' h') = refl
  dry_runs_same numbers budget (arrow j p l h) (wrong_count j' h') = refl
  dry_runs_same numbers budget (arrow j p l h) (arrow j' p' l' h') = refl
  dry_runs_same numbers budget (arrow j p l h) (ran j' count shapes r) = absurd (shapes p l (sym (leading_shape j j' p l) ∙ h))
  dry_runs_same numbers budget (ran j count shapes r) (not_accepted j' h') = absurd (h' (judged_same (ruling m) lawful m j' j).0)
  dry_runs_same numbers budget (ran j count shapes r) (wrong_count j' h') = absurd (h' count)
  dry_runs_same numbers budget (ran j count shapes r) (arrow j' p l h) = absurd (shapes p l (leading_shape j j' p l ∙ h))
  dry_runs_same numbers budget (ran {o = o} j count shapes r) (ran {o = o'} j' count' shapes' r') =
      runs_same r (subst (λ (e : Expression). Runs (Tagged (ruling m)) (allowed budget) e nothing_made o') (sym (job_same j j' numbers)) r')
