-- No number past the first 65 of a run changes what is answered: no two LAMs bind one parameter, so that a job has at most 64 leading ones.
use Prim.Native.Nat.{ℕ, zero, suc, ◌-◌, ◌≤◌, ◌<◌}
use native.Mathlib.Omega.{arith}
use native.Mathlib.Decide.{dec_le}
use mathlib.Core.Bool.{Bool, true, false, or-true}
use mathlib.Core.List.{List, ◌∷◌}
use mathlib.Core.Path.{◌≡◌, refl}
use lib.Dec.{eqb}
use lib.ListN.{length, take, length-take}
use lib.Seq.{take_all}
use borrow.Author.Tests.{eq-eqb}
use Rattle.scheme.specs.Schemes.{words}
use Rattle.model.specs.Lists.{contains}
use Rattle.model.specs.Machine.{Machine, term_at, binds}
use Rattle.model.specs.WellFormed.{WellFormed, TermStands}
use Rattle.model.specs.declared.Term.{Term}
use Rattle.model.specs.declared.Term.TheVariants.{Lam, App, Op, Var, Num, Enc}
use Rattle.checks.proofs.Tests.{or_cases}
use Rattle.graph.specs.Types.{tally}
use Rattle.graph.proofs.Tally.{tally_most, tally_less}
use Rattle.dryrun.specs.Expression.{leading_of, leading_from}
use Rattle.dryrun.specs.Run.{Outcome, leading, DryRuns, not_accepted, wrong_count, arrow, ran}

module _ (m : Machine) (w : WellFormed m) where
  abbrev rows : ℕ
  rows = length m.terms

  abbrev Stands : ℕ → Term → Type 0
  Stands i t = TermStands (words m.schemes) (length m.params) i t

  -- A row up to row i binds the parameter.
  record Bound (i p : ℕ) : Type 0 where
    at : ℕ
    low : at ≤ i
    binder : contains p (binds (term_at m at)) ≡ true

  -- A LAM binds its own parameter.
  own : (i p b : ℕ) → term_at m i ≡ Lam p b → contains p (binds (term_at m i)) ≡ true
  own i p b e = rw e (simp (eq-eqb p p refl))

  leading_bound : (d i p : ℕ) → i < rows → contains p (leading_from m d i) ≡ true → Bound i p
  unfolding leading_from
  leading_bound zero i p h e = let z : ◌≡◌ {A = ℕ} 0 1 = cc in absurd (omega arith)
  leading_bound (suc d) i p h e = by (term_at m i) refl (w.terms_stand i h) (λ b lower. leading_bound d b p (omega arith)) e
    where
      by : (t : Term) → term_at m i ≡ t → Stands i t → ((b : ℕ) → b < i → contains p (leading_from m d b) ≡ true → Bound b p) →
          contains p (leading_of (leading_from m d) t) ≡ true → Bound i p
      by (Lam q b) is (below, lower) beneath e =
          or_cases (eqb p q) (contains p (leading_from m d b)) e
          (λ same. record { at = i; low = omega arith; binder = rw is (simp same) })
          (λ later. let found : Bound b p = beneath b lower later in record { at = found.at; low = omega (arith, found.low); binder = found.binder })
      by (App f a) is stands beneath e = let z : ◌≡◌ {A = ℕ} 0 1 = cc in absurd (omega arith)
      by (Op o l r) is stands beneath e = let z : ◌≡◌ {A = ℕ} 0 1 = cc in absurd (omega arith)
      by (Var q) is stands beneath e = let z : ◌≡◌ {A = ℕ} 0 1 = cc in absurd (omega arith)
      by (Num n) is stands beneath e = let z : ◌≡◌ {A = ℕ} 0 1 = cc in absurd (omega arith)
      by (Enc s n) is stands beneath e = let z : ◌≡◌ {A = ℕ} 0 1 = cc in absurd (omega arith)

  -- So a LAM's own parameter is not among those beneath it.
  not_beneath : (d i p b : ℕ) → i < rows → b < i → term_at m i ≡ Lam p b → contains p (leading_from m d b) ≡ false
  not_beneath d i p b h lower is = by (contains p (leading_from m d b)) refl
    where
      by : (t : Bool) → contains p (leading_from m d b) ≡ t → t ≡ false
      by true e =
          let found : Bound b p = leading_bound d b p (omega arith) e in
          let same : i ≡ found.at = w.one_binder i found.at p h (omega (arith, found.low)) (own i p b is) found.binder in
          absurd (omega (arith, found.low))
      by false e = refl

  -- And each one counts.
  leading_counted : (d i : ℕ) → i < rows → length (leading_from m d i) ≤ tally (λ p. contains p (leading_from m d i)) (length m.params)
  unfolding leading_from
  leading_counted zero i h = omega arith
  leading_counted (suc d) i h = by (term_at m i) refl (w.terms_stand i h) (λ b lower. leading_counted d b (omega arith))
    where
      by : (t : Term) → term_at m i ≡ t → Stands i t → ((b : ℕ) → b < i → length (leading_from m d b) ≤ tally (λ p. contains p (leading_from m d b)) (length m.params)) →
          length (leading_of (leading_from m d) t) ≤ tally (λ p. contains p (leading_of (leading_from m d) t)) (length m.params)
      by (Lam q b) is (below, lower) beneath =
          let more : tally (λ p. contains p (leading_from m d b)) (length m.params) < tally (λ p. contains p (q ∷ leading_from m d b)) (length m.params) =
          tally_less (λ p. contains p (leading_from m d b)) (λ p. contains p (q ∷ leading_from m d b)) (length m.params) q below
          (not_beneath d i q b h lower is) (simp (eq-eqb q q refl)) (λ x k e. rw e (or-true (eqb x q))) in
          omega (arith, more, beneath b lower)
      by (App f a) is stands beneath = omega arith
      by (Op o l r) is stands beneath = omega arith
      by (Var q) is stands beneath = omega arith
      by (Num n) is stands beneath = omega arith
      by (Enc s n) is stands beneath = omega arith

  none_leads : rows ≡ 0 → length (leading m) ≡ 0
  unfolding leading_from
  none_leads e = rw e refl

  leading_few : length (leading m) ≤ 64
  leading_few = by (dec_le 1 rows)
    where
      by : Dec (1 ≤ rows) → length (leading m) ≤ 64
      by (yes some) = omega (arith, leading_counted rows (rows - 1) (omega arith), tally_most (λ p. contains p (leading m)) (length m.params), w.params_fit)
      by (no none) = omega (arith, none_leads (omega arith))

  -- More than 64 numbers are too many, whichever they are.
  too_many : (a b : List ℕ) {budget : ℕ} {o : Outcome} → 64 < length a → 64 < length b → DryRuns m a budget o → DryRuns m b budget o
  too_many a b h k (not_accepted j n) = not_accepted j n
  too_many a b h k (wrong_count j n) = wrong_count j (λ e. omega (arith, leading_few))
  too_many a b h k (arrow j p led shaped) = arrow j p led shaped
  too_many a b h k (ran j e none runs) = absurd (omega (arith, leading_few))

  pub numbers_front : (numbers : List ℕ) {budget : ℕ} {o : Outcome} → DryRuns m (take 65 numbers) budget o → DryRuns m numbers budget o
  numbers_front numbers {budget} {o} runs = by (dec_le (length numbers) 65)
    where
      by : Dec (length numbers ≤ 65) → DryRuns m numbers budget o
      by (yes all) = rw (take_all 65 numbers all) at runs
      by (no more) = too_many (take 65 numbers) numbers (simp length-take (omega arith)) (omega arith) runs
