-- A closed program's job has no free parameter: the LAM that binds a VAR's parameter stands above it, and the last row stands beneath no LAM.
use Prim.Native.Nat.{ℕ, zero, suc, ◌≤◌, ◌<◌}
use native.Mathlib.Omega.{arith}
use mathlib.Core.Bool.{Bool, true, false, cond, ◌||◌, or-true, false≢true}
use mathlib.Core.List.{List, [], ◌∷◌}
use mathlib.Core.Path.{◌≡◌, refl, sym, ap, subst, ◌∙◌}
use lib.Dec.{eqb}
use lib.ListN.{length}
use borrow.Author.Tests.{eqb-true, eq-eqb, ne_eqb}
use Rattle.scheme.specs.Schemes.{words}
use Rattle.model.specs.Lists.{contains}
use Rattle.model.specs.Machine.{Machine, term_at, children, binds}
use Rattle.model.specs.Closed.{Closed, Beneath, itself, child}
use Rattle.model.specs.WellFormed.{WellFormed, TermStands}
use Rattle.model.specs.Inference.{Slot, param, row}
use Rattle.model.specs.declared.Term.{Term}
use Rattle.model.specs.declared.Term.TheVariants.{Lam, App, Op, Var, Num, Enc}
use Rattle.dryrun.specs.Expression.{Expression, number, apply, row_expression, unfolded, applied}
use Rattle.dryrun.specs.Run.{last_row, leading, job}
use Rattle.dryrun.proofs.Typed.{by_cases}
use Rattle.dryrun.proofs.Free.{both_false}
use Rattle.dryrun.specs.Free.{free, NoneFree}

or_cases : {P : Type 0} (a b : Bool) → (a || b) ≡ true → (a ≡ true → P) → (b ≡ true → P) → P
or_cases true b h f g = f refl
or_cases false b h f g = g h

module _ (m : Machine) (w : WellFormed m) where
  -- A child is below its parent.
  pub below_parent : (i c : ℕ) (t : Term) → TermStands (words m.schemes) (length m.params) i t → contains c (children t) ≡ true → c < i
  below_parent i c (Lam p b) (hp, hb) h = or_cases (eqb c b) false h (λ e. omega (arith, eqb-true c b e)) (λ e. absurd (false≢true e))
  below_parent i c (App f a) (hf, ha) h =
      or_cases (eqb c f) (eqb c a || false) h (λ e. omega (arith, eqb-true c f e)) (λ e. or_cases (eqb c a) false e (λ e. omega (arith, eqb-true c a e)) (λ e. absurd (false≢true e)))
  below_parent i c (Op o l r) (ho, hl, hr) h =
      or_cases (eqb c l) (eqb c r || false) h (λ e. omega (arith, eqb-true c l e)) (λ e. or_cases (eqb c r) false e (λ e. omega (arith, eqb-true c r e)) (λ e. absurd (false≢true e)))
  below_parent i c (Var p) stands h = absurd (false≢true h)
  below_parent i c (Num n) stands h = absurd (false≢true h)
  below_parent i c (Enc s n) stands h = absurd (false≢true h)

  beneath_below : {b v : ℕ} → Beneath m b v → v ≤ b
  beneath_below itself = omega arith
  beneath_below (child {parent} {v} above h e) = omega (arith, beneath_below above, below_parent parent v (term_at m parent) (w.terms_stand parent h) e)

  -- Some VAR of p, such that each LAM of p that it stands beneath has row i beneath it too.
  pub record Loose (p i : ℕ) : Type 0 where
    pub at : ℕ
    pub in_list : at < length m.terms
    pub var : term_at m at ≡ Var p
    pub outer : (j b : ℕ) → j < length m.terms → term_at m j ≡ Lam p b → Beneath m b at → Beneath m b i

  -- What is loose in a child is loose in the parent, if the parent does not bind it.
  loose_up : (p i c : ℕ) → i < length m.terms → contains c (children (term_at m i)) ≡ true → contains p (binds (term_at m i)) ≡ false → Loose p c → Loose p i
  loose_up p i c h e unbound loose =
      record { at = loose.at; in_list = loose.in_list; var = loose.var; outer = λ j b k lam beneath. go j b k lam (loose.outer j b k lam beneath) refl }
    where
      go : (j b : ℕ) → j < length m.terms → term_at m j ≡ Lam p b → {v : ℕ} → Beneath m b v → v ≡ c → Beneath m b i
      go j b k lam itself same =
          let shared : contains c (children (term_at m j)) ≡ true = cc (ap children lam, eq-eqb c b (sym same)) in
          let one = w.one_parent j i c k h shared e in
          let own : contains p (binds (term_at m i)) ≡ true = cc (one, ap binds lam, eq-eqb p p refl) in
          absurd (false≢true (sym unbound ∙ own))
      go j b k lam (child {parent} {v} up l f) same =
          let shared : contains c (children (term_at m parent)) ≡ true = subst (λ (n : ℕ). contains n (children (term_at m parent)) ≡ true) same f in
          subst (Beneath m b) (w.one_parent parent i c l h shared e) up

  module _ (word : Slot → ℕ) where
    -- A parameter that stands free in a row's expression is loose there.
    row_loose : (p i : ℕ) (below : ℕ → Expression) → i < length m.terms → ((j : ℕ) → j < i → free p (below j) ≡ true → Loose p j) → (t : Term) → term_at m i ≡ t →
        TermStands (words m.schemes) (length m.params) i t → free p (row_expression below (word (row i)) t) ≡ true → Loose p i
    row_loose p i below h ih (Lam x b) is (hx, hb) e =
        by_cases (λ t. eqb x p ≡ t → cond t false (free p (below b)) ≡ true → Loose p i) (eqb x p)
        (λ own d e. absurd (false≢true e))
        (λ other d e. loose_up p i b h (cc (ap children is, eq-eqb b b refl))
        (ap (λ (t : Term). contains p (binds t)) is ∙ cc (ne_eqb p x (λ same. false≢true (sym other ∙ eq-eqb x p (sym same))))) (ih b hb e))
        refl e
    row_loose p i below h ih (App f a) is (hf, ha) e =
        or_cases (free p (below f)) (free p (below a)) e
        (λ e. loose_up p i f h (cc (ap children is, eq-eqb f f refl)) (ap (λ (t : Term). contains p (binds t)) is) (ih f hf e))
        (λ e. loose_up p i a h (ap (λ (t : Term). contains a (children t)) is ∙ (rw (eq-eqb a a refl) (or-true (eqb a f)))) (ap (λ (t : Term). contains p (binds t)) is) (ih a ha e))
    row_loose p i below h ih (Op o l r) is (ho, hl, hr) e =
        or_cases (free p (below l)) (free p (below r)) e
        (λ e. loose_up p i l h (cc (ap children is, eq-eqb l l refl)) (ap (λ (t : Term). contains p (binds t)) is) (ih l hl e))
        (λ e. loose_up p i r h (ap (λ (t : Term). contains r (children t)) is ∙ (rw (eq-eqb r r refl) (or-true (eqb r l)))) (ap (λ (t : Term). contains p (binds t)) is) (ih r hr e))
    row_loose p i below h ih (Var x) is stands e =
        record { at = i; in_list = h; var = is ∙ ap (λ (n : ℕ). Var n) (eqb-true x p e); outer = λ j b k lam beneath. beneath }
    row_loose p i below h ih (Num n) is stands e = absurd (false≢true e)
    row_loose p i below h ih (Enc s n) is stands e = absurd (false≢true e)

    unfolded_loose : (p depth i : ℕ) → i < depth → i < length m.terms → free p (unfolded m word depth i) ≡ true → Loose p i
    unfolding unfolded
    unfolded_loose p zero i h in_list e = let z : ⊥ = omega arith in absurd z
    unfolded_loose p (suc depth) i h in_list e =
        row_loose p i (unfolded m word depth) in_list (λ j below. unfolded_loose p depth j (omega arith) (omega arith)) (term_at m i) refl (w.terms_stand i in_list) e

    module _ (closed : Closed m) where
      last_none_free : NoneFree (unfolded m word (length m.terms) (last_row m))
      last_none_free p = by_cases (λ b. free p (unfolded m word (length m.terms) (last_row m)) ≡ b → b ≡ false) (free p (unfolded m word (length m.terms) (last_row m)))
          (λ e d. absurd (none (unfolded_loose p (length m.terms) (last_row m) (omega (arith, closed.some_row)) (omega (arith, closed.some_row)) e))) (λ e d. refl) refl
        where
          none : Loose p (last_row m) → ⊥
          none loose =
              let (j, b, k, lam, beneath) = closed.in_scope loose.at p loose.in_list loose.var in
              let low = below_parent j b (term_at m j) (w.terms_stand j k) (cc (ap children lam, eq-eqb b b refl)) in
              omega (arith, beneath_below (loose.outer j b k lam beneath), low)

      applied_none_free : (e : Expression) (ps numbers : List ℕ) → NoneFree e → NoneFree (applied word e ps numbers)
      unfolding applied
      applied_none_free e [] numbers none = none
      applied_none_free e (p ∷ ps) [] none = none
      applied_none_free e (p ∷ ps) (n ∷ numbers) none = applied_none_free (apply e (number n (word (param p)))) ps numbers (λ q. both_false (free q e) false (none q) refl)

      pub job_none_free : (numbers : List ℕ) → NoneFree (job m word numbers)
      job_none_free numbers = applied_none_free (unfolded m word (length m.terms) (last_row m)) (leading m) numbers last_none_free
