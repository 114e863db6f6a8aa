-- The parameters in scope at a row: those of the LAMs whose body it stands in. A child has its parent's, and a LAM's body one more.
use Prim.Native.Nat.{ℕ, ◌+◌, ◌≤◌, ◌<◌}
use native.Mathlib.Omega.{arith}
use mathlib.Core.Bool.{Bool, true, false, ◌||◌, or-true, false≢true}
use mathlib.Core.List.{[], ◌∷◌}
use mathlib.Core.Path.{◌≡◌, refl, ap, sym, subst, ◌∙◌}
use lib.Dec.{eqb}
use lib.ListN.{length}
use borrow.Author.Tests.{eqb-true, eq-eqb}
use Rattle.model.specs.Lists.{contains}
use Rattle.model.specs.Machine.{Machine, term_at, children, binds}
use Rattle.model.specs.Closed.{Beneath, itself, child, Inside}
use Rattle.model.specs.WellFormed.{TermStands, WellFormed}
use Rattle.model.specs.declared.Term.{Term}
use Rattle.model.specs.declared.Term.TheVariants.{Lam, App, Op, Var, Num, Enc}
use Rattle.checks.proofs.Tests.{or_cases}
use Rattle.closed.specs.Members.{member}
use Rattle.closed.proofs.Bits.{none_member}

-- The number is one of one or of two.
is_one : (c a : ℕ) → contains c (a ∷ []) ≡ true → c ≡ a
is_one c a h = or_cases (eqb c a) false h (eqb-true c a) (λ e. cc)

one_of_two : (P : ℕ → Type 0) (c a b : ℕ) → contains c (a ∷ b ∷ []) ≡ true → P a → P b → P c
one_of_two P c a b h x y =
    or_cases (eqb c a) (contains c (b ∷ [])) h
    (λ e. subst P (sym (eqb-true c a e)) x)
    (λ e. subst P (sym (is_one c b e)) y)

-- A child is below its parent.
child_below : (term : Term) (w params i c : ℕ) → TermStands w params i term → contains c (children term) ≡ true → c < i
child_below (Lam p b) w params i c stands h = subst (λ (k : ℕ). k < i) (sym (is_one c b h)) stands.1
child_below (App f a) w params i c stands h = one_of_two (λ k. k < i) c f a h stands.0 stands.1
child_below (Op o l r) w params i c stands h = one_of_two (λ k. k < i) c l r h stands.1 stands.2
child_below (Var p) w params i c stands h = absurd (false≢true h)
child_below (Num n) w params i c stands h = absurd (false≢true h)
child_below (Enc s n) w params i c stands h = absurd (false≢true h)

-- Only a LAM binds a parameter.
binder : (term : Term) (q : ℕ) → contains q (binds term) ≡ true → (b : ℕ) × (term ≡ Lam q b)
binder (Lam p b) q h = (b, ap (λ (n : ℕ). Lam n b) (sym (is_one q p h)))
binder (App f a) q h = absurd (false≢true h)
binder (Op o l r) q h = absurd (false≢true h)
binder (Var p) q h = absurd (false≢true h)
binder (Num n) q h = absurd (false≢true h)
binder (Enc s n) q h = absurd (false≢true h)

bound_by : (term : Term) (q b : ℕ) → term ≡ Lam q b → contains q (binds term) ≡ true
bound_by term q b lam = cc (eq-eqb q q refl)

-- A set is that of the parameters in scope at a row.
pub record Scope (m : Machine) (k set : ℕ) : Type 0 where
  pub inside : (p : ℕ) → p < 64 → member set p ≡ true → Inside m p k
  pub held : (p : ℕ) → p < 64 → Inside m p k → member set p ≡ true

module _ (m : Machine) (w : WellFormed m) where
  pub parent_above : (r c : ℕ) → r < length m.terms → contains c (children (term_at m r)) ≡ true → c < r
  parent_above r c h e = child_below (term_at m r) _ _ r c (w.terms_stand r h) e

  -- What stands beneath a row has no greater number.
  beneath_below : {b v : ℕ} → Beneath m b v → v ≤ b
  beneath_below itself = omega arith
  beneath_below (child {parent} {v} above h e) = omega (arith, beneath_below above, parent_above parent v h e)

  module _ (r c : ℕ) (h : r < length m.terms) (e : contains c (children (term_at m r)) ≡ true) where
    -- What is above a child is the child or above its parent.
    above_parent : {P : Type 0} (b : ℕ) → Beneath m b c → (b ≡ c → P) → (Beneath m b r → P) → P
    above_parent {P} b below f g = go below refl
      where
        go : {v : ℕ} → Beneath m b v → v ≡ c → P
        go itself same = f same
        go (child {parent} {v} up k l) same =
            let shared : contains c (children (term_at m parent)) ≡ true = subst (λ (n : ℕ). contains n (children (term_at m parent)) ≡ true) same l in
            g (subst (Beneath m b) (w.one_parent parent r c k h shared e) up)

    -- A LAM whose body the child is, is the parent.
    own_lam : (j p b : ℕ) → j < length m.terms → term_at m j ≡ Lam p b → b ≡ c → term_at m r ≡ Lam p b
    own_lam j p b k l same =
        let shared : contains c (children (term_at m j)) ≡ true = cc (ap children l, eq-eqb c b (sym same)) in
        ap (term_at m) (sym (w.one_parent j r c k h shared e)) ∙ l

    -- The child's set is the parent's, with the parameter that the parent binds.
    pub scope_step : (set more : ℕ) → ((q : ℕ) → q < 64 → member more q ≡ (contains q (binds (term_at m r)) || member set q)) → Scope m r set → Scope m c more
    scope_step set more grown s =
        record {
          inside = λ q below held.
              or_cases (contains q (binds (term_at m r))) (member set q) (sym (grown q below) ∙ held)
              (λ own. let (b, lam) = binder (term_at m r) q own in (r, b, h, lam, subst (Beneath m b) (sym (is_one c b (ap (λ (t : Term). contains c (children t)) (sym lam) ∙ e))) itself))
              (λ old. let (j, b, k, l, beneath) = s.inside q below old in (j, b, k, l, child beneath h e));
          held = λ q below (j, b, k, l, beneath).
              grown q below
              ∙ above_parent b beneath
              (λ same. ap (λ (t : Bool). t || member set q) (bound_by (term_at m r) q b (own_lam j q b k l same)))
              (λ up. ap (λ (t : Bool). contains q (binds (term_at m r)) || t) (s.held q below (j, b, k, l, up)) ∙ or-true (contains q (binds (term_at m r))));
        }

  -- No parameter is in scope at the last row.
  pub scope_last : (k : ℕ) → k + 1 ≡ length m.terms → Scope m k 0
  scope_last k last =
      record {
        inside = λ p below held. absurd (false≢true (sym (none_member p) ∙ held));
        held = λ p below (j, b, l, lam, beneath).
            let body : contains b (children (term_at m j)) ≡ true = cc (ap children lam, eq-eqb b b refl) in
            let z : ⊥ = omega (arith, beneath_below beneath, parent_above j b l body) in
            absurd z;
      }
