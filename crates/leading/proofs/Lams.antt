-- The leading LAMs are read off row by row, and no depth past the rows' count adds one.
use Prim.Native.Nat.{ℕ, zero, suc, ◌-◌, ◌≤◌, ◌<◌}
use native.Mathlib.Omega.{arith}
use mathlib.Core.List.{List, [], ◌∷◌}
use mathlib.Core.Path.{◌≡◌, refl, ap}
use lib.ListN.{length}
use Rattle.scheme.specs.Schemes.{words}
use Rattle.model.specs.Machine.{Machine, term_at}
use Rattle.model.specs.WellFormed.{WellFormed, TermStands}
use Rattle.model.specs.declared.Term.{Term}
use Rattle.model.specs.declared.Term.TheVariants.{Lam, App, Op, Var, Num, Enc}
use Rattle.dryrun.specs.Expression.{leading_of, leading_from}
use Rattle.dryrun.specs.Run.{leading}

-- The leading LAMs from a row on.
abbrev pub leading_at : Machine → ℕ → List ℕ
leading_at m i = leading_from m (length m.terms) i

module _ (m : Machine) (w : WellFormed m) where
  -- Depth enough is depth enough.
  leads_same : (a b : ℕ → List ℕ) (i : ℕ) → ((j : ℕ) → j < i → a j ≡ b j) → (t : Term) → TermStands (words m.schemes) (length m.params) i t → leading_of a t ≡ leading_of b t
  leads_same a b i h (Lam p x) (hp, hx) = ap (λ (l : List ℕ). p ∷ l) (h x hx)
  leads_same a b i h (App f x) stands = refl
  leads_same a b i h (Op o l r) stands = refl
  leads_same a b i h (Var p) stands = refl
  leads_same a b i h (Num n) stands = refl
  leads_same a b i h (Enc s n) stands = refl

  depth_same : (d d' i : ℕ) → i < d → i < d' → i < length m.terms → leading_from m d i ≡ leading_from m d' i
  unfolding leading_from
  depth_same zero d' i h h' k = let z : ⊥ = omega arith in absurd z
  depth_same (suc d) zero i h h' k = let z : ⊥ = omega arith in absurd z
  depth_same (suc d) (suc d') i h h' k =
      leads_same (leading_from m d) (leading_from m d') i (λ j below. depth_same d d' j (omega arith) (omega arith) (omega arith)) (term_at m i) (w.terms_stand i k)

  -- The leading LAMs from a row on are its own and those from its body on.
  pub row_leads : (i : ℕ) → i < length m.terms → leading_at m i ≡ leading_of (leading_at m) (term_at m i)
  unfolding leading_from
  row_leads i h = depth_same (length m.terms) (suc (length m.terms)) i h (omega arith) h

-- There are no more leading LAMs than the depth.
from_most : (m : Machine) (d i : ℕ) → length (leading_from m d i) ≤ d
unfolding leading_from
from_most m zero i = omega arith
from_most m (suc d) i = by (term_at m i) (λ b. from_most m d b)
  where
    by : (t : Term) → ((b : ℕ) → length (leading_from m d b) ≤ d) → length (leading_of (leading_from m d) t) ≤ suc d
    by (Lam p b) below = omega (arith, below b)
    by (App f a) below = omega arith
    by (Op o l r) below = omega arith
    by (Var p) below = omega arith
    by (Num n) below = omega arith
    by (Enc s n) below = omega arith

-- No more than the rows of a machine.
pub leading_most : (m : Machine) → WellFormed m → length (leading m) ≤ 256
leading_most m w = omega (arith, w.terms_fit, from_most m (length m.terms) (length m.terms - 1))

-- A row that is no LAM has no leading LAM.
pub leads_none : (t : Term) → ((p b : ℕ) → ¬ (t ≡ Lam p b)) → (below : ℕ → List ℕ) → leading_of below t ≡ []
leads_none (Lam p b) other below = absurd (other p b refl)
leads_none (App f a) other below = refl
leads_none (Op o l r) other below = refl
leads_none (Var p) other below = refl
leads_none (Num n) other below = refl
leads_none (Enc s n) other below = refl
