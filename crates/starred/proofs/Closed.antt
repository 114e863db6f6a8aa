-- A computed test whether a program is closed: where it passes, the program is.
use Prim.Native.Nat.{ℕ, zero, suc, ◌-◌, ◌<◌}
use native.Mathlib.Omega.{arith}
use mathlib.Core.Bool.{Bool, true, false, ◌&&◌, ◌||◌, or-true, false≢true}
use mathlib.Core.List.{List, [], ◌∷◌}
use mathlib.Core.Path.{◌≡◌, refl, ap, subst}
use lib.Dec.{eqb, ltb}
use lib.ListN.{length}
use borrow.Author.Tests.{ltb-true, eqb-true, eq-eqb}
use Rattle.scheme.proofs.Order.{or_cases}
use Rattle.scheme.proofs.Every.{and_left, and_right, every, every_at}
use Rattle.model.specs.Lists.{any_of, contains}
use Rattle.model.specs.Machine.{Machine, term_at, children, used, bound}
use Rattle.model.specs.Closed.{Beneath, itself, child, Inside, Closed}
use Rattle.model.specs.declared.Term.{Term}
use Rattle.model.specs.declared.Term.TheVariants.{Lam, App, Op, Var, Num, Enc}

-- The test passes at some number below n.
abbrev some : ℕ → (ℕ → Bool) → Bool
some zero test = false
some (suc n) test = test zero || some n (λ k. test (suc k))

some_at : (n : ℕ) (test : ℕ → Bool) → some n test ≡ true → (k : ℕ) × (k < n) × (test k ≡ true)
some_at zero test h = absurd (false≢true h)
some_at (suc n) test h =
    or_cases (test zero) (some n (λ k. test (suc k))) h
    (λ here. (zero, omega arith, here))
    (λ later. let found = some_at n (λ k. test (suc k)) later in (suc found.0, omega (arith, found.1), found.2))

-- Some number of the list passes the test.
listed_at : (test : ℕ → Bool) (cs : List ℕ) → any_of test cs ≡ true → (c : ℕ) × (contains c cs ≡ true) × (test c ≡ true)
listed_at test [] h = absurd (false≢true h)
listed_at test (c ∷ cs) h =
    or_cases (test c) (any_of test cs) h
    (λ here. (c, cc (eq-eqb c c refl), here))
    (λ later. let found = listed_at test cs later in (found.0, cc (found.1, or-true (eqb found.0 c)), found.2))

module _ (m : Machine) where
  -- The row v is b, or is reached from b by at most `steps` steps to a child.
  abbrev reaches : ℕ → ℕ → ℕ → Bool
  reaches zero b v = eqb b v
  reaches (suc steps) b v = eqb b v || (ltb b (length m.terms) && any_of (λ c. reaches steps c v) (children (term_at m b)))

  -- What stands beneath a child stands beneath its parent.
  beneath_child : {b c v : ℕ} → b < length m.terms → contains c (children (term_at m b)) ≡ true → Beneath m c v → Beneath m b v
  beneath_child h e itself = child itself h e
  beneath_child h e (child up h' e') = child (beneath_child h e up) h' e'

  reached : (steps b v : ℕ) → reaches steps b v ≡ true → Beneath m b v
  reached zero b v h = subst (Beneath m b) (eqb-true b v h) itself
  reached (suc steps) b v h =
      or_cases (eqb b v) _ h
      (λ here. subst (Beneath m b) (eqb-true b v here) itself)
      (λ deeper.
      let below = ltb-true b _ (and_left (ltb b (length m.terms)) _ deeper) in
      let found = listed_at (λ c. reaches steps c v) (children (term_at m b)) (and_right (ltb b (length m.terms)) _ deeper) in
      beneath_child below found.1 (reached steps found.0 v found.2))

  -- The term is the LAM of p, and the row v stands in its body.
  abbrev encloses : ℕ → ℕ → Term → Bool
  encloses p v (Lam q b) = eqb q p && reaches (length m.terms) b v
  encloses p v (App f a) = false
  encloses p v (Op o l r) = false
  encloses p v (Var q) = false
  encloses p v (Num n) = false
  encloses p v (Enc e n) = false

  enclosed : (p v : ℕ) (term : Term) → encloses p v term ≡ true → (b : ℕ) × (term ≡ Lam p b) × Beneath m b v
  enclosed p v (Lam q b) h = (b, ap (λ (n : ℕ). Lam n b) (eqb-true q p (and_left (eqb q p) _ h)), reached (length m.terms) b v (and_right (eqb q p) _ h))
  enclosed p v (App f a) h = absurd (false≢true h)
  enclosed p v (Op o l r) h = absurd (false≢true h)
  enclosed p v (Var q) h = absurd (false≢true h)
  enclosed p v (Num n) h = absurd (false≢true h)
  enclosed p v (Enc e n) h = absurd (false≢true h)

  -- The row v is no VAR, or stands inside the body of the LAM that binds its parameter.
  abbrev scoped : ℕ → Term → Bool
  scoped v (Lam q b) = true
  scoped v (App f a) = true
  scoped v (Op o l r) = true
  scoped v (Var p) = some (length m.terms) (λ i. encloses p v (term_at m i))
  scoped v (Num n) = true
  scoped v (Enc e n) = true

  scoped_inside : (v p : ℕ) (term : Term) → scoped v term ≡ true → term ≡ Var p → Inside m p v
  scoped_inside v p term h e =
      let found = some_at (length m.terms) (λ i. encloses p v (term_at m i)) (subst (λ (t : Term). scoped v t ≡ true) e h) in
      let lam = enclosed p v (term_at m found.0) found.2 in
      (found.0, lam.0, found.1, lam.1, lam.2)

  -- The four parts of the condition.
  abbrev children_used : Bool
  children_used = every (length m.terms - 1) (used m.terms)

  abbrev params_bound : Bool
  params_bound = every (length m.params) (bound m.terms)

  abbrev variables_scoped : Bool
  variables_scoped = every (length m.terms) (λ v. scoped v (term_at m v))

  abbrev pub closed : Bool
  closed = (ltb 0 (length m.terms) && children_used) && (params_bound && variables_scoped)

  pub closed_sound : closed ≡ true → Closed m
  closed_sound h =
      let first = and_left (ltb 0 (length m.terms) && children_used) (params_bound && variables_scoped) h in
      let second = and_right (ltb 0 (length m.terms) && children_used) (params_bound && variables_scoped) h in
      record {
        some_row = ltb-true 0 (length m.terms) (and_left (ltb 0 (length m.terms)) children_used first);
        every_child = λ i below. every_at (length m.terms - 1) (used m.terms) (and_right (ltb 0 (length m.terms)) children_used first) i (omega arith);
        every_bound = every_at (length m.params) (bound m.terms) (and_left params_bound variables_scoped second);
        in_scope = λ v p below e.
            scoped_inside v p (term_at m v) (every_at (length m.terms) (λ v. scoped v (term_at m v)) (and_right params_bound variables_scoped second) v below) e;
      }
