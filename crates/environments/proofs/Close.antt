-- Environments: an expression with values put in for all its free parameters at once. Binding one more is one substitution.
use Prim.Native.Nat.{ℕ}
use mathlib.Core.Bool.{false, cond}
use mathlib.Core.Path.{◌≡◌, refl, sym, ap, ap₂, fun_ext, ◌∙◌}
use lib.Dec.{eqb}
use borrow.Author.Tests.{eqb-true}
use Rattle.dryrun.specs.Expression.{Expression, number, variable, function, apply, operate, substituted}
use Rattle.dryrun.proofs.Typed.{by_cases}
use Rattle.dryrun.proofs.Free.{neither}
use Rattle.dryrun.specs.Free.{free, NoneFree}
use Rattle.environments.specs.Standing.{Env, without, extended, close}

-- Only what is bound to itself stands free.
abbrev pub Good : Env → Type 0
Good σ = (y q : ℕ) → eqb y q ≡ false → free q (σ y) ≡ false

-- Nothing is put in for a parameter that does not stand free.
pub substituted_none : (p : ℕ) (v e : Expression) → free p e ≡ false → substituted p v e ≡ e
unfolding substituted
substituted_none p v (number n tag) h = refl
substituted_none p v (variable x) h = rw h
substituted_none p v (function x e) h =
    by_cases (λ b. cond b false (free p e) ≡ false → cond b (function x e) (function x (substituted p v e)) ≡ function x e) (eqb x p)
    (λ own h. refl)
    (λ other h. ap (function x) (substituted_none p v e h))
    h
substituted_none p v (apply f a) h = let (hf, ha) = neither (free p f) (free p a) h in ap₂ apply (substituted_none p v f hf) (substituted_none p v a ha)
substituted_none p v (operate o l r) h = let (hl, hr) = neither (free p l) (free p r) h in ap₂ (operate o) (substituted_none p v l hl) (substituted_none p v r hr)

good_without : (p : ℕ) (σ : Env) → Good σ → Good (without p σ)
good_without p σ good y q h = by_cases (λ b. free q (cond b (variable y) (σ y)) ≡ false) (eqb y p) (λ e. h) (λ e. good y q h)

pub good_extended : (p : ℕ) (v : Expression) (σ : Env) → NoneFree v → Good σ → Good (extended p v σ)
good_extended p v σ none good y q h = by_cases (λ b. free q (cond b v (σ y)) ≡ false) (eqb y p) (λ e. none q) (λ e. good y q h)

pub good_none : Good variable
good_none y q h = h

without_twice : (x : ℕ) (v : Expression) (σ : Env) → without x (without x σ) ≡ without x (extended x v σ)
without_twice x v σ = fun_ext λ y. by_cases (λ b. cond b (variable y) (cond b (variable y) (σ y)) ≡ cond b (variable y) (cond b v (σ y))) (eqb y x) (λ e. refl) (λ e. refl)

without_swap : (x p : ℕ) (σ : Env) → without x (without p σ) ≡ without p (without x σ)
without_swap x p σ = fun_ext λ y.
    by_cases (λ b. cond b (variable y) (cond (eqb y p) (variable y) (σ y)) ≡ cond (eqb y p) (variable y) (cond b (variable y) (σ y))) (eqb y x)
    (λ e. by_cases (λ b. variable y ≡ cond b (variable y) (variable y)) (eqb y p) (λ e. refl) (λ e. refl)) (λ e. refl)

without_extended : (x p : ℕ) (v : Expression) (σ : Env) → eqb x p ≡ false → extended p v (without x σ) ≡ without x (extended p v σ)
without_extended x p v σ h = fun_ext λ y.
    by_cases (λ b. eqb y x ≡ b → cond (eqb y p) v (cond b (variable y) (σ y)) ≡ cond b (variable y) (cond (eqb y p) v (σ y))) (eqb y x)
    (λ own d. let off : eqb y p ≡ false = ap (λ (n : ℕ). eqb n p) (eqb-true y x own) ∙ h in rw off)
    (λ other d. refl)
    refl

-- Binding one more value is one substitution.
pub substituted_close : (p : ℕ) (v : Expression) (e : Expression) (σ : Env) → Good σ → substituted p v (close (without p σ) e) ≡ close (extended p v σ) e
unfolding substituted close
substituted_close p v (number n tag) σ good = refl
substituted_close p v (variable x) σ good =
    by_cases (λ b. eqb x p ≡ b → substituted p v (cond b (variable x) (σ x)) ≡ cond b v (σ x)) (eqb x p)
    (λ own d. rw own)
    (λ other d. substituted_none p v (σ x) (good x p other))
    refl
substituted_close p v (function x e) σ good =
    by_cases (λ b. eqb x p ≡ b → cond b (function x (close (without x (without p σ)) e)) (function x (substituted p v (close (without x (without p σ)) e))) ≡ function x (close (without x (extended p v σ)) e)) (eqb x p)
    (λ own d. let same = eqb-true x p own in
    ap (λ (ρ : Env). function x (close ρ e)) (ap (λ (n : ℕ). without x (without n σ)) (sym same) ∙ without_twice x v σ ∙ ap (λ (n : ℕ). without x (extended n v σ)) same))
    (λ other d. ap (function x) (ap (λ (ρ : Env). substituted p v (close ρ e)) (without_swap x p σ) ∙ substituted_close p v e (without x σ) (good_without x σ good) ∙ ap (λ (ρ : Env). close ρ e) (without_extended x p v σ other)))
    refl
substituted_close p v (apply f a) σ good = ap₂ apply (substituted_close p v f σ good) (substituted_close p v a σ good)
substituted_close p v (operate o l r) σ good = ap₂ (operate o) (substituted_close p v l σ good) (substituted_close p v r σ good)

-- With nothing bound the expression stays.
pub close_none : (e : Expression) → close variable e ≡ e
unfolding close
close_none (number n tag) = refl
close_none (variable x) = refl
close_none (function x e) =
    ap (function x) (ap (λ (σ : Env). close σ e) (fun_ext λ y. by_cases (λ b. cond b (variable y) (variable y) ≡ variable y) (eqb y x) (λ e. refl) (λ e. refl)) ∙ close_none e)
close_none (apply f a) = ap₂ apply (close_none f) (close_none a)
close_none (operate o l r) = ap₂ (operate o) (close_none l) (close_none r)
