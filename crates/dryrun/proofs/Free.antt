-- Free parameters: none stands free in a job, and no step frees one.
use Prim.Native.Nat.{ℕ}
use mathlib.Core.Bool.{Bool, true, false, cond, ◌||◌}
use mathlib.Core.Path.{◌≡◌, refl, sym}
use lib.Dec.{eqb}
use borrow.Author.Tests.{eqb-true, eq-eqb}
use Rattle.dryrun.specs.Expression.{Expression, number, variable, function, apply, operate, substituted}
use Rattle.dryrun.specs.Transition.{Rule, Kind, Step, applies, operates, in_function, in_argument, in_left, in_right}
use Rattle.dryrun.specs.Free.{free, NoneFree}
use Rattle.dryrun.proofs.Typed.{by_cases}

pub neither : (a b : Bool) → (a || b) ≡ false → (a ≡ false) × (b ≡ false)
neither true true h = (h, h)
neither true false h = (h, refl)
neither false true h = (refl, h)
neither false false h = (refl, refl)

pub both_false : (a b : Bool) → a ≡ false → b ≡ false → (a || b) ≡ false
both_false a b h k = cc

eqb_swap : (a b : ℕ) → eqb a b ≡ false → eqb b a ≡ false
eqb_swap a b h = by_cases (λ t. eqb b a ≡ t → eqb b a ≡ false) (eqb b a) (λ e d. cc (eq-eqb a b (sym (eqb-true b a e)))) (λ e d. e) refl

-- What stands free after a closed value was put in for p stood free before, and is not p.
free_substituted : (p : ℕ) (v : Expression) → NoneFree v → (q : ℕ) (e : Expression) → (eqb q p ≡ false → free q e ≡ false) → free q (substituted p v e) ≡ false
unfolding substituted
free_substituted p v closed q (number n tag) h = refl
free_substituted p v closed q (variable x) h =
    by_cases (λ b. eqb x p ≡ b → free q (cond b v (variable x)) ≡ false) (eqb x p)
    (λ e d. closed q)
    (λ e d. by_cases (λ b. eqb q p ≡ b → eqb x q ≡ false) (eqb q p) (λ same d. cc (eqb-true q p same, e)) (λ other d. h other) refl)
    refl
free_substituted p v closed q (function x e) h =
    by_cases (λ b. free q (cond b (function x e) (function x (substituted p v e))) ≡ false) (eqb x p)
    (λ own. by_cases (λ b. eqb q p ≡ b → cond (eqb x q) false (free q e) ≡ false) (eqb q p)
    (λ same d. let here : eqb x q ≡ true = eq-eqb x q (cc (eqb-true x p own, eqb-true q p same)) in cc here)
    (λ other d. h other)
    refl)
    (λ other. by_cases (λ b. (eqb q p ≡ false → cond b false (free q e) ≡ false) → cond b false (free q (substituted p v e)) ≡ false) (eqb x q)
    (λ own h. refl)
    (λ other h. free_substituted p v closed q e h)
    h)
free_substituted p v closed q (apply f a) h =
    both_false (free q (substituted p v f)) (free q (substituted p v a))
    (free_substituted p v closed q f (λ d. (neither (free q f) (free q a) (h d)).0))
    (free_substituted p v closed q a (λ d. (neither (free q f) (free q a) (h d)).1))
free_substituted p v closed q (operate o l r) h =
    both_false (free q (substituted p v l)) (free q (substituted p v r))
    (free_substituted p v closed q l (λ d. (neither (free q l) (free q r) (h d)).0))
    (free_substituted p v closed q r (λ d. (neither (free q l) (free q r) (h d)).1))

module _ {W : Rule} where
  pub step_none_free : {c : ℕ} {k : Kind} {e e' : Expression} → Step W c k e e' → NoneFree e → NoneFree e'
  step_none_free (applies {p} {e} {v} h) none q =
      free_substituted p v (λ x. (neither (free x (function p e)) (free x v) (none x)).1) q e
      (λ d. let off : eqb p q ≡ false = eqb_swap q p d in
      let h : cond (eqb p q) false (free q e) ≡ false = (neither (free q (function p e)) (free q v) (none q)).0 in
      cc (off, h))
  step_none_free (operates h) none q = refl
  step_none_free (in_function {f = f} {f'} {a} s) none q =
      both_false (free q f') (free q a) (step_none_free s (λ x. (neither (free x f) (free x a) (none x)).0) q) (neither (free q f) (free q a) (none q)).1
  step_none_free (in_argument {v = v} {a} {a'} h s) none q =
      both_false (free q v) (free q a') (neither (free q v) (free q a) (none q)).0 (step_none_free s (λ x. (neither (free x v) (free x a) (none x)).1) q)
  step_none_free (in_left {l = l} {l'} {r} s) none q =
      both_false (free q l') (free q r) (step_none_free s (λ x. (neither (free x l) (free x r) (none x)).0) q) (neither (free q l) (free q r) (none q)).1
  step_none_free (in_right {v = v} {r} {r'} h s) none q =
      both_false (free q v) (free q r') (neither (free q v) (free q r) (none q)).0 (step_none_free s (λ x. (neither (free x v) (free x r) (none x)).1) q)
