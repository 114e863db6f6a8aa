-- Typed expressions. A typing gives each parameter one qualified type, whichever copy of its LAM binds it, so no environment of types is needed:
-- the assignment s is the environment.
-- Source document 001, section 1.3.1.
use Prim.Native.Nat.{ℕ, ◌<◌}
use native.Mathlib.Omega.{arith}
use mathlib.Core.Bool.{Bool, true, false, cond}
use mathlib.Core.Path.{◌≡◌, refl, sym, subst₂, ◌∙◌}
use lib.Dec.{eqb}
use borrow.Author.Tests.{eqb-true}
use Rattle.scheme.specs.Operation.{keeps}
use Rattle.model.specs.Strength.{Schemes, whole}
use Rattle.model.specs.Typing.{Ty, int, arrow, Assignment, result_qualifier}
use Rattle.model.proofs.Unique.{Lawful}
use Rattle.dryrun.specs.Expression.{Expression, number, variable, function, apply, operate, substituted}
use Rattle.dryrun.specs.Transition.{Rule, Kind, result_tag, Step, applies, operates, in_function, in_argument, in_left, in_right, Meets, here}

pub by_cases : (P : Bool → Type 0) (b : Bool) → (b ≡ true → P true) → (b ≡ false → P false) → P b
by_cases P true f g = f refl
by_cases P false f g = g refl

module _ (S : Schemes) (s : Assignment S.Q) where
  -- The expression has the qualifier and the type.
  abbrev pub Typed : Expression → S.Q → Ty S.Q → Type 0
  Typed (number n tag) q τ = (tag < S.words) × (q ≡ S.word tag) × (τ ≡ int)
  Typed (variable x) q τ = (q ≡ (s.param x).qualifier) × (τ ≡ (s.param x).type)
  Typed (function x e) q τ =
      (q ≡ S.word 0)
      × (q' : S.Q)
      × (τ' : Ty S.Q)
      × Typed e q' τ'
      × (τ ≡ arrow (s.param x).qualifier (s.param x).type q' τ')
  Typed (apply f a) q τ = (κ : S.Q) × (q' : S.Q) × (τ' : Ty S.Q) × Typed f κ (arrow q' τ' q τ) × Typed a q' τ'
  Typed (operate o l r) q τ =
      (κ : S.Q)
      × Typed l κ int
      × Typed r κ int
      × S.AtOrBelow κ (S.highest o)
      × (q ≡ result_qualifier (whole S) o κ)
      × (τ ≡ int)

  -- A value of the parameter's qualified type may stand for it.
  typed_substituted : (p : ℕ) (v : Expression) → Typed v (s.param p).qualifier (s.param p).type → (e : Expression) (q : S.Q) (τ : Ty S.Q) →
      Typed e q τ → Typed (substituted p v e) q τ
  unfolding substituted
  typed_substituted p v tv (number n tag) q τ t = t
  typed_substituted p v tv (variable x) q τ (eq, et) =
      by_cases (λ b. Typed (cond b v (variable x)) q τ) (eqb x p)
      (λ e. let same = eqb-true x p e in
      subst₂ (λ (q : S.Q) (τ : Ty S.Q). Typed v q τ) (cc (same, eq)) (cc (same, et)) tv)
      (λ e. (eq, et))
  typed_substituted p v tv (function x e) q τ (plain, q', τ', te, same) =
      by_cases (λ b. Typed (cond b (function x e) (function x (substituted p v e))) q τ) (eqb x p)
      (λ e. (plain, q', τ', te, same))
      (λ h. (plain, q', τ', typed_substituted p v tv e q' τ' te, same))
  typed_substituted p v tv (apply f a) q τ (κ, q', τ', tf, ta) = (κ, q', τ', typed_substituted p v tv f κ (arrow q' τ' q τ) tf, typed_substituted p v tv a q' τ' ta)
  typed_substituted p v tv (operate o l r) q τ (κ, left, right, fits, eq, et) = (κ, typed_substituted p v tv l κ int left, typed_substituted p v tv r κ int right, fits, eq, et)

  -- A result has the qualifier that the rule of OP gives it.
  typed_result : (o tag : ℕ) (κ q : S.Q) (τ : Ty S.Q) → tag < S.words → κ ≡ S.word tag → q ≡ result_qualifier (whole S) o κ → τ ≡ int →
      (result_tag o tag < S.words) × (q ≡ S.word (result_tag o tag)) × (τ ≡ int)
  unfolding result_tag
  typed_result o tag κ q τ known eκ eq et =
      by_cases (λ b. q ≡ cond b κ (S.word 0) → (cond b tag 0 < S.words) × (q ≡ S.word (cond b tag 0)) × (τ ≡ int)) (keeps o)
      (λ e eq. (known, eq ∙ eκ, et))
      (λ e eq. (omega arith, eq, et))
      eq

  -- Lemma 2 of source document 001: a step keeps the qualifier and the type.
  pub preserved : {W : Rule} {c : ℕ} {k : Kind} {e e' : Expression} → Step W c k e e' → (q : S.Q) (τ : Ty S.Q) → Typed e q τ → Typed e' q τ
  preserved (applies {p} {e} {v} h) q τ (κ, q', τ', (plain, q'', τ'', te, same), tv) =
      typed_substituted p v (subst₂ (λ (q : S.Q) (τ : Ty S.Q). Typed v q τ) (cc same) (cc same) tv) e q τ
      (subst₂ (λ (q : S.Q) (τ : Ty S.Q). Typed e q τ) (cc same) (cc same) te)
  preserved (operates {o} {x} {y} {tag} h) q τ (κ, (known, eκ, e₁), (known', eκ', e₂), fits, eq, et) = typed_result o tag κ q τ known eκ eq et
  preserved (in_function st) q τ (κ, q', τ', tf, ta) = (κ, q', τ', preserved st κ (arrow q' τ' q τ) tf, ta)
  preserved (in_argument h st) q τ (κ, q', τ', tf, ta) = (κ, q', τ', tf, preserved st q' τ' ta)
  preserved (in_left st) q τ (κ, left, right, fits, eq, et) = (κ, preserved st κ int left, right, fits, eq, et)
  preserved (in_right h st) q τ (κ, left, right, fits, eq, et) = (κ, left, preserved st κ int right, fits, eq, et)

  -- "A run never meets two operands with different tags": both have the one qualifier of the operation's typing.
  pub one_tag : Lawful S → {e : Expression} {t u : ℕ} → Meets e t u → (q : S.Q) (τ : Ty S.Q) → Typed e q τ → t ≡ u
  one_tag lawful (here {t = t} {u}) q τ (κ, (known, eκ, e₁), (known', eκ', e₂), fits, eq, et) = lawful.distinct t u known known' (sym eκ ∙ eκ')
  one_tag lawful (Meets.in_function h) q τ (κ, q', τ', tf, ta) = one_tag lawful h κ (arrow q' τ' q τ) tf
  one_tag lawful (Meets.in_argument v h) q τ (κ, q', τ', tf, ta) = one_tag lawful h q' τ' ta
  one_tag lawful (Meets.in_left h) q τ (κ, left, right, fits, eq, et) = one_tag lawful h κ int left
  one_tag lawful (Meets.in_right v h) q τ (κ, left, right, fits, eq, et) = one_tag lawful h κ int right
