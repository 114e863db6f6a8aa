-- A typed expression without free parameters is a value or makes a step: a run never gets stuck.
-- Source document 001, section 1.4, Lemma 1.
use Prim.Native.Nat.{ℕ}
use native.Mathlib.Omega.{arith}
use mathlib.Core.Bool.{false≢true}
use mathlib.Core.Path.{◌≡◌, refl, sym, subst, ◌∙◌}
use borrow.Author.Tests.{eq-eqb}
use Rattle.model.specs.Strength.{Schemes}
use Rattle.model.specs.Typing.{Ty, int, arrow, Assignment}
use Rattle.model.proofs.Unique.{Lawful}
use Rattle.dryrun.specs.Expression.{Expression, number, variable, function, apply, operate, Value, a_number, a_function}
use Rattle.dryrun.specs.Transition.{Rule, applies, operates, in_function, in_argument, in_left, in_right, Tagged, supported, Meets, Goes, over, on}
use Rattle.dryrun.specs.Run.{Counts, Reaches, itself, further}
use Rattle.dryrun.proofs.Typed.{Typed, preserved, one_tag}
use Rattle.dryrun.proofs.Free.{neither, step_none_free}
use Rattle.dryrun.specs.Free.{free, NoneFree}

int_no_arrow : {Q : Type 0} {q q' : Q} {τ τ' : Ty Q} → int ≡ arrow q τ q' τ' → ⊥
int_no_arrow h = let z : ◌≡◌ {A = ℕ} 0 1 = cc h in let n : ⊥ = omega arith in n

module _ (S : Schemes) (lawful : Lawful S) (s : Assignment S.Q) where
  applied_value : (f a : Expression) → Value f → Value a → (κ q q' : S.Q) (τ τ' : Ty S.Q) → Typed S s f κ (arrow q' τ' q τ) → Goes (Tagged S) (apply f a)
  applied_value (number n tag) a a_number v κ q q' τ τ' (known, eκ, e) = absurd (int_no_arrow (sym e))
  applied_value (function p b) a a_function v κ q q' τ τ' t = on (applies v)
  applied_value (variable _) a x4 v κ q q' τ τ' t = elim x4 [ ]
  applied_value (apply _ _) a x6 v κ q q' τ τ' t = elim x6 [ ]
  applied_value (operate _ _ _) a x8 v κ q q' τ τ' t = elim x8 [ ]

  operated_values : (o : ℕ) (l r : Expression) → Value l → Value r → (κ : S.Q) → Typed S s l κ int → Typed S s r κ int → S.AtOrBelow κ (S.highest o) → Goes (Tagged S) (operate o l r)
  operated_values o (number x t) (number y u) a_number a_number κ (known, eκ, e₁) (known', eκ', e₂) fits =
      let same : t ≡ u = lawful.distinct t u known known' (sym eκ ∙ eκ') in
      subst (λ (u : ℕ). Goes (Tagged S) (operate o (number x t) (number y u))) same
      (on (operates (supported (subst (λ (κ : S.Q). S.AtOrBelow κ (S.highest o)) eκ fits))))
  operated_values o (number x t) (function p b) a_number a_function κ left (plain, q', τ', tb, e) fits = absurd (int_no_arrow e)
  operated_values o (function p b) r a_function v κ (plain, q', τ', tb, e) right fits = absurd (int_no_arrow e)
  operated_values o (number x t) (variable _) _ v κ left right fits = elim v [ ]
  operated_values o (number x t) (apply _ _) _ v κ left right fits = elim v [ ]
  operated_values o (number x t) (operate _ _ _) _ v κ left right fits = elim v [ ]
  operated_values o (variable _) r x7 v κ left right fits = elim x7 [ ]
  operated_values o (apply _ _) r x9 v κ left right fits = elim x9 [ ]
  operated_values o (operate _ _ _) r x11 v κ left right fits = elim x11 [ ]

  pub progress : (e : Expression) → NoneFree e → (q : S.Q) (τ : Ty S.Q) → Typed S s e q τ → Goes (Tagged S) e
  progress (number n tag) none q τ t = over a_number
  progress (variable x) none q τ t = absurd (false≢true (sym (none x) ∙ eq-eqb x x refl))
  progress (function x e) none q τ t = over a_function
  progress (apply f a) none q τ (κ, q', τ', tf, ta) =
      go (progress f (λ x. (neither (free x f) (free x a) (none x)).0) κ (arrow q' τ' q τ) tf) (progress a (λ x. (neither (free x f) (free x a) (none x)).1) q' τ' ta)
    where
      go : Goes (Tagged S) f → Goes (Tagged S) a → Goes (Tagged S) (apply f a)
      go (over v) (over w) = applied_value f a v w κ q q' τ τ' tf
      go (over v) (on st) = on (in_argument v st)
      go (on st) other = on (in_function st)
  progress (operate o l r) none q τ (κ, left, right, fits, eq, et) =
      go (progress l (λ x. (neither (free x l) (free x r) (none x)).0) κ int left) (progress r (λ x. (neither (free x l) (free x r) (none x)).1) κ int right)
    where
      go : Goes (Tagged S) l → Goes (Tagged S) r → Goes (Tagged S) (operate o l r)
      go (over v) (over w) = operated_values o l r v w κ left right fits
      go (over v) (on st) = on (in_right v st)
      go (on st) other = on (in_left st)

  -- What a run comes by is typed, without free parameters: it goes on, and its operands have one tag.
  pub record Sound (e : Expression) : Type 0 where
    pub q : S.Q
    pub τ : Ty S.Q
    pub typed : Typed S s e q τ
    pub none_free : NoneFree e

  pub reached_sound : {W : Rule} {e e'' : Expression} {made made'' : Counts} → Reaches W e made e'' made'' → Sound e → Sound e''
  reached_sound itself sound = sound
  reached_sound (further st fits r) sound =
      reached_sound r (record { q = sound.q; τ = sound.τ; typed = preserved S s st sound.q sound.τ sound.typed; none_free = step_none_free st sound.none_free })

  pub sound_one_tag : {e : Expression} {t u : ℕ} → Sound e → Meets e t u → t ≡ u
  sound_one_tag sound h = one_tag S s lawful h sound.q sound.τ sound.typed

  pub sound_goes : {e : Expression} → Sound e → Goes (Tagged S) e
  sound_goes {e} sound = progress e sound.none_free sound.q sound.τ sound.typed
