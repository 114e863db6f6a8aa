-- Steps under reduction contexts: a step inside makes a step of the whole, and a whole that is no value within steps inside.
use Prim.Native.Nat.{ℕ, suc, ◌+◌}
use native.Mathlib.Omega.{arith}
use mathlib.Core.List.{List, [], ◌∷◌}
use mathlib.Core.Path.{◌≡◌, refl, subst}
use lib.ListN.{length}
use Rattle.dryrun.specs.Expression.{Expression, Value}
use Rattle.dryrun.specs.Transition.{Rule, Kind, Step, applies, operates, in_function, in_argument, in_left, in_right}
use Rattle.environments.specs.Standing.{Context, argument, called, right, left, around, plug}
use Rattle.dryrun.specs.Free.{free, NoneFree}
use Rattle.dryrun.proofs.Determined.{Finished, value_finished, value_stays}
use Rattle.dryrun.proofs.Free.{neither}

-- The values of "v R" and "v f R" are values.
abbrev pub Upright : Context → Type 0
Upright (argument a) = Unit {0}
Upright (called v) = Value v
Upright (right o r) = Unit {0}
Upright (left o v) = Value v

infixr 60 ◌∷ᵁ◌
pub data AllUpright : List Context → Type 0 where
  []ᵁ : AllUpright []
  ◌∷ᵁ◌ : {f : Context} {R : List Context} → Upright f → AllUpright R → AllUpright (f ∷ R)

-- No value stands around anything.
around_unfinished : (f : Context) (e : Expression) → Finished (around f e) → ⊥
around_unfinished (argument a) e h = h
around_unfinished (called v) e h = h
around_unfinished (right o r) e h = h
around_unfinished (left o v) e h = h

pub plug_unfinished : (R : List Context) (e : Expression) → (Finished e → ⊥) → Finished (plug R e) → ⊥
plug_unfinished [] e none h = none h
plug_unfinished (f ∷ R) e none h = plug_unfinished R (around f e) (around_unfinished f e) h

pub plug_no_value : (R : List Context) (e : Expression) → (Finished e → ⊥) → ¬ Value (plug R e)
plug_no_value R e none v = plug_unfinished R e none (value_finished v)

module _ {W : Rule} where
  around_step : (f : Context) → Upright f → {c : ℕ} {k : Kind} {e e' : Expression} → Step W c k e e' → Step W (suc c) k (around f e) (around f e')
  around_step (argument a) h s = in_function s
  around_step (called v) h s = in_argument h s
  around_step (right o r) h s = in_left s
  around_step (left o v) h s = in_right h s

  -- A step inside is one of the whole, in as many more contexts.
  pub plug_step : {R : List Context} → AllUpright R → {c : ℕ} {k : Kind} {e e' : Expression} → Step W c k e e' → Step W (length R + c) k (plug R e) (plug R e')
  plug_step []ᵁ {c} {k} {e} {e'} s = subst (λ (n : ℕ). Step W n k e e') (omega arith) s
  plug_step (◌∷ᵁ◌ {f} {R} h hs) {c} {k} {e} {e'} s =
      subst (λ (n : ℕ). Step W n k (plug R (around f e)) (plug R (around f e'))) (omega arith) (plug_step hs (around_step f h s))

  -- A step of a frame around what is no value is inside.
  around_inside : (f : Context) → Upright f → {c : ℕ} {k : Kind} → (e : Expression) → {x : Expression} → (Finished e → ⊥) → Step W c k (around f e) x → (c' : ℕ) × (e' : Expression) × Step W c' k e e' × (c ≡ suc c')
  around_inside (argument a) up e none (applies v) = absurd (none tt)
  around_inside (argument a) up e none (in_function {contexts = c} {f' = e'} s) = (c, e', s, refl)
  around_inside (argument a) up e none (in_argument v s) = absurd (none (value_finished v))
  around_inside (called v) up e none (applies w) = absurd (none (value_finished w))
  around_inside (called v) up e none (in_function s) = absurd (value_stays up s)
  around_inside (called v) up e none (in_argument {contexts = c} {a' = e'} w s) = (c, e', s, refl)
  around_inside (right o r) up e none (operates h) = absurd (none tt)
  around_inside (right o r) up e none (in_left {contexts = c} {l' = e'} s) = (c, e', s, refl)
  around_inside (right o r) up e none (in_right v s) = absurd (none (value_finished v))
  around_inside (left o v) up e none (operates h) = absurd (none tt)
  around_inside (left o v) up e none (in_left s) = absurd (value_stays up s)
  around_inside (left o v) up e none (in_right {contexts = c} {r' = e'} w s) = (c, e', s, refl)

  -- A step of a whole that is no value inside is a step there.
  pub plug_inside : {R : List Context} → AllUpright R → {c : ℕ} {k : Kind} → (e : Expression) → {x : Expression} → (Finished e → ⊥) → Step W c k (plug R e) x →
      (c' : ℕ) × (e' : Expression) × Step W c' k e e' × (c ≡ length R + c')
  plug_inside []ᵁ {c} e {x} none s = (c, x, s, omega arith)
  plug_inside (◌∷ᵁ◌ {f} {R} h hs) e none s =
      let (c', x, t, at) = plug_inside hs (around f e) (around_unfinished f e) s in
      let (c'', e', u, at') = around_inside f h e none t in
      (c'', e', u, omega arith)

-- What stands in a context is no more free than the whole.
around_none_free : (f : Context) (e : Expression) → NoneFree (around f e) → NoneFree e
around_none_free (argument a) e none q = (neither (free q e) (free q a) (none q)).0
around_none_free (called v) e none q = (neither (free q v) (free q e) (none q)).1
around_none_free (right o r) e none q = (neither (free q e) (free q r) (none q)).0
around_none_free (left o v) e none q = (neither (free q v) (free q e) (none q)).1

pub plug_none_free : (R : List Context) (e : Expression) → NoneFree (plug R e) → NoneFree e
plug_none_free [] e none = none
plug_none_free (f ∷ R) e none = around_none_free f e (plug_none_free R (around f e) none)
