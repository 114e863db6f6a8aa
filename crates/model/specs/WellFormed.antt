-- Well-formed machines: what the checks of an add leave true of every row that stands.
-- No sentence of document 01 names this; it follows from the reader and the checks 3 to 8, and inference rests on it.
use Rattle.std.specs.Prelude.{ℕ, ◌+◌, ◌≤◌, ◌<◌, true, [], ◌∷◌, ◌≡◌, length}
use Rattle.scheme.specs.Schemes.{words, Sound}
use Rattle.model.specs.Lists.{contains}
use Rattle.model.specs.Machine.{Machine, type_at, param_at, term_at, children, binds}
use Rattle.model.specs.declared.TypeForm.{TypeForm}
use Rattle.model.specs.declared.TypeForm.TheVariants.{Int, Any, Arrow}
use Rattle.model.specs.declared.Param.{Param}
use Rattle.model.specs.declared.Term.{Term}
use Rattle.model.specs.declared.Term.TheVariants.{Lam, App, Op, Var, Num, Enc}

-- A type row names rows below its own number, and qualifiers by codes of w words and 64 variables.
abbrev pub TypeStands : ℕ → ℕ → TypeForm → Type 0
TypeStands w i Int = Unit {0}
TypeStands w i Any = Unit {0}
TypeStands w i (Arrow q t q' t') = (q < w + 64) × (t < i) × (q' < w + 64) × (t' < i)

-- A parameter has a qualifier by such a code, a type row that is declared, and a floor that is a word.
abbrev pub ParamStands : ℕ → ℕ → Param → Type 0
ParamStands w types param = (param.qualifier < w + 64) × (param.typerow < types) × (param.floor < w)

-- A term row names rows below its own number, parameters that are declared, one of the five operations, one of the schemes.
abbrev pub TermStands : ℕ → ℕ → ℕ → Term → Type 0
TermStands w params i (Lam p b) = (p < params) × (b < i)
TermStands w params i (App f a) = (f < i) × (a < i)
TermStands w params i (Op o l r) = (o < 5) × (l < i) × (r < i)
TermStands w params i (Var p) = p < params
TermStands w params i (Num n) = Unit {0}
TermStands w params i (Enc s n) = (1 ≤ s) × (s < w)

pub record WellFormed (m : Machine) : Type 0 where
  pub schemes_sound : Sound m.schemes
  pub types_fit : length m.types ≤ 64
  pub params_fit : length m.params ≤ 64
  pub terms_fit : length m.terms ≤ 256
  pub types_stand : (t : ℕ) → t < length m.types → TypeStands (words m.schemes) t (type_at m t)
  pub params_stand : (p : ℕ) → p < length m.params → ParamStands (words m.schemes) (length m.types) (param_at m p)
  pub terms_stand : (i : ℕ) → i < length m.terms → TermStands (words m.schemes) (length m.params) i (term_at m i)
  -- no two rows have a child in common, and no row has one twice; no two LAMs bind one parameter
  pub one_parent : (i j c : ℕ) → i < length m.terms → j < length m.terms →
      contains c (children (term_at m i)) ≡ true → contains c (children (term_at m j)) ≡ true → i ≡ j
  pub two_children : (i a b : ℕ) → i < length m.terms → children (term_at m i) ≡ a ∷ b ∷ [] → ¬ (a ≡ b)
  pub one_binder : (i j p : ℕ) → i < length m.terms → j < length m.terms →
      contains p (binds (term_at m i)) ≡ true → contains p (binds (term_at m j)) ≡ true → i ≡ j
