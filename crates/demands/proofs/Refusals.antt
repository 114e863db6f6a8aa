-- The checks of the machine are the conditions of document 01's table: a call that is refused breaks its number's condition, and none that is checked before.
use Prim.Native.Nat.{ℕ, ◌+◌, ◌≤◌, ◌<◌}
use native.Mathlib.Omega.{arith}
use mathlib.Core.Bool.{Bool, true, not, or-false, and-false, false≢true}
use mathlib.Core.List.{List, [], ◌∷◌}
use mathlib.Core.Path.{◌≡◌, refl, sym, ap, ◌∙◌}
use lib.ListN.{length}
use borrow.Author.Tests.{eqb-true, eqb-false, eq-eqb, ne_eqb, ltb-false, le-ltb, not-false}
use Rattle.scheme.specs.Schemes.{words}
use Rattle.model.specs.Lists.{any_of}
use Rattle.model.specs.Machine.{Machine, children, named, parts, binds, used, bound, twice, type_refusal, param_refusal, term_refusal, settled, entered, added, redeclared, taken_back}
use Rattle.model.specs.Session.{add, redeclare, take_back}
use Rattle.model.specs.declared.TypeForm.{TypeForm}
use Rattle.model.specs.declared.Param.{Param}
use Rattle.model.specs.declared.Term.{Term}
use Rattle.model.specs.declared.Term.TheVariants.{Lam, App, Op, Var, Num, Enc}
use Rattle.model.specs.declared.Line.{Line}
use Rattle.model.specs.declared.Line.TheVariants.{TypeLine, ParamLine, TermLine, NoForm}
use Rattle.model.proofs.LongLines.{long_refused}
use Rattle.demands.specs.Refusals.{read_by, Breaks, line_too_long, no_form, type_not_next, param_not_next, term_not_next, types_full, params_full, terms_full, part_not_below, type_not_declared, named_not_declared, param_not_declared, child_not_below, child_used, both_children, already_bound, without_term_row, code_above}
use Rattle.demands.proofs.Checks.{from_none, from_check, here, there, not_later}
use Rattle.demands.proofs.Members.{and_cases, some_passes, one_passes, some_not_below, one_not_below}

-- The number that an add returns, by the form of its line.
module _ (m : Machine) (s : List ℕ) where
  added_type : {i : ℕ} {form : TypeForm} → read_by m s ≡ TypeLine i form → (added m s).number ≡ type_refusal m i form
  unfolding added entered settled
  added_type e = rw e

  added_param : {p : ℕ} {param : Param} → read_by m s ≡ ParamLine p param → (added m s).number ≡ param_refusal m p param
  unfolding added entered settled
  added_param e = rw e

  added_term : {i : ℕ} {term : Term} → read_by m s ≡ TermLine i term → (added m s).number ≡ term_refusal m i term
  unfolding added entered settled
  added_term e = rw e

  pub added_none : read_by m s ≡ NoForm → (added m s).number ≡ 1
  unfolding added entered settled
  added_none e = rw e

-- "one row named as both children"
two_same : (a b : ℕ) → twice (a ∷ b ∷ []) ≡ true → (c : ℕ) × (◌≡◌ {A = List ℕ} (a ∷ b ∷ []) (c ∷ c ∷ []))
two_same a b h = (a, ap (λ (n : ℕ). a ∷ n ∷ []) (sym (eqb-true a b (simp or-false at h))))

both_same : (term : Term) → twice (children term) ≡ true → (c : ℕ) × (children term ≡ c ∷ c ∷ [])
both_same (Lam p b) h = absurd (false≢true h)
both_same (App f a) h = two_same f a h
both_same (Op o l r) h = two_same l r h
both_same (Var p) h = absurd (false≢true h)
both_same (Num n) h = absurd (false≢true h)
both_same (Enc e n) h = absurd (false≢true h)

-- "LAM of a parameter already bound"
lam_bound : (taken : ℕ → Bool) (term : Term) → any_of taken (binds term) ≡ true → (p : ℕ) × (b : ℕ) × (term ≡ Lam p b) × (taken p ≡ true)
lam_bound taken (Lam p b) h = (p, b, refl, simp or-false at h)
lam_bound taken (App f a) h = absurd (false≢true h)
lam_bound taken (Op o l r) h = absurd (false≢true h)
lam_bound taken (Var p) h = absurd (false≢true h)
lam_bound taken (Num n) h = absurd (false≢true h)
lam_bound taken (Enc e n) h = absurd (false≢true h)

-- A number is returned that is not past n.
abbrev pub First : ℕ → ℕ → Type 0
First number n = (0 < number) × (number ≤ n)

-- A refused add breaks the condition of its number.
module _ (m : Machine) (s : List ℕ) where
  abbrev Broken : ℕ → Type 0
  Broken = Breaks m (add s)

  type_refused : {i : ℕ} {form : TypeForm} → read_by m s ≡ TypeLine i form → ¬ (type_refusal m i form ≡ 0) → Broken (type_refusal m i form)
  unfolding type_refusal
  type_refused {i} {form} line =
      from_check Broken 2 _ _ (λ e. type_not_next line (eqb-false _ _ e))
      (from_check Broken 3 _ _ (λ e. types_full line (ltb-false _ _ e))
      (from_check Broken 4 _ _ (λ e. let (t, among, past) = some_not_below i (parts form) e in part_not_below line t among past)
      (from_none Broken)))

  param_refused : {p : ℕ} {param : Param} → read_by m s ≡ ParamLine p param → ¬ (param_refusal m p param ≡ 0) → Broken (param_refusal m p param)
  unfolding param_refusal
  param_refused {p} {param} line =
      from_check Broken 2 _ _ (λ e. param_not_next line (eqb-false _ _ e))
      (from_check Broken 3 _ _ (λ e. params_full line (ltb-false _ _ e))
      (from_check Broken 4 _ _ (λ e. type_not_declared line (λ below. let past = ltb-false param.typerow _ e in omega arith))
      (from_none Broken)))

  term_refused : {i : ℕ} {term : Term} → read_by m s ≡ TermLine i term → ¬ (term_refusal m i term ≡ 0) → Broken (term_refusal m i term)
  unfolding term_refusal
  term_refused {i} {term} line =
      from_check Broken 2 _ _ (λ e. term_not_next line (eqb-false _ _ e))
      (from_check Broken 3 _ _ (λ e. terms_full line (ltb-false _ _ e))
      (from_check Broken 5 _ _ (λ e. let (p, among, past) = some_not_below (length m.params) (named term) e in named_not_declared line p among past)
      (from_check Broken 6 _ _ (λ e. let (c, among, past) = some_not_below i (children term) e in child_not_below line c among past)
      (from_check Broken 7 _ _
      (λ e.
      and_cases (not (any_of (used m.terms) (children term))) _ e
      (λ some. let (c, among, taken) = some_passes (used m.terms) (children term) (not-false _ some) in child_used line c among taken)
      (λ both. both_children line (both_same term (not-false _ both)).1))
      (from_check Broken 8 _ _
      (λ e. let (p, b, lam, taken) = lam_bound (bound m.terms) term (not-false _ e) in already_bound (line ∙ ap (TermLine i) lam) taken)
      (from_none Broken))))))

  pub add_refused : ¬ ((added m s).number ≡ 0) → Broken (added m s).number
  add_refused = by (read_by m s) refl
    where
      by : (line : Line) → read_by m s ≡ line → ¬ ((added m s).number ≡ 0) → Broken (added m s).number
      by (TypeLine i form) e some = rw (added_type m s e) (type_refused e (rw (added_type m s e) at some))
      by (ParamLine p param) e some = rw (added_param m s e) (param_refused e (rw (added_param m s e) at some))
      by (TermLine i term) e some = rw (added_term m s e) (term_refused e (rw (added_term m s e) at some))
      by NoForm e some = rw (added_none m s e) (no_form e)

  -- Where a condition is broken, the call is refused, with that number or a lower one.
  pub add_first : {n : ℕ} → Breaks m (add s) n → First (added m s).number n
  unfolding type_refusal param_refusal term_refusal
  add_first (line_too_long h) = rw (long_refused m s h) (omega arith)
  add_first (no_form e) = rw (added_none m s e) (omega arith)
  add_first (type_not_next e h) = rw (added_type m s e) (not_later refl (here (ne_eqb _ _ h)))
  add_first (param_not_next e h) = rw (added_param m s e) (not_later refl (here (ne_eqb _ _ h)))
  add_first (term_not_next e h) = rw (added_term m s e) (not_later refl (here (ne_eqb _ _ h)))
  add_first (types_full e h) = rw (added_type m s e) (not_later refl (there (here (le-ltb _ _ h))))
  add_first (params_full e h) = rw (added_param m s e) (not_later refl (there (here (le-ltb _ _ h))))
  add_first (terms_full e h) = rw (added_term m s e) (not_later refl (there (here (le-ltb _ _ h))))
  add_first (part_not_below {i = i} {form} e t among h) = rw (added_type m s e) (not_later refl (there (there (here (one_not_below i (parts form) t among h)))))
  add_first (type_not_declared {param = param} e h) = rw (added_param m s e) (not_later refl (there (there (here (le-ltb param.typerow (length m.types) (omega arith))))))
  add_first (named_not_declared {term = term} e p among h) =
      rw (added_term m s e) (not_later refl (there (there (here (one_not_below (length m.params) (named term) p among h)))))
  add_first (child_not_below {i = i} {term} e c among h) =
      rw (added_term m s e) (not_later refl (there (there (there (here (one_not_below i (children term) c among h))))))
  add_first (child_used {term = term} e c among h) =
      rw (added_term m s e) (not_later refl (there (there (there (there (here (simp (one_passes (used m.terms) c (children term) among h))))))))
  add_first (both_children {c = c} e same) =
      rw (added_term m s e) (not_later refl (there (there (there (there (here (simp (same, eq-eqb c c refl, and-false))))))))
  add_first (already_bound e h) = rw (added_term m s e) (not_later refl (there (there (there (there (there (here (simp h))))))))

module _ (m : Machine) (p code : ℕ) where
  pub redeclare_refused : ¬ ((redeclared m p code).number ≡ 0) → Breaks m (redeclare p code) (redeclared m p code).number
  unfolding redeclared settled
  redeclare_refused =
      from_check (Breaks m (redeclare p code)) 5 _ _ (λ e. param_not_declared (λ below. let past = ltb-false p (length m.params) e in omega arith))
      (from_check (Breaks m (redeclare p code)) 12 _ _ (λ e. code_above (ltb-false code (words m.schemes + 64) e))
      (from_none (Breaks m (redeclare p code))))

  pub redeclare_first : {n : ℕ} → Breaks m (redeclare p code) n → First (redeclared m p code).number n
  unfolding redeclared settled
  redeclare_first (param_not_declared h) = not_later refl (here (le-ltb p (length m.params) (omega arith)))
  redeclare_first (code_above h) = not_later refl (there (here (le-ltb code (words m.schemes + 64) h)))

no_rows : {A : Type 0} (rows : List A) → length rows ≤ 0 → rows ≡ []
no_rows [] h = refl
no_rows (row ∷ rows) h = absurd (omega arith)

module _ (m : Machine) where
  pub take_back_refused : ¬ ((taken_back m).number ≡ 0) → Breaks m take_back (taken_back m).number
  unfolding taken_back settled
  take_back_refused =
      from_check (Breaks m take_back) 9 _ _ (λ e. without_term_row (no_rows m.terms (ltb-false 0 (length m.terms) e)))
      (from_none (Breaks m take_back))

  pub take_back_first : {n : ℕ} → Breaks m take_back n → First (taken_back m).number n
  unfolding taken_back settled
  take_back_first (without_term_row e) = not_later refl (here (rw e))
