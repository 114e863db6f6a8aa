-- Every call leaves a well-formed machine well-formed: what stands was checked when it was added, and later entries only make the lists longer.
use Prim.Native.Nat.{ℕ, suc, ◌+◌, ◌-◌, ◌<◌}
use native.Mathlib.Omega.{arith}
use native.Mathlib.Decide.{ℕ_discrete, dec_lt}
use mathlib.Core.Bool.{Bool, true, false, not}
use mathlib.Core.List.{List, [], ◌∷◌, ◌++◌}
use mathlib.Core.Path.{◌≡◌, refl, ap, sym, subst, ◌∙◌}
use lib.Dec.{eqb, ltb}
use lib.ListN.{length, get_or, take, set, length-append, length-take, length-set, get_or-append}
use lib.Seq.{get_or-append_seam, get_or-set_same, get_or-set_other}
use borrow.Author.Tests.{eqb-true, eq-eqb, ltb-true, not-true}
use Rattle.scheme.specs.Schemes.{SchemeTable, words, Sound}
use Rattle.scheme.proofs.Every.{and_left, and_right}
use Rattle.model.specs.Lists.{any_of, all_of, contains}
use Rattle.model.specs.Line.{line_of}
use Rattle.model.specs.Machine.{Machine, fresh_machine, no_type_row, no_param, no_term_row, with_qualifier, param_at, term_at, children, named, binds, parts, used, twice, entered, added, redeclared, taken_back}
use Rattle.model.specs.WellFormed.{TypeStands, ParamStands, TermStands, WellFormed}
use Rattle.model.specs.Session.{Call, Outcome, Answers, adds, redeclares, takes_back, infers}
use Rattle.model.specs.declared.TypeForm.{TypeForm}
use Rattle.model.specs.declared.TypeForm.TheVariants.{Int, Any, Arrow}
use Rattle.model.specs.declared.Param.{Param}
use Rattle.model.specs.declared.Term.{Term}
use Rattle.model.specs.declared.Term.TheVariants.{Lam, App, Op, Var, Num, Enc}
use Rattle.model.specs.declared.TermRow.{TermRow}
use Rattle.model.specs.declared.Line.{Line}
use Rattle.model.specs.declared.Line.TheVariants.{TypeLine, ParamLine, TermLine, NoForm}
use Rattle.model.proofs.Checks.{passed, settled_keeps}
use Rattle.checks.proofs.Tests.{or_cases, or_neither, any_at}
use Rattle.checks.proofs.Passed.{TypePassed, type_passed, ParamPassed, param_passed, TermPassed, term_passed}
use Rattle.table.proofs.Entries.{taken}
use Rattle.table.proofs.Codes.{FormCodes, TermCodes, ParamCodes, LineCodes, line_codes}

none_below_zero : {A : Type 0} (n : ℕ) → n < 0 → A
none_below_zero n h = let z : ⊥ = omega arith in absurd z

pub fresh_well_formed : (T : SchemeTable) → Sound T → WellFormed (fresh_machine T)
fresh_well_formed T sound =
    record {
      schemes_sound = sound;
      types_fit = omega arith;
      params_fit = omega arith;
      terms_fit = omega arith;
      types_stand = λ t h. none_below_zero t h;
      params_stand = λ p h. none_below_zero p h;
      terms_stand = λ i h. none_below_zero i h;
      one_parent = λ i j c h k e f. none_below_zero i h;
      two_children = λ i a b h e f. none_below_zero i h;
      one_binder = λ i j c h k e f. none_below_zero i h;
    }

-- What holds of each entry of a list, and of one more at its place, holds of each entry of the longer list.
each_appended : {A : Type 0} (P : ℕ → A → Type 0) (xs : List A) (a d : A) → ((i : ℕ) → i < length xs → P i (get_or xs i d)) → P (length xs) a →
    (i : ℕ) → i < length (xs ++ (a ∷ [])) → P i (get_or (xs ++ (a ∷ [])) i d)
each_appended P xs a d old new i h = go (dec_lt i (length xs))
  where
    go : Dec (i < length xs) → P i (get_or (xs ++ (a ∷ [])) i d)
    go (yes below) = rw (get_or-append xs (a ∷ []) d i below) (old i below)
    go (no past) =
        let last : i ≡ length xs = omega (arith, simp length-append at h) in
        rw (last, get_or-append_seam xs a [] d) new

-- A test that no number of a list passes, at one of them.
none_of : (test : ℕ → Bool) (l : List ℕ) (c : ℕ) → any_of test l ≡ false → contains c l ≡ true → test c ≡ false
none_of test [] c e h = cc
none_of test (a ∷ l) c e h =
    let neither = or_neither (test a) (any_of test l) e in
    or_cases (eqb c a) (contains c l) h (λ same. rw (eqb-true c a same) neither.0) (λ later. none_of test l c neither.1 later)

-- The new entry stands.
type_stands : (names : List (List ℕ)) (form : TypeForm) (i : ℕ) → FormCodes names form → all_of (λ t. ltb t i) (parts form) ≡ true → TypeStands (suc (length names)) i form
type_stands names Int i codes h = tt
type_stands names Any i codes h = tt
type_stands names (Arrow q t q' t') i codes h = (codes.0, ltb-true t i (and_left _ _ h), codes.1, ltb-true t' i (and_left _ _ (and_right (ltb t i) _ h)))

term_stands : (names : List (List ℕ)) (term : Term) (params i : ℕ) → TermCodes names term → all_of (λ p. ltb p params) (named term) ≡ true → all_of (λ c. ltb c i) (children term) ≡ true → TermStands (suc (length names)) params i term
term_stands names (Lam p b) params i codes n h = (ltb-true p params (and_left _ _ n), ltb-true b i (and_left _ _ h))
term_stands names (App f a) params i codes n h = (ltb-true f i (and_left _ _ h), ltb-true a i (and_left _ _ (and_right (ltb f i) _ h)))
term_stands names (Op o l r) params i codes n h = (codes, ltb-true l i (and_left _ _ h), ltb-true r i (and_left _ _ (and_right (ltb l i) _ h)))
term_stands names (Var p) params i codes n h = ltb-true p params (and_left _ _ n)
term_stands names (Num n') params i codes n h = tt
term_stands names (Enc s n') params i codes n h = (codes.0, codes.1)

-- More parameters declared.
term_stands_more : (w : ℕ) (term : Term) (params i : ℕ) → TermStands w params i term → TermStands w (params + 1) i term
term_stands_more w (Lam p b) params i h = (omega arith, h.1)
term_stands_more w (App f a) params i h = h
term_stands_more w (Op o l r) params i h = h
term_stands_more w (Var p) params i h = omega arith
term_stands_more w (Num n) params i h = h
term_stands_more w (Enc s n) params i h = h

-- No two rows name one number: their children, or the parameters that they bind.
abbrev Apart : (Term → List ℕ) → List TermRow → Type 0
Apart names rows = (i j c : ℕ) → i < length rows → j < length rows →
    contains c (names (get_or rows i no_term_row).term) ≡ true → contains c (names (get_or rows j no_term_row).term) ≡ true → i ≡ j

-- One row more.
abbrev with_row : List TermRow → Term → List TermRow
with_row rows term = rows ++ (record { term = term } ∷ [])

module _ (names : Term → List ℕ) (rows : List TermRow) (apart : Apart names rows) where
  apart_taken : (k : ℕ) → Apart names (take k rows)
  apart_taken k i j c h l e f =
      let at_i = taken rows k i no_term_row h in
      let at_j = taken rows k j no_term_row l in
      apart i j c at_i.0 at_j.0 (rw at_i.1 at e) (rw at_j.1 at f)

  -- A number of the new row is one that no row named.
  module _ (term : Term) (free : any_of (λ c. any_of (λ row. contains c (names row.term)) rows) (names term) ≡ false) where
    not_named : (i c : ℕ) → i < length rows → contains c (names (get_or rows i no_term_row).term) ≡ true → contains c (names term) ≡ true → ⊥
    not_named i c h e f =
        let some = any_at (λ row. contains c (names row.term)) rows i no_term_row h e in
        let none = none_of (λ c. any_of (λ row. contains c (names row.term)) rows) (names term) c free f in
        let z : ◌≡◌ {A = ℕ} 0 1 = cc (sym some ∙ none) in
        omega arith

    -- the new row beside any, and an old one beside any
    new_apart : (c : ℕ) → contains c (names term) ≡ true → (j : ℕ) → j < length (with_row rows term) → contains c (names (get_or (with_row rows term) j no_term_row).term) ≡ true → length rows ≡ j
    new_apart c e =
        each_appended (λ j row. contains c (names row.term) ≡ true → length rows ≡ j) rows (record { term = term }) no_term_row
        (λ j h f. absurd (not_named j c h f e))
        (λ f. refl)

    old_apart : (i c : ℕ) → i < length rows → contains c (names (get_or rows i no_term_row).term) ≡ true → (j : ℕ) → j < length (with_row rows term) → contains c (names (get_or (with_row rows term) j no_term_row).term) ≡ true → i ≡ j
    old_apart i c h e =
        each_appended (λ j row. contains c (names row.term) ≡ true → i ≡ j) rows (record { term = term }) no_term_row
        (λ j k f. apart i j c h k e f)
        (λ f. absurd (not_named i c h e f))

    apart_appended : Apart names (with_row rows term)
    apart_appended i j c h k e f =
        each_appended (λ i row. contains c (names row.term) ≡ true → i ≡ j) rows (record { term = term }) no_term_row
        (λ i h e. old_apart i c h e j k f)
        (λ e. new_apart c e j k f)
        i h e

-- No row is both children of the new one.
different : (l : List ℕ) (a b : ℕ) → not (twice l) ≡ true → l ≡ a ∷ b ∷ [] → a ≡ b → ⊥
different l a b h e same =
    let z : ◌≡◌ {A = ℕ} 0 1 = cc (h, eq-eqb a b same) in
    omega arith

module _ (m : Machine) (w : WellFormed m) where
  abbrev names : List (List ℕ)
  names = m.schemes.names

  abbrev word_count : ℕ
  word_count = words m.schemes

  type_entered : (i : ℕ) (form : TypeForm) → FormCodes names form → TypePassed m i form → WellFormed (record { schemes = m.schemes; types = m.types ++ (record { form = form } ∷ []); params = m.params; terms = m.terms })
  type_entered i form codes p =
      record {
        schemes_sound = w.schemes_sound;
        types_fit = simp length-append (omega (arith, p.room));
        params_fit = w.params_fit;
        terms_fit = w.terms_fit;
        types_stand = each_appended (λ t row. TypeStands word_count t row.form) m.types (record { form = form }) no_type_row w.types_stand (rw (← p.next) (type_stands names form i codes p.below));
        params_stand = λ q h. ((w.params_stand q h).0, simp length-append (omega (arith, (w.params_stand q h).1)), (w.params_stand q h).2);
        terms_stand = w.terms_stand;
        one_parent = w.one_parent;
        two_children = w.two_children;
        one_binder = w.one_binder;
      }

  param_entered : (param : Param) → ParamCodes names param → ParamPassed m param → WellFormed (record { schemes = m.schemes; types = m.types; params = m.params ++ (param ∷ []); terms = m.terms })
  param_entered param codes p =
      record {
        schemes_sound = w.schemes_sound;
        types_fit = w.types_fit;
        params_fit = simp length-append (omega (arith, p.room));
        terms_fit = w.terms_fit;
        types_stand = w.types_stand;
        params_stand = each_appended (λ q param. ParamStands word_count (length m.types) param) m.params param no_param w.params_stand (codes.0, p.declared, codes.1);
        terms_stand = λ i h. simp length-append (term_stands_more word_count (term_at m i) _ i (w.terms_stand i h));
        one_parent = w.one_parent;
        two_children = w.two_children;
        one_binder = w.one_binder;
      }

  term_entered : (i : ℕ) (term : Term) → TermCodes names term → TermPassed m i term → WellFormed (record { schemes = m.schemes; types = m.types; params = m.params; terms = m.terms ++ (record { term = term } ∷ []) })
  term_entered i term codes p =
      record {
        schemes_sound = w.schemes_sound;
        types_fit = w.types_fit;
        params_fit = w.params_fit;
        terms_fit = simp length-append (omega (arith, p.room));
        types_stand = w.types_stand;
        params_stand = w.params_stand;
        terms_stand = each_appended (λ j row. TermStands word_count (length m.params) j row.term) m.terms (record { term = term }) no_term_row w.terms_stand (rw (← p.next) (term_stands names term _ i codes p.declared p.below));
        one_parent = apart_appended children m.terms w.one_parent term (not-true _ (and_left _ _ p.free));
        two_children = λ j a b h. each_appended (λ j row. children row.term ≡ a ∷ b ∷ [] → a ≡ b → ⊥) m.terms (record { term = term }) no_term_row (λ j h. w.two_children j a b h) (different (children term) a b (and_right (not (any_of (used m.terms) (children term))) _ p.free)) j h;
        one_binder = apart_appended binds m.terms w.one_binder term (not-true _ p.unbound);
      }

  entered_well_formed : (line : Line) → LineCodes names line → WellFormed (entered m line).machine
  unfolding entered
  entered_well_formed (TypeLine i form) codes = settled_keeps WellFormed m _ _ w λ e. type_entered i form codes (type_passed m i form e)
  entered_well_formed (ParamLine p param) codes = settled_keeps WellFormed m _ _ w λ e. param_entered param codes (param_passed m p param e)
  entered_well_formed (TermLine i term) codes = settled_keeps WellFormed m _ _ w λ e. term_entered i term codes (term_passed m i term e)
  entered_well_formed NoForm codes = settled_keeps WellFormed m _ _ w (λ e. w)

  redeclared_stands : (p code : ℕ) → p < length m.params → code < word_count + 64 → (q : ℕ) → q < length m.params →
      ParamStands word_count (length m.types) (get_or (set m.params p (with_qualifier code (param_at m p))) q no_param)
  redeclared_stands p code h g q l = go (ℕ_discrete q p)
    where
      go : Dec (q ≡ p) → ParamStands word_count (length m.types) (get_or (set m.params p (with_qualifier code (param_at m p))) q no_param)
      go (yes e) = rw (e, get_or-set_same m.params p _ _ h) (g, (w.params_stand p h).1, (w.params_stand p h).2)
      go (no e) = rw (get_or-set_other m.params p q _ _ e) (w.params_stand q l)

  param_redeclared : (p code : ℕ) → p < length m.params → code < word_count + 64 → WellFormed (record { schemes = m.schemes; types = m.types; params = set m.params p (with_qualifier code (param_at m p)); terms = m.terms })
  param_redeclared p code h g =
      record {
        schemes_sound = w.schemes_sound;
        types_fit = w.types_fit;
        params_fit = simp length-set w.params_fit;
        terms_fit = w.terms_fit;
        types_stand = w.types_stand;
        params_stand = λ q l. redeclared_stands p code h g q (simp length-set at l);
        terms_stand = λ i l. simp length-set (w.terms_stand i l);
        one_parent = w.one_parent;
        two_children = w.two_children;
        one_binder = w.one_binder;
      }

  -- Fewer rows standing.
  rows_taken : (k : ℕ) → WellFormed (record { schemes = m.schemes; types = m.types; params = m.params; terms = take k m.terms })
  rows_taken k =
      record {
        schemes_sound = w.schemes_sound;
        types_fit = w.types_fit;
        params_fit = w.params_fit;
        terms_fit = simp length-take (omega (arith, w.terms_fit));
        types_stand = w.types_stand;
        params_stand = w.params_stand;
        terms_stand = λ i h. let at = taken m.terms k i no_term_row h in subst (λ (row : TermRow). TermStands word_count (length m.params) i row.term) (sym at.1) (w.terms_stand i at.0);
        one_parent = apart_taken children m.terms w.one_parent k;
        two_children = λ i a b h e. let at = taken m.terms k i no_term_row h in w.two_children i a b at.0 (ap (λ (row : TermRow). children row.term) (sym at.1) ∙ e);
        one_binder = apart_taken binds m.terms w.one_binder k;
      }

  pub answers_well_formed : {call : Call} {o : Outcome} {after : Machine} → Answers m call o after → WellFormed after
  unfolding added redeclared taken_back
  answers_well_formed (adds {line}) = entered_well_formed (line_of names line) (line_codes names line)
  answers_well_formed (redeclares {p} {code}) =
      settled_keeps WellFormed m _ _ w λ e.
      let five = passed 5 (ltb p (length m.params)) _ (omega arith) e in
      param_redeclared p code (ltb-true p _ five.0) (ltb-true code (word_count + 64) (passed 12 (ltb code (word_count + 64)) [] (omega arith) five.1).0)
  answers_well_formed takes_back = settled_keeps WellFormed m _ _ w (λ e. rows_taken (length m.terms - 1))
  answers_well_formed (infers i) = w
