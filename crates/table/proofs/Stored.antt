-- What each call leaves, as the machine's change.
use Prim.Native.Nat.{ℕ, ◌+◌, ◌-◌, ◌≤◌, ◌<◌}
use native.Mathlib.Numerals.{add-one}
use native.Mathlib.Omega.{arith}
use mathlib.Core.Bool.{Bool}
use mathlib.Core.List.{List, [], ◌∷◌, ◌++◌}
use mathlib.Core.Path.{◌≡◌, refl, sym, ◌∙◌}
use lib.Dec.{eqb, ltb}
use lib.ListN.{length, take, set, get_or, length-take}
use lib.Seq.{take-suc-set, take-set-lt, take-take, get_or-take}
use borrow.Author.Tests.{ne_eqb, lt-ltb, le-ltb, eqb-true, ltb-true}
use Rattle.scheme.specs.Schemes.{words}
use Rattle.model.specs.Machine.{Machine, Change, no_param, with_qualifier, settled, first_failing, type_refusal, param_refusal, term_refusal, entered, redeclared, taken_back}
use Rattle.model.specs.declared.TypeForm.{TypeForm}
use Rattle.model.specs.declared.Param.{Param}
use Rattle.model.specs.declared.Term.{Term}
use Rattle.model.specs.declared.Line.{Line}
use Rattle.model.specs.declared.Line.TheVariants.{TypeLine, ParamLine, TermLine, NoForm}
use Rattle.model.proofs.Checks.{passed}
use Rattle.checks.specs.Refused.{refusal_number}
use Rattle.checks.specs.declared.refusal.Refusal.{Refusal}
use Rattle.checks.proofs.Refusals.{refusal_some}
use Rattle.table.specs.Lists.{lists, change}
use Rattle.table.specs.Stored.{HasRoom, with_types, with_params, with_terms, stored}
use Rattle.table.proofs.Counts.{Owned, types_whole, params_whole, terms_whole}
use Rattle.table.specs.declared.Table.{Table}
use Rattle.table.specs.declared.Answered.{Answered}

-- An accepted call's answer.
abbrev pub accepting : Table → Answered
accepting t = record { table = t; number = 0 }

-- A refused call leaves the table as it was.
pub refused : (t : Table) (n k : ℕ) (after : Machine) → n ≡ k → (n ≡ 0 → ⊥) → change (record { table = t; number = n }) ≡ settled (lists t) k after
unfolding settled
refused t n k after e h = simp (← e, ne_eqb n 0 h)

-- What is said of an answer is said of the one that a call makes of its parts.
pub returned : (r known : Answered) (t : Table) (c : Change) → r ≡ known → (change known ≡ c) × (known.table.schemes ≡ t.schemes) → (change r ≡ c) × (r.table.schemes ≡ t.schemes)
returned r known t c e said = rw e said

-- An accepted one leaves what its definition says.
accepted : (m after : Machine) (k : ℕ) → k ≡ 0 → record { number = 0; machine = after } ≡ settled m k after
unfolding settled
accepted m after k e = simp e

-- An add that is accepted is of the next number, and finds room.
room : (own n limit : ℕ) (rest : List (ℕ × Bool)) → first_failing ((2, eqb own n) ∷ (3, ltb n limit) ∷ rest) ≡ 0 → (own ≡ n) × (own < limit)
room own n limit rest e =
    let first = passed 2 (eqb own n) ((3, ltb n limit) ∷ rest) (omega arith) e in
    let second = passed 3 (ltb n limit) rest (omega arith) first.1 in
    let same : own ≡ n = eqb-true own n first.0 in
    (same, omega (arith, ltb-true n limit second.0))

-- The entry that is stored behind those standing is appended.
pub appended : {A : Type 0} (l : List A) (count own limit : ℕ) (a : A) → length l ≡ limit → own ≡ length (take count l) → own < limit → take (own + 1) (set l own a) ≡ take count l ++ (a ∷ [])
appended l count own limit a whole e h =
    let same : own ≡ count = omega (arith, simp length-take at e) in
    let within : own < length l = omega arith in
    rw (add-one, take-suc-set l own a within, same)

-- The arrays have their lengths.
pub record Whole (t : Table) : Type 0 where
  pub type_rows : length t.types ≡ 64
  pub parameters : length t.params ≡ 64
  pub term_rows : length t.terms ≡ 256

pub owned_whole : (t : Table) → Owned t → Whole t
owned_whole t owned = record { type_rows = types_whole t owned; parameters = params_whole t owned; term_rows = terms_whole t owned }

-- The number of a term row that is accepted is the next, and has room.
pub term_room : (m : Machine) (own : ℕ) (term : Term) → term_refusal m own term ≡ 0 → (own ≡ length m.terms) × (own < 256)
unfolding term_refusal
term_room m own term e = room own _ 256 _ e

pub fits_accepted : (m : Machine) (line : Line) → (entered m line).number ≡ 0 → HasRoom line
unfolding entered settled type_refusal param_refusal
fits_accepted m (TypeLine own form) e = (room own _ 64 _ e).1
fits_accepted m (ParamLine own param) e = (room own _ 64 _ e).1
fits_accepted m (TermLine own term) e = (term_room m own term e).1
fits_accepted m NoForm e = tt

-- The entry of a line that is accepted is appended to its list.
pub entry_stored : (t : Table) → Whole t → (line : Line) → (entered (lists t) line).number ≡ 0 → change (accepting (stored t line)) ≡ entered (lists t) line
unfolding entered settled type_refusal param_refusal lists
entry_stored t whole (TypeLine own form) e =
    let (next, fits) = room own _ 64 _ e in
    rw (appended t.types t.typecount own 64 (record { form = form }) whole.type_rows next fits) (accepted _ _ _ e)
entry_stored t whole (ParamLine own param) e =
    let (next, fits) = room own _ 64 _ e in
    rw (appended t.params t.paramcount own 64 param whole.parameters next fits) (accepted _ _ _ e)
entry_stored t whole (TermLine own term) e =
    let (next, fits) = term_room (lists t) own term e in
    rw (appended t.terms t.termcount own 256 (record { term = term }) whole.term_rows next fits) (accepted _ _ _ e)
entry_stored t whole NoForm e = absurd (omega (arith, e))

-- The same of one list, where its own array alone has its length.
module _ (t : Table) (own number : ℕ) (holds : number ≡ 0) where
  module _ (form : TypeForm) (is : number ≡ type_refusal (lists t) own form) where
    pub type_stored : length t.types ≡ 64 →
        change (accepting (with_types t (set t.types own (record { form = form })) (own + 1))) ≡ entered (lists t) (TypeLine own form)
    unfolding entered type_refusal lists
    type_stored whole =
        let (next, fits) = room own _ 64 _ (sym is ∙ holds) in
        rw (appended t.types t.typecount own 64 (record { form = form }) whole next fits) (accepted _ _ _ (sym is ∙ holds))

  module _ (param : Param) (is : number ≡ param_refusal (lists t) own param) where
    pub param_room : (own ≡ length (lists t).params) × (own < 64)
    unfolding param_refusal
    param_room = room own _ 64 _ (sym is ∙ holds)

    pub param_stored : length t.params ≡ 64 →
        change (accepting (with_params t (set t.params own param) (own + 1))) ≡ entered (lists t) (ParamLine own param)
    unfolding entered lists
    param_stored whole =
        rw (appended t.params t.paramcount own 64 param whole param_room.0 param_room.1)
        (accepted _ _ _ (sym is ∙ holds))

  module _ (term : Term) (is : number ≡ term_refusal (lists t) own term) where
    pub term_stored : length t.terms ≡ 256 →
        change (accepting (with_terms t (set t.terms own (record { term = term })) (own + 1))) ≡ entered (lists t) (TermLine own term)
    unfolding entered lists
    term_stored whole =
        let (next, fits) = term_room (lists t) own term (sym is ∙ holds) in
        rw (appended t.terms t.termcount own 256 (record { term = term }) whole next fits) (accepted _ _ _ (sym is ∙ holds))

pub schemes_stored : (t : Table) (line : Line) → (stored t line).schemes ≡ t.schemes
schemes_stored t (TypeLine own form) = refl
schemes_stored t (ParamLine own param) = refl
schemes_stored t (TermLine own term) = refl
schemes_stored t NoForm = refl

-- The entry of a line that is refused leaves the table.
pub entry_refused : (t : Table) (line : Line) (refusal : Refusal) → refusal_number refusal ≡ (entered (lists t) line).number → change (record { table = t; number = refusal_number refusal }) ≡ entered (lists t) line
unfolding entered settled
entry_refused t (TypeLine own form) refusal e = refused t _ (type_refusal (lists t) own form) _ e (refusal_some refusal)
entry_refused t (ParamLine own param) refusal e = refused t _ (param_refusal (lists t) own param) _ e (refusal_some refusal)
entry_refused t (TermLine own term) refusal e = refused t _ (term_refusal (lists t) own term) _ e (refusal_some refusal)
entry_refused t NoForm refusal e = refused t _ 1 (lists t) e (refusal_some refusal)

module _ (t : Table) (p code n : ℕ) (count : n ≡ length (lists t).params) where
  pub not_declared : n ≤ p → change (record { table = t; number = 5 }) ≡ redeclared (lists t) p code
  unfolding redeclared first_failing
  not_declared h = refused t 5 _ _ (simp (← count, le-ltb p n h)) (λ e. omega arith)

  module _ (w : ℕ) (counted : w ≡ words (lists t).schemes) (h : p < n) where
    pub code_past : w + 64 ≤ code → change (record { table = t; number = 12 }) ≡ redeclared (lists t) p code
    unfolding redeclared first_failing
    code_past g = refused t 12 _ _ (simp (← count, lt-ltb p n h, ← counted, le-ltb code (w + 64) g)) (λ e. omega arith)

    redeclare_passes : code < w + 64 → first_failing ((5, ltb p (length (lists t).params)) ∷ (12, ltb code (words (lists t).schemes + 64)) ∷ []) ≡ 0
    unfolding first_failing
    redeclare_passes g = simp (← count, lt-ltb p n h, ← counted, lt-ltb code (w + 64) g)

    pub redeclare_stored : code < w + 64 →
        change (accepting (with_params t (set t.params p (with_qualifier code (get_or t.params p no_param))) t.paramcount)) ≡ redeclared (lists t) p code
    unfolding redeclared lists
    redeclare_stored g =
        let below : p < t.paramcount = omega (arith, simp length-take at count) in
        simp (take-set-lt, get_or-take) (accepted _ _ _ (redeclare_passes g))

module _ (t : Table) (n : ℕ) (count : n ≡ length (lists t).terms) where
  pub no_term : n ≡ 0 → change (record { table = t; number = 9 }) ≡ taken_back (lists t)
  unfolding taken_back first_failing
  no_term e = refused t 9 _ _ (simp (← count, e)) (λ z. omega arith)

  take_back_passes : (n ≡ 0 → ⊥) → first_failing ((9, ltb 0 n) ∷ []) ≡ 0
  unfolding first_failing
  take_back_passes h = let some : 0 < n = omega arith in simp (lt-ltb 0 n some)

  pub term_dropped : (n ≡ 0 → ⊥) →
      change (accepting (with_terms t t.terms (n - 1))) ≡ taken_back (lists t)
  unfolding taken_back lists
  term_dropped h =
      let below : n - 1 ≤ t.termcount = omega (arith, simp length-take at count) in
      simp (← count, take-take) (accepted _ _ _ (take_back_passes h))
