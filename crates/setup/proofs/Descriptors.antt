-- The descriptors of the rows, one row after the other.
use Prim.Native.Nat.{ℕ, ◌+◌, ◌<◌, ◌≤◌}
use native.Mathlib.Omega.{arith}
use native.Mathlib.Decide.{dec_lt}
use mathlib.Core.Bool.{false≢true}
use mathlib.Core.List.{List}
use mathlib.Core.Path.{◌≡◌, refl, sym, ap, subst, ◌∙◌}
use lib.ListN.{length, get_or, take, length-take}
use lib.Seq.{get_or-take}
use borrow.Author.Count.{below_more}
use Rattle.layout.specs.Layout.{row_type, descriptors}
use Rattle.model.specs.Machine.{Machine, no_type_row, type_at, param_at, term_at, form_in}
use Rattle.scheme.specs.Schemes.{words}
use Rattle.scheme.proofs.Schemes.{sound_few}
use Rattle.model.specs.WellFormed.{WellFormed, TypeStands, TermStands}
use Rattle.model.specs.declared.TypeForm.{TypeForm}
use Rattle.model.specs.declared.TypeForm.TheVariants.{Int, Any, Arrow}
use Rattle.model.specs.declared.TypeRow.{TypeRow}
use Rattle.model.specs.declared.Term.{Term}
use Rattle.model.specs.declared.Term.TheVariants.{Lam, App, Op, Var, Num, Enc}
use Rattle.forest.proofs.Links.{by_eq}
use Rattle.graph.specs.Types.{part_at, Parts}
use Rattle.readings.specs.Nodes.{parameter_of}
use Rattle.setup.specs.Descriptors.{HasParts, Describes, named_qualifier, named_typerow, Written, Described}
use Rattle.setup.specs.Passes.{DescribesForm, HasNodes, FormsStand, Only, FormsDescribed, FormsKept, FormLeft, FormsLeft, RowLeft}

-- Where every place holds 0, no descriptor was written.
pub zero_blank : {kids : List ℕ} → ((j : ℕ) → get_or kids j 0 ≡ 0) → (d : ℕ) → HasParts kids d 0 0 0 0
zero_blank zero d =
    record {
      has_argument_qualifier = zero _;
      argument = zero _;
      has_result_qualifier = zero _;
      result = zero _;
    }

-- What is said of a descriptor holds as long as its parts stay.
abbrev Same : ℕ → List ℕ → List ℕ → Type 0
Same d kids kids' = (j : ℕ) → j < 4 → part_at kids' d j ≡ part_at kids d j

parts_kept : {kids kids' : List ℕ} {d aq at rq rt : ℕ} → Same d kids kids' → HasParts kids d aq at rq rt → HasParts kids' d aq at rq rt
parts_kept same has =
    record {
      has_argument_qualifier = same 0 (omega arith) ∙ has.has_argument_qualifier;
      argument = same 1 (omega arith) ∙ has.argument;
      has_result_qualifier = same 2 (omega arith) ∙ has.has_result_qualifier;
      result = same 3 (omega arith) ∙ has.result;
    }

written_kept : {m : Machine} {kids kids' : List ℕ} {d : ℕ} → Same d kids kids' → Written m kids d → Written m kids' d
written_kept same (Written.blank has) = Written.blank (parts_kept same has)
written_kept same (Written.form below is has) = Written.form below is (parts_kept same has)
written_kept same (Written.abstraction row below is has) = Written.abstraction row below is (parts_kept same has)
written_kept same (Written.application row below is has) = Written.application row below is (parts_kept same has)

form_kept : (kids kids' : List ℕ) (x : ℕ) (form : TypeForm) → Same x kids kids' → DescribesForm kids x form → DescribesForm kids' x form
form_kept kids kids' x Int same d = tt
form_kept kids kids' x Any same d = tt
form_kept kids kids' x (Arrow q a q' b) same d = parts_kept same d

-- One more row.
pub forms_more : (types : List TypeRow) (kids kids' : List ℕ) (x : ℕ) → Only x kids kids' → DescribesForm kids' x (form_in types x) →
    FormsDescribed types x kids → FormsDescribed types (x + 1) kids'
forms_more types kids kids' x only here earlier =
    below_more _ x (λ k h. form_kept kids kids' k (form_in types k) (λ j. only.others k j (λ e. omega arith)) (earlier k h)) here

-- A form that is no ARROW has changed nothing.
form_left : (kids kids' : List ℕ) (form : TypeForm) → FormLeft form kids kids' → ((q a q' b : ℕ) → form ≡ Arrow q a q' b → ⊥) → (d : ℕ) → Same d kids kids'
form_left kids kids' Int left none = left
form_left kids kids' Any left none = left
form_left kids kids' (Arrow q a q' b) left none = absurd (none q a q' b refl)

-- One more row leaves the descriptors alone where it is no ARROW, and everywhere but at its own place.
pub forms_left_more : (types : List TypeRow) (kids₀ kids kids' : List ℕ) (x : ℕ) → Only x kids kids' → FormLeft (form_in types x) kids kids' →
    FormsLeft types x kids₀ kids → FormsLeft types (x + 1) kids₀ kids'
forms_left_more types kids₀ kids kids' x only here earlier d j h none =
    by_eq d x
    (λ e. form_left kids kids' (form_in types x) here (λ q a q' b is. none q a q' b (omega arith) (rw e is)) d j h)
    (λ other. only.others d j other h)
    ∙ earlier d j h (λ q a q' b below. none q a q' b (omega arith))

pub forms_kept_none : (kids : List ℕ) → FormsKept kids kids
forms_kept_none kids x j below h = refl

pub forms_kept_more : (kids kids' kids'' : List ℕ) (i : ℕ) → FormsKept kids kids' → Only (row_type i) kids' kids'' → FormsKept kids kids''
forms_kept_more kids kids' kids'' i kept only x j below h = only.others x j (λ e. omega arith) h ∙ kept x j below h

-- What makes the parts of a row's descriptor nodes, from what the row asks.
pub has_nodes : (i : ℕ) (term : Term) (q ty : ℕ) → TermStands 9 64 i term → q < 73 → ty < 64 → HasNodes i term q ty
has_nodes i (Lam p b) q ty stands hq ht = (stands.0, stands.1, hq, ht)
has_nodes i (App f a) q ty stands hq ht = stands
has_nodes i (Op o l r) q ty stands hq ht = tt
has_nodes i (Var p) q ty stands hq ht = tt
has_nodes i (Num n) q ty stands hq ht = tt
has_nodes i (Enc s n) q ty stands hq ht = tt

-- The parameter that a row names has a place, and so has 0, where it names none.
pub names_place : (w count i : ℕ) (term : Term) → count ≤ 64 → TermStands w count i term → parameter_of term < 64
names_place w count i (Lam p b) few stands = omega (arith, stands.0)
names_place w count i (App f a) few stands = omega arith
names_place w count i (Op o l r) few stands = omega arith
names_place w count i (Var p) few stands = omega arith
names_place w count i (Num n) few stands = omega arith
names_place w count i (Enc s n) few stands = omega arith

-- Codes of fewer words are codes of nine.
stands_nine : (w x : ℕ) (form : TypeForm) → w ≤ 9 → TypeStands w x form → TypeStands 9 x form
stands_nine w x Int few st = tt
stands_nine w x Any few st = tt
stands_nine w x (Arrow q t q' t') few st = (omega (arith, st.0), st.1, omega (arith, st.2), st.3)

-- The first type rows of a well-formed machine, in the array that holds them.
module _ (m : Machine) (types : List TypeRow) (count : ℕ) (wf : WellFormed m) (same : m.types ≡ take count types) (size : length types ≡ 64) (few : count ≤ 64) where
  pub type_count : length m.types ≡ count
  type_count = ap length same ∙ rw length-take (omega arith)

  pub form_same : (x : ℕ) → x < count → type_at m x ≡ form_in types x
  form_same x h = ap (λ (rows : List TypeRow). form_in rows x) same ∙ ap (λ (row : TypeRow). row.form) (get_or-take count types x no_type_row h)

  pub forms_stand : FormsStand types count
  forms_stand x h = subst (TypeStands 9 x) (form_same x h) (stands_nine (words m.schemes) x (type_at m x) (sound_few wf.schemes_sound) (wf.types_stand x (omega (arith, type_count))))

  -- A descriptor is an ARROW row's, or blank as it was.
  module _ (kids₀ kids : List ℕ) (blank : (d : ℕ) → d < descriptors → HasParts kids₀ d 0 0 0 0) (forms : FormsDescribed types count kids) (left : FormsLeft types count kids₀ kids) where
    written_forms : (d : ℕ) → d < descriptors → Written m kids d
    written_forms d h = go (dec_lt d count) (form_in types d) refl
      where
        still : ((q a q' b : ℕ) → d < count → form_in types d ≡ Arrow q a q' b → ⊥) → Written m kids d
        still none = Written.blank (parts_kept (λ j below. left d j below none) (blank d h))

        go : Dec (d < count) → (form : TypeForm) → form_in types d ≡ form → Written m kids d
        go (yes below) Int is = still (λ q a q' b l arrow. false≢true cc)
        go (yes below) Any is = still (λ q a q' b l arrow. false≢true cc)
        go (yes below) (Arrow q a q' b) is =
            Written.form (omega (arith, type_count)) (form_same d below ∙ is) (subst (DescribesForm kids d) is (forms d below))
        go (no above) form is = still (λ q a q' b below arrow. above below)

  pub described : (kids₀ kids : List ℕ) → ((d : ℕ) → d < descriptors → HasParts kids₀ d 0 0 0 0) → Parts kids → FormsDescribed types count kids →
      FormsLeft types count kids₀ kids → Described m kids
  described kids₀ kids blank parts forms left =
      record {
        parts = parts;
        written = written_forms kids₀ kids blank forms left;
        types = λ x h q a q' b e.
            let below : x < count = omega (arith, type_count) in
            subst (DescribesForm kids x) (sym (form_same x below) ∙ e) (forms x below);
      }

-- Where no descriptor of a type row has changed, all of them are still the machine's.
pub described_kept : (m : Machine) (kids kids' : List ℕ) → length m.types ≤ 64 → Described m kids → Parts kids' → FormsKept kids kids' →
    ((d : ℕ) → d < descriptors → Written m kids' d) → Described m kids'
described_kept m kids kids' few before parts kept written =
    record {
      parts = parts;
      written = written;
      types = λ x h q a q' b e. parts_kept (λ j. kept x j (omega arith)) (before.types x h q a q' b e);
    }

-- A row writes no descriptor but its own, which is then the row's, and only where it is a LAM or an APP.
pub written_row : (m : Machine) (kids kids' : List ℕ) (i : ℕ) → i < length m.terms → Only (row_type i) kids kids' →
    Describes kids' i (term_at m i) (named_qualifier m i) (named_typerow m i) → RowLeft (term_at m i) kids kids' →
    ((d : ℕ) → d < descriptors → Written m kids d) → (d : ℕ) → d < descriptors → Written m kids' d
written_row m kids kids' i below only describes left before d h =
    by_eq d (row_type i) (λ e. own (term_at m i) refl describes left e) (λ other. written_kept (λ j. only.others d j other) (before d h))
  where
    own : (term : Term) → term_at m i ≡ term → Describes kids' i term (param_at m (parameter_of term)).qualifier (param_at m (parameter_of term)).typerow →
        RowLeft term kids kids' → d ≡ row_type i → Written m kids' d
    own (Lam p b) is has left e = rw e (Written.abstraction refl below is has)
    own (App f a) is has left e = rw e (Written.application refl below is has)
    own (Op o l r) is has left e = written_kept (left d) (before d h)
    own (Var p) is has left e = written_kept (left d) (before d h)
    own (Num n) is has left e = written_kept (left d) (before d h)
    own (Enc s n) is has left e = written_kept (left d) (before d h)
