-- The arrays of a well-formed machine are ready for a run.
use Prim.Native.Nat.{ℕ, ◌<◌, ◌≤◌}
use native.Mathlib.Omega.{arith}
use native.Mathlib.Decide.{dec_lt}
use mathlib.Core.List.{List}
use mathlib.Core.Path.{◌≡◌, sym, ap, subst, subst₂}
use lib.ListN.{length, get_or, take, length-take, get_or-eq_default}
use lib.Seq.{get_or-take}
use Rattle.layout.specs.Layout.{row_type, row_qualifier}
use Rattle.scheme.specs.Schemes.{SchemeTable, words}
use Rattle.model.specs.Machine.{Machine, no_param, no_term_row, param_at, term_at, term_in}
use Rattle.model.specs.WellFormed.{WellFormed, TermStands}
use Rattle.model.specs.Typing.{Typable}
use Rattle.model.specs.Strength.{whole}
use Rattle.model.specs.Inference.{ruling, Refusal}
use Rattle.model.proofs.Fewer.{typable_fewer}
use Rattle.model.specs.declared.Program.{Program}
use Rattle.model.specs.declared.Param.{Param}
use Rattle.model.specs.declared.Term.{Term}
use Rattle.model.specs.declared.Term.TheVariants.{Lam, App, Op, Var, Num, Enc}
use Rattle.model.specs.declared.TermRow.{TermRow}
use Rattle.readings.specs.Nodes.{parameter_of, node_named}
use Rattle.scheme.proofs.Schemes.{sound_few}
use Rattle.readings.specs.Programs.{Counted, machine_of}
use Rattle.setup.specs.Descriptors.{named_qualifier, named_typerow}
use Rattle.setup.specs.Passes.{ParamsNoted, KindsNoted}
use Rattle.setup.proofs.Descriptors.{names_place}
use Rattle.rows.specs.Rows.{RowStands}
use Rattle.solver.specs.Runs.{Governed, Fails, RowOf, Held}

-- The arrays hold the machines of the program.
pub held_of : (R : List ℕ) (T : SchemeTable) (program : Program) {kinds q ty : List ℕ} → Governed R (machine_of T program) → length program.types ≡ 64 → length program.params ≡ 64 → length program.terms ≡ 256 →
    Counted program → 0 < program.termcount → KindsNoted (take program.typecount program.types) kinds → ParamsNoted (take program.paramcount program.params) q ty →
    Held R (machine_of T program) kinds q ty program.terms program.typecount program.paramcount program.termcount
held_of R T program gov typesize paramsize termsize few some kinds noted =
    let types : length (take program.typecount program.types) ≡ program.typecount = rw (length-take program.typecount program.types) (omega (arith, few.types)) in
    let params : length (take program.paramcount program.params) ≡ program.paramcount = rw (length-take program.paramcount program.params) (omega (arith, few.params)) in
    let rows : length (take program.termcount program.terms) ≡ program.termcount = rw (length-take program.termcount program.terms) (omega (arith, few.terms)) in
    record {
      lines =
          record {
            governed = gov;
            noted = noted;
            types = types;
            params = params;
            some = rw rows some;
          };
      noted = kinds;
      rows = rows;
      same_term = λ i below. ap (λ (row : TermRow). row.term) (get_or-take program.termcount program.terms i no_term_row below);
    }

-- Row i of the machine that the arrays hold, in a run over so many rows.
pub row_of : {R kinds q ty : List ℕ} {m : Machine} {terms : List TermRow} {typecount paramcount termcount rows : ℕ} (i : ℕ) → Held R m kinds q ty terms typecount paramcount termcount → i < rows → rows ≤ termcount → RowOf R m q ty i (term_in terms i)
row_of i held below most =
    record {
      governed = held.lines.governed;
      noted = held.lines.noted;
      in_list = omega (arith, held.rows);
      same_term = held.same_term i (omega arith);
    }

-- Fewer parameters stand than there are places, and there are no more words than nodes for them.
stands_weaker : (w n i : ℕ) (term : Term) → w ≤ 9 → n ≤ 64 → TermStands w n i term → TermStands 9 64 i term
stands_weaker w n i (Lam p b) few h st = (omega (arith, st.0), st.1)
stands_weaker w n i (App f a) few h st = st
stands_weaker w n i (Op o l r) few h st = st
stands_weaker w n i (Var p) few h st = omega arith
stands_weaker w n i (Num x) few h st = tt
stands_weaker w n i (Enc s x) few h st = (st.0, omega (arith, st.1))

module _ {m : Machine} (wf : WellFormed m) where
  -- A parameter's nodes are nodes, also past the end of the list.
  param_nodes : (p : ℕ) → ((param_at m p).qualifier < row_qualifier 0) × ((param_at m p).typerow < row_type 0)
  param_nodes p = go (dec_lt p (length m.params))
    where
      go : Dec (p < length m.params) → ((param_at m p).qualifier < row_qualifier 0) × ((param_at m p).typerow < row_type 0)
      go (yes h) = (omega (arith, (wf.params_stand p h).0, sound_few wf.schemes_sound), omega (arith, (wf.params_stand p h).1, wf.types_fit))
      go (no n) =
          let none = get_or-eq_default m.params no_param {n = p} (omega arith) in
          (omega (arith, ap (λ (d : Param). d.qualifier) none), omega (arith, ap (λ (d : Param). d.typerow) none))

  row_stands : (i : ℕ) → i < length m.terms → RowStands i (term_at m i) (named_qualifier m i) (named_typerow m i)
  row_stands i h =
      record {
        in_list = omega (arith, wf.terms_fit);
        stands = stands_weaker (words m.schemes) (length m.params) i (term_at m i) (sound_few wf.schemes_sound) wf.params_fit (wf.terms_stand i h);
        is_qualifier_node = (param_nodes (parameter_of (term_at m i))).0;
        type_node = (param_nodes (parameter_of (term_at m i))).1;
      }

pub row_ready : {R q ty : List ℕ} {m : Machine} {i : ℕ} {term : Term} → RowOf R m q ty i term → RowStands i term (node_named q term) (node_named ty term)
row_ready {q = q} {ty} {m} {i} row =
    let own = row_stands row.governed.is_well_formed i row.in_list in
    let place = names_place 9 64 i (term_at m i) (omega arith) own.stands in
    subst (λ (t : Term). RowStands i t (node_named q t) (node_named ty t)) row.same_term
    (subst₂ (RowStands i (term_at m i)) (sym (row.noted.qualifier (parameter_of (term_at m i)) place)) (sym (row.noted.typerow (parameter_of (term_at m i)) place)) own)

-- The places of the parameters that there are hold nodes.
pub param_places : {m : Machine} → WellFormed m → {q ty : List ℕ} → ParamsNoted m.params q ty → (count : ℕ) → count ≤ 64 → (p : ℕ) → p < count → (get_or q p 0 < row_qualifier 0) × (get_or ty p 0 < row_type 0)
param_places wf noted count few p h =
    let nodes = param_nodes wf p in
    (omega (arith, noted.qualifier p (omega arith), nodes.0), omega (arith, noted.typerow p (omega arith), nodes.1))

-- The rows before a failing one are typable, so it is the least.
pub refusal_of_lem : (m : Machine) (number row : ℕ) → row < length m.terms → Fails m number row → Typable (whole (ruling m)) m row → Refusal (ruling m) m number row
refusal_of_lem m number row in_list fails some =
    record {
      in_list = in_list;
      before = λ j below. typable_fewer (omega arith) some;
      none = fails.0;
      cause = fails.1;
    }

-- Before row 0 there is none.
pub refusal_first : (m : Machine) (number : ℕ) → 0 < length m.terms → Fails m number 0 → Refusal (ruling m) m number 0
refusal_first m number in_list fails =
    record {
      in_list = in_list;
      before = λ j below. let z : ⊥ = omega arith in absurd z;
      none = fails.0;
      cause = fails.1;
    }
