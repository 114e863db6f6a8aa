-- What a row's verdict and the tests at the end say of the typings of document 01.
use Prim.Native.Nat.{ℕ, ◌+◌, ◌<◌, ◌≤◌}
use native.Mathlib.Omega.{arith}
use mathlib.Core.List.{List}
use mathlib.Core.Path.{refl}
use lib.ListN.{length}
use Rattle.layout.specs.Readings.{Constant}
use Rattle.layout.specs.Layout.{nodes, row_type}
use Rattle.scheme.specs.Schemes.{words}
use Rattle.scheme.specs.Rule.{words_at, Lattice}
use Rattle.scheme.proofs.Rule.{lattice}
use Rattle.model.specs.Machine.{Machine}
use Rattle.model.specs.Typing.{Ty, int, Typable}
use Rattle.model.specs.Strength.{whole, unordered, erased}
use Rattle.model.specs.Inference.{ruling, Cause, shapes, qualifiers, bounds}
use Rattle.model.proofs.Weaker.{weaker_rules, whole_unordered, unordered_erased}
use Rattle.graph.specs.Types.{Types, Parts, Reads, Clashes, Intact}
use Rattle.graph.specs.Search.{Finite}
use Rattle.graph.specs.Unused.{Unused}
use Rattle.qualifiers.specs.Classes.{Qualifiers, Bounded, Within}
use Rattle.qualifiers.proofs.Readings.{some_reading, greatest_reading}
use Rattle.occurs.proofs.Existence.{reading}
use Rattle.occurs.proofs.Readings.{finite_of_reading}
use Rattle.readings.proofs.Rows.{meets_fewer, meets_last, meets_more, plain_fewer}
use Rattle.pending.specs.Pending.{Pending, Watched}
use Rattle.readings.proofs.Strengths.{none_erased, none_unordered, none_whole, some_erased, some_unordered, some_whole}
use Rattle.rows.specs.Steps.{Extended, Parted, Ready, PlainBefore}
use Rattle.solver.specs.State.{After}
use Rattle.solver.specs.Runs.{Governed}
use Rattle.solver.proofs.Functions.{plain_before, plain_ints}
use Rattle.solver.proofs.Progress.{Row}

-- The ruling of a well-formed machine is lawful.
pub rule_lattice : {R : List ℕ} {m : Machine} → Governed R m → Lattice R
rule_lattice gov = lattice gov.is_well_formed.schemes_sound gov.ruled

-- The ruling has as many words as the machine's table.
module _ {R : List ℕ} {m : Machine} (gov : Governed R m) (v : ℕ → ℕ) where
  pub to_words : Constant (words_at R) v → Constant (words m.schemes) v
  to_words constant c h = constant c (omega (arith, gov.ruled.words_same))

  pub of_words : Constant (words m.schemes) v → Constant (words_at R) v
  of_words constant c h = constant c (omega (arith, gov.ruled.words_same))

-- No typing at one strength, none at the stronger ones.
module _ (m : Machine) (n : ℕ) where
  pub fails_shapes : ¬ Typable (erased (ruling m)) m n → ¬ Typable (whole (ruling m)) m n × Cause (ruling m) m n 21
  fails_shapes none = (λ some. none (weaker_rules (unordered_erased (ruling m)) (weaker_rules (whole_unordered (ruling m)) some)), shapes none)

  pub fails_apart : Typable (erased (ruling m)) m n → ¬ Typable (unordered (ruling m)) m n → ¬ Typable (whole (ruling m)) m n × Cause (ruling m) m n 22
  fails_apart some none = (λ typing. none (weaker_rules (whole_unordered (ruling m)) typing), qualifiers some none)

  pub fails_bounds : Typable (unordered (ruling m)) m n → ¬ Typable (whole (ruling m)) m n → ¬ Typable (whole (ruling m)) m n × Cause (ruling m) m n 23
  fails_bounds some none = (none, bounds some)

-- Every type is finite.
abbrev pub AllFinite : Types → List ℕ → Type 0
AllFinite T kids = (x : ℕ) → x < nodes → Finite T kids x

module _ {R : List ℕ} {m : Machine} (gov : Governed R m) {kids : List ℕ} {T : Types} {Q : Qualifiers} {P : Pending} where
  module _ {n : ℕ} (after : After R m kids T Q P n) where
    -- A state that has no reading leaves no typing at all.
    pub cyclic : ((t : ℕ → Ty ℕ) (v : ℕ → ℕ) → Reads T kids t v → ⊥) → ¬ Typable (erased (ruling m)) m n
    cyclic none = none_erased m gov.is_well_formed n (λ t v meets. none t v (after.reads t v meets))

    -- A broken bound leaves no typing.
    pub broken_whole : ((v : ℕ → ℕ) → Constant (words_at R) v → Bounded R Q.bounds v → ⊥) → ¬ Typable (whole (ruling m)) m n
    broken_whole none =
        none_whole m gov.is_well_formed n R gov.ruled
        (λ t v constant coded meets plain fits. none v (of_words gov v constant) (after.bounds_into v coded (after.links t v meets plain) fits))

    module _ (parts : Parts kids) (unused : Unused (row_type n) T kids) (watched : Watched n T Q P) (few : n ≤ 256) where
      -- Where every type is finite, leaving out the bounds leaves a typing.
      pub finite_unordered : AllFinite T kids → Typable (unordered (ruling m)) m n
      finite_unordered all =
          let qs = some_reading after.classes in
          let ts = reading qs.0 (λ r. int) after.types parts all in
          some_unordered m gov.is_well_formed n ts.0 qs.0 (to_words gov qs.0 qs.2) (after.outof ts.0 qs.0 ts.1 qs.1)
          (plain_ints gov.is_well_formed after unused parts watched few ts.1 qs.1 ts.2)

      -- Where every type is finite and no bound is broken there is a typing.
      pub finite_whole : AllFinite T kids → Within R Q.bounds → Typable (whole (ruling m)) m n
      finite_whole all within =
          let qs = greatest_reading after.classes within in
          let g = qs.1 in
          let ts = reading qs.0 (λ r. int) after.types parts all in
          some_whole m gov.is_well_formed n R gov.ruled ts.0 qs.0 (to_words gov qs.0 g.constant) (after.outof ts.0 qs.0 ts.1 g.linked)
          (plain_ints gov.is_well_formed after unused parts watched few ts.1 g.linked ts.2)
          (after.bounds_outof qs.0 g.linked g.bounded)

    -- A state that has a reading has only finite types.
    pub read_whole : Parts kids → Ready R n kids T Q P → n ≤ 256 → {t : ℕ → Ty ℕ} {v : ℕ → ℕ} → Reads T kids t v → Typable (whole (ruling m)) m n
    read_whole parts ready few reads = finite_whole parts ready.types ready.watched few (finite_of_reading reads after.types parts) ready.within

  module _ {i : ℕ} (in_list : i < length m.terms) (after : After R m kids T Q P i) where
    -- The row's types clash.
    pub clash_row : Clashes kids T (Row m i) → ¬ Typable (erased (ruling m)) m (i + 1)
    clash_row none =
        none_erased m gov.is_well_formed (i + 1)
        (λ t v meets. none t v (after.reads t v (meets_fewer m t v i (i + 1) (omega arith) meets)) (meets_last m t v i in_list meets))

    module _ {T' : Types} (apart : Parted R kids T Q.parents T' (PlainBefore P i) (Row m i)) where
      -- Two constants meet at the row.
      pub apart_row : ¬ Typable (unordered (ruling m)) m (i + 1)
      apart_row =
          none_unordered m gov.is_well_formed (i + 1)
          (λ t v constant meets plain.
          let fewer = meets_fewer m t v i (i + 1) (omega arith) meets in
          let functions = plain_fewer m t v i (i + 1) (omega arith) plain in
          apart.none t v (of_words gov v constant) (after.reads t v fewer) (after.links t v fewer functions)
          (plain_before gov.is_well_formed after t v (omega arith) fewer functions) (meets_last m t v i in_list meets))

      pub apart_cyclic : ((t : ℕ → Ty ℕ) (v : ℕ → ℕ) → Reads T' kids t v → ⊥) → ¬ Typable (erased (ruling m)) m (i + 1)
      apart_cyclic none =
          clash_row (λ t v reads holds. none t v (apart.shapes t v reads holds))

      pub apart_finite : Parts kids → AllFinite T' kids → Typable (erased (ruling m)) m (i + 1)
      apart_finite parts all =
          let ts = reading {Q = ℕ} (λ x. 0) (λ r. int) apart.types parts all in
          let before = apart.erased ts.0 ts.1 in
          some_erased m gov.is_well_formed (i + 1) ts.0 (meets_more m ts.0 (λ x. 0) i (after.outof ts.0 (λ x. 0) before.0 (λ x h. refl)) before.1)

-- A reading with one qualifier for all.
abbrev pub Readable : Types → List ℕ → Type 0
Readable T kids = (t : ℕ → Ty ℕ) × Reads T kids t (λ x. 0)

-- Where every type after a row is finite there is such a reading of the types before it.
module _ {kids : List ℕ} {T T' : Types} (parts : Parts kids) (all : AllFinite T' kids) where
  pub clash_before : Intact kids T T' → Readable T kids
  clash_before intact =
      let ts = reading {Q = ℕ} (λ x. 0) (λ r. int) intact.classes parts all in
      (ts.0, intact.outof ts.0 ts.1)

  pub apart_before : {R p : List ℕ} {G E : (ℕ → Ty ℕ) → (ℕ → ℕ) → Type 0} → Parted R kids T p T' G E → Readable T kids
  apart_before apart =
      let ts = reading {Q = ℕ} (λ x. 0) (λ r. int) apart.types parts all in
      (ts.0, (apart.erased ts.0 ts.1).0)

  pub broken_before : {R : List ℕ} {Q Q' : Qualifiers} {G E : (ℕ → Ty ℕ) → (ℕ → ℕ) → Type 0} {F : (ℕ → ℕ) → Type 0} → Extended R kids T Q T' Q' G E F → Readable T kids
  broken_before next =
      let ts = reading {Q = ℕ} (λ x. 0) (λ r. int) next.types parts all in
      (ts.0, (next.outof ts.0 (λ x. 0) ts.1 (λ x h. refl)).0)
