-- The state before any term row.
use Prim.Native.Nat.{ℕ, ◌+◌, ◌-◌, ◌<◌, ◌≤◌}
use native.Mathlib.Omega.{arith}
use mathlib.Core.Bool.{Bool, true, false, cond}
use mathlib.Core.List.{List}
use mathlib.Core.Logic.{◌⊎◌, inl, inr}
use mathlib.Core.Path.{◌≡◌, refl, sym, ap, subst, subst₂, ◌∙◌}
use lib.Dec.{ltb}
use lib.ListN.{length}
use borrow.Author.Tests.{lt-ltb, ltb-true}
use Rattle.layout.specs.Kinds.{int_kind, arrow_kind}
use Rattle.layout.specs.Layout.{nodes, descriptors, row_type, row_qualifier}
use Rattle.scheme.specs.Schemes.{words}
use Rattle.scheme.specs.Rule.{words_at, top_at, under, Lattice}
use Rattle.model.specs.Machine.{Machine, type_at, param_at}
use Rattle.model.specs.WellFormed.{WellFormed, TypeStands}
use Rattle.model.specs.Typing.{Ty, int, TypeAgrees}
use Rattle.model.specs.Inference.{ruling, Refusal}
use Rattle.model.specs.declared.TypeForm.{TypeForm}
use Rattle.model.specs.declared.TypeForm.TheVariants.{Int, Any, Arrow}
use Rattle.forest.specs.Forest.{up, Linked, Found}
use Rattle.forest.proofs.Roots.{found_same}
use Rattle.graph.specs.Types.{kind_at, arrow_of, TypeClasses, Reads, types_of}
use Rattle.graph.specs.Unused.{Within as WithinNodes, Unused}
use Rattle.qualifiers.specs.Classes.{Qualifiers, bound_at, Classes, Bounded, Within, Untouched, Imposed, qualifiers_of}
use Rattle.qualifiers.proofs.Readings.{some_reading}
use Rattle.occurs.proofs.Readings.{by_less, reads_arrow}
use Rattle.readings.specs.Nodes.{assignment, free, Meets, Plain}
use Rattle.readings.specs.Standing.{PlainAt, Stands, argument, result, param, row}
use Rattle.scheme.proofs.Schemes.{sound_few}
use Rattle.readings.proofs.Rows.{meaning_node, meets_fewer, plain_fewer}
use Rattle.readings.proofs.Lines.{first_row_typable}
use Rattle.readings.proofs.Standing.{plain_stands}
use Rattle.readings.proofs.Strengths.{none_unordered}
use Rattle.pending.specs.Pending.{Pending, pair_qualifier, pair_type, line_pairs, AllPlain, ArrowsPlain, Marked, Watched, SamePair, QualifiersBelow, Swept}
use Rattle.rows.specs.Steps.{Ready}
use Rattle.setup.specs.Descriptors.{Described}
use Rattle.setup.specs.Started.{form_kind, start_kind, Started}
use Rattle.solver.specs.State.{After}
use Rattle.solver.specs.Runs.{Governed, Begun}
use Rattle.solver.proofs.Functions.{arrow_not_int, plain_by_class}
use Rattle.solver.proofs.Ready.{refusal_first}
use Rattle.solver.proofs.Stops.{rule_lattice, of_words, fails_apart}

-- By which of two cases holds.
either : {A B G : Type 0} → A ⊎ B → (A → G) → (B → G) → G
either (inl a) f g = f a
either (inr b) f g = g b

-- The start has the ruling's greatest qualifier as every bound.
pub begun_at : {R kids u k p b : List ℕ} {m : Machine} {top : ℕ} → top ≡ top_at R → Described m kids → Started m top (types_of u k) (qualifiers_of p b) → Begun R m kids (types_of u k) (qualifiers_of p b)
begun_at {u = u} {k} {p} {b} {m} e described started =
    record { described = described; started = subst (λ (top : ℕ). Started m top (types_of u k) (qualifiers_of p b)) e started }

-- The pairs of the lines T and P, but those of INT.
pub record LinePairs (m : Machine) (k : List ℕ) (P : Pending) : Type 0 where
  pub few : P.count ≤ line_pairs
  pub nodes : (j : ℕ) → j < P.count → (pair_qualifier P j < row_qualifier 0) × (pair_type P j < row_type 0)
  pub sound : (j : ℕ) → j < P.count → Stands m 0 (pair_qualifier P j) (pair_type P j)
  pub complete : (q x : ℕ) → Stands m 0 q x → ((j : ℕ) × (j < P.count) × (pair_qualifier P j ≡ q) × (pair_type P j ≡ x)) ⊎ (kind_at k x ≡ int_kind)

module _ {R : List ℕ} {m : Machine} (gov : Governed R m) {kids u k p b : List ℕ} (described : Described m kids) (started : Started m (top_at R) (types_of u k) (qualifiers_of p b)) where
  wf : WellFormed m
  wf = gov.is_well_formed

  lat : Lattice R
  lat = rule_lattice gov

  -- A node with a kind is a type row's.
  pub row_kind_lem : (x : ℕ) → x < nodes → 1 ≤ kind_at k x → (x < length m.types) × (kind_at k x ≡ form_kind x (type_at m x))
  row_kind_lem x h positive = go (ltb x (length m.types)) refl
    where
      go : (t : Bool) → ltb x (length m.types) ≡ t → (x < length m.types) × (kind_at k x ≡ form_kind x (type_at m x))
      go true e = (ltb-true _ _ e, started.kinds x h ∙ rw e)
      go false e = let none : kind_at k x ≡ 0 = started.kinds x h ∙ rw e in absurd (omega arith)

  linked : {A : Type 0} (l : List ℕ) (v : ℕ → A) → ((x : ℕ) → x < nodes → up l x ≡ x) → Linked l v
  linked l v self x h = ap v (sym (self x h))

  -- One form's agreement, as its kind says it.
  agrees_kind : (t : ℕ → Ty ℕ) (v : ℕ → ℕ) (x : ℕ) (form : TypeForm) → x < length m.types → type_at m x ≡ form → TypeAgrees (free m v) (assignment m t v) form (t x) →
      (form_kind x form ≡ 1 → t x ≡ int) × (2 ≤ form_kind x form → t x ≡ arrow_of kids t v (form_kind x form - 2))
  agrees_kind t v x Int h is e = (λ one. e, λ two. absurd (omega arith))
  agrees_kind t v x Any h is e = (λ one. absurd (omega arith), λ two. absurd (omega arith))
  agrees_kind t v x (Arrow q a q' c) h is e =
      let parts = described.types x h q a q' c is in
      let same : x + 2 - 2 ≡ x = omega arith in (
        λ one. absurd (omega arith),
        λ two. rw same (cc (e, meaning_node m t v q, meaning_node m t v q', parts.has_argument_qualifier, parts.argument, parts.has_result_qualifier, parts.result)),
      )

  kind_agrees : (t : ℕ → Ty ℕ) (v : ℕ → ℕ) (x : ℕ) (form : TypeForm) → x < length m.types → type_at m x ≡ form →
      (form_kind x form ≡ 1 → t x ≡ int) → (2 ≤ form_kind x form → t x ≡ arrow_of kids t v (form_kind x form - 2)) → TypeAgrees (free m v) (assignment m t v) form (t x)
  kind_agrees t v x Int h is one two = one refl
  kind_agrees t v x Any h is one two = tt
  kind_agrees t v x (Arrow q a q' c) h is one two =
      let parts = described.types x h q a q' c is in
      let same : x + 2 - 2 ≡ x = omega arith in
      let e = rw same at (two (omega arith)) in
      cc (e, meaning_node m t v q, meaning_node m t v q', parts.has_argument_qualifier, parts.argument, parts.has_result_qualifier, parts.result)

  -- An arrow of a line names nodes below the first of the term rows'.
  arrow_within : (x : ℕ) (form : TypeForm) → x < length m.types → type_at m x ≡ form → 2 ≤ form_kind x form → WithinNodes 64 kids (form_kind x form - 2)
  arrow_within x Int h is many = absurd (omega arith)
  arrow_within x Any h is many = absurd (omega arith)
  arrow_within x (Arrow q a q' c) h is many =
      let parts = described.types x h q a q' c is in
      let stands = subst (TypeStands (words m.schemes) x) is (wf.types_stand x h) in
      let same : x + 2 - 2 ≡ x = omega arith in
      let few = wf.types_fit in
      let words-few = sound_few wf.schemes_sound in
      rw same
      record {
        own = omega arith;
        argument_node = omega (arith, parts.argument, stands.1);
        result_node = omega (arith, parts.result, stands.3);
        has_argument_qualifier = omega (arith, parts.has_argument_qualifier, stands.0);
        has_result_qualifier = omega (arith, parts.has_result_qualifier, stands.2);
      }

  pub classes_start : Classes R (qualifiers_of p b)
  classes_start =
      record {
        lattice = lat;
        forest = record { size = started.sizes.2; low = λ x h. omega (arith, started.qualifier_roots x h) };
        size = started.sizes.3;
        constants = λ c h. started.qualifier_roots c (omega (arith, lat.few));
        codes = λ x h. omega (arith, started.bounds x h, lat.top_code);
        sinks = λ x h. rw (started.qualifier_roots x h) (lat.reflexive _ (omega (arith, started.bounds x h, lat.top_code)));
      }

  kinds_below : (x : ℕ) (form : TypeForm) → x < 64 → form_kind x form < arrow_kind descriptors
  kinds_below x Int h = omega arith
  kinds_below x Any h = omega arith
  kinds_below x (Arrow q a q' c) h = omega arith

  start_below : (x : ℕ) → start_kind m x < arrow_kind descriptors
  start_below x = go (ltb x (length m.types)) refl
    where
      go : (t : Bool) → ltb x (length m.types) ≡ t → cond t (form_kind x (type_at m x)) 0 < arrow_kind descriptors
      go true e = kinds_below x (type_at m x) (omega (arith, ltb-true x (length m.types) e, wf.types_fit))
      go false e = omega arith

  line_node : (q x : ℕ) → Stands m 0 q x → x < nodes
  line_node q x (argument {t = d} h is) = let st = subst (TypeStands (words m.schemes) d) is (wf.types_stand d h) in omega (arith, st.1, wf.types_fit)
  line_node q x (result {t = d} h is) = let st = subst (TypeStands (words m.schemes) d) is (wf.types_stand d h) in omega (arith, st.3, wf.types_fit)
  line_node q x (param {p = j} h) = omega (arith, (wf.params_stand j h).1, wf.types_fit)
  line_node q x (row below h) = let z : ⊥ = omega arith in absurd z

  pub types_start : TypeClasses (types_of u k)
  types_start =
      record {
        forest = record { size = started.sizes.0; low = λ x h. omega (arith, started.type_roots x h) };
        size = started.sizes.1;
        bare = λ x h n. absurd (n (started.type_roots x h));
        kinds = λ x h. rw (started.kinds x h) (start_below x);
      }

  -- No term row has touched its nodes.
  types_unused : Unused 64 (types_of u k) kids
  types_unused =
      record {
        own = λ x from h. started.type_roots x h;
        unknown = λ x from h. by_less 0 (kind_at k x) (λ known. absurd (omega (arith, (row_kind_lem x h known).0, wf.types_fit))) (λ none. omega arith);
        arrows = λ x h many. let at = row_kind_lem x h (omega arith) in rw at.1 (arrow_within x (type_at m x) at.0 refl (rw at.1 at many));
      }

  qualifiers_untouched : Untouched R 73 (qualifiers_of p b)
  qualifiers_untouched = record { own = λ x from h. started.qualifier_roots x h; unbound = λ x from h. started.bounds x h }

  top_bounded : (v : ℕ → ℕ) → ((x : ℕ) → x < nodes → v x < words_at R) → Bounded R b v
  top_bounded v codes x h = rw (started.bounds x h) (lat.top_greatest (v x) (codes x h))

  -- What the lines T and P ask.
  lines_read : (t : ℕ → Ty ℕ) (v : ℕ → ℕ) → Meets m 0 t v → Reads (types_of u k) kids t v
  lines_read t v meets =
      record {
        linked = linked u t started.type_roots;
        ints = λ x h e.
            let at = row_kind_lem x h (omega arith) in
            (agrees_kind t v x (type_at m x) at.0 refl (meets.types_agree x at.0)).0 (sym at.1 ∙ e);
        arrows = λ x h e.
            let at = row_kind_lem x h (omega arith) in
            rw at.1 ((agrees_kind t v x (type_at m x) at.0 refl (meets.types_agree x at.0)).1 (rw at.1 at e));
      }

  lines_met : (t : ℕ → Ty ℕ) (v : ℕ → ℕ) → Reads (types_of u k) kids t v → Meets m 0 t v
  lines_met t v reads =
      record {
        types_agree = λ x h.
            let low : x < nodes = omega (arith, wf.types_fit) in
            let same : kind_at k x ≡ form_kind x (type_at m x) = started.kinds x low ∙ rw (lt-ltb _ _ h) in
            kind_agrees t v x (type_at m x) h refl (λ e. reads.ints x low (same ∙ e)) (λ e. rw same at (reads.arrows x low (rw same e)));
        params_agree = λ q h. (sym (meaning_node m t v (param_at m q).qualifier), refl);
        rows_meet = λ i below h. let z : ⊥ = omega arith in absurd z;
      }

  module _ {P : Pending} (lines : LinePairs m k P) where
    -- In a reading whose functions are PLAIN the pairs of arrows are.
    arrows_plain : (t : ℕ → Ty ℕ) (v : ℕ → ℕ) → Meets m 0 t v → Plain m 0 t v → ArrowsPlain (types_of u k) P v
    arrows_plain t v meets plain j r h class =
        let reads = lines_read t v meets in
        plain_stands m wf meets plain (lines.sound j h) _ _ _ _ (reads_arrow reads (omega (arith, lines.nodes j h)) class.found class.arrow)

    -- A scheme stands with an ARROW row: the lines alone have no typing, and row 0 is the least.
    pub lines_refused : {Q' : Qualifiers} → 0 < length m.terms → Imposed R (qualifiers_of p b) Q' (ArrowsPlain (types_of u k) P) (QualifiersBelow P) false → Refusal (ruling m) m 22 0
    lines_refused some apart =
        let none =
        none_unordered m wf 1
        (λ t v constant meets plain.
        let lines_meet = meets_fewer m t v 0 1 (omega arith) meets in
        apart.clash refl v (of_words gov v constant) (linked p v started.qualifier_roots) (arrows_plain t v lines_meet (plain_fewer m t v 0 1 (omega arith) plain))) in
        refusal_first m 22 some (fails_apart m 1 (first_row_typable m wf some) none)

    module _ {p' b' : List ℕ} {P' : Pending} (swept : Swept R (types_of u k) (qualifiers_of p b) (qualifiers_of p' b') P P') where
      -- What is still pending is unknown.
      watched : Watched 0 (types_of u k) (qualifiers_of p' b') P'
      watched =
          record {
            held =
                record {
                  few = omega (arith, swept.fewer, lines.few);
                  marks = swept.marks;
                  qualifier_nodes = λ j h. let at = swept.from j h in omega (arith, at.1.qualifier, lines.nodes at.0 at.1.in_list);
                  type_nodes = λ j h. let at = swept.from j h in omega (arith, at.1.type, lines.nodes at.0 at.1.in_list);
                };
            plain = λ v link j r h class.
                let at = swept.unknown j h in
                let same : r ≡ at.0 = found_same class.found at.1.found in
                let kind : kind_at k r ≡ 0 = ap (kind_at k) same ∙ at.1.unknown in
                absurd (omega (arith, class.arrow));
            marked = λ j r h class.
                let at = swept.unknown j h in
                subst (Marked P' j) (found_same at.1.found class.found) at.2;
          }

      -- Every bound is the greatest qualifier, also where classes were joined.
      within : Within R b'
      within c h =
          let qs = some_reading swept.imposed.classes in
          let bounded = swept.imposed.bounds_into refl qs.0 qs.1 (top_bounded qs.0 qs.3) in
          subst (λ (x : ℕ). under R x (bound_at b' c) ≡ true) (qs.2 c h) (bounded c (omega (arith, lat.few)))

      pub start_ready : Ready R 0 kids (types_of u k) (qualifiers_of p' b') P'
      start_ready =
          record {
            types = types_unused;
            qualifiers = swept.imposed.stays 73 (omega arith, λ j h. omega (arith, lines.nodes j h)) qualifiers_untouched;
            within = within;
            watched = watched;
          }

      -- The pairs that are not pending any more are PLAIN in every reading.
      gathered_plain : (t : ℕ → Ty ℕ) (v : ℕ → ℕ) → Reads (types_of u k) kids t v → Linked p' v → AllPlain P' t v → AllPlain P t v
      gathered_plain t v reads link plain j h = go (swept.kept j h)
        where
          go : ((i : ℕ) × (i < P'.count) × SamePair P' i P j) ⊎ ((r : ℕ) × Found u (pair_type P j) r × ¬ (kind_at k r ≡ 0)) → PlainAt t v (pair_qualifier P j) (pair_type P j)
          go (inl (i, below, same)) = λ a s r w is. ap v (sym same.qualifier) ∙ plain i below a s r w (ap t same.type ∙ is)
          go (inr (r, found, known)) =
              plain_by_class types_start reads (pair_qualifier P j) (pair_type P j) (omega (arith, lines.nodes j h))
              (λ y class. absurd (known (ap (kind_at k) (found_same found class.found) ∙ class.unknown)))
              (λ y class. (swept.imposed.outof refl v link).1 j y h class)

      pub start_after : After R m kids (types_of u k) (qualifiers_of p' b') P' 0
      start_after =
          record {
            types = types_start;
            classes = swept.imposed.classes;
            written = described.written;
            reads = lines_read;
            links = λ t v meets plain. swept.imposed.into refl v (linked p v started.qualifier_roots) (arrows_plain t v meets plain);
            outof = λ t v reads link. lines_met t v reads;
            bounds_into = λ v coded link fits. swept.imposed.bounds_into refl v link (top_bounded v (λ x h. omega (arith, coded x h, gov.ruled.words_same)));
            bounds_outof = λ v link bounded i below h. let z : ⊥ = omega arith in absurd z;
            sound = λ j h. let at = swept.from j h in subst₂ (Stands m 0) (sym at.1.qualifier) (sym at.1.type) (lines.sound at.0 at.1.in_list);
            covers = λ t v reads link plain q x stands.
                let all = gathered_plain t v reads link plain in
                either (lines.complete q x stands)
                (λ listed. λ a s r w is. ap v (sym listed.2) ∙ all listed.0 listed.1 a s r w (ap t listed.3 ∙ is))
                (λ one. λ a s r w is. absurd (arrow_not_int (sym is ∙ reads.ints x (line_node q x stands) one)));
          }
