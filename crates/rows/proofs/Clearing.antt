-- The pending pairs are looked through: those that are left are watched, and those that are not are PLAIN.
use Prim.Native.Nat.{ℕ, ◌+◌, ◌<◌, ◌≤◌}
use native.Mathlib.Omega.{arith}
use mathlib.Core.Bool.{true}
use mathlib.Core.List.{List}
use mathlib.Core.Logic.{◌⊎◌, inl, inr, ⊎_elim}
use mathlib.Core.Path.{◌≡◌, refl, sym, ap, subst, ◌∙◌}
use lib.ListN.{get_or}
use Rattle.scheme.specs.Rule.{words_at}
use Rattle.layout.specs.Layout.{nodes, row_type, row_qualifier, qualifiers_from, pending_places}
use Rattle.layout.specs.Kinds as Kinds
use Rattle.layout.specs.Readings.{Constant}
use Rattle.model.specs.Typing.{Ty}
use Rattle.forest.specs.Forest.{up, Linked, Found}
use Rattle.forest.specs.Pairs.{PairsIn, Noted, notes_of}
use Rattle.forest.proofs.Links.{by_eq, root_reaches}
use Rattle.forest.proofs.Roots.{found_same}
use Rattle.graph.specs.Types.{Types, types_of, kind_at, Reads, Equation}
use Rattle.graph.specs.Steady.{ArrowClass, UnknownClass}
use Rattle.qualifiers.specs.Classes.{Qualifiers, Classes, Bounded, Untouched, Imposed}
use Rattle.qualifiers.proofs.Uniting.{imposed_none}
use Rattle.readings.specs.Standing.{PlainAt}
use Rattle.occurs.proofs.Readings.{by_less, reads_int, reads_arrow}
use Rattle.pending.specs.Pending.{Pending, pending_of, pair_qualifier, pair_type, AllPlain, ArrowsPlain, Marked, Held, Watched, SamePair, Swept}
use Rattle.rows.specs.Steps.{Extended, Parted, Carried, PartsPlain, PlainAtRow}
use Rattle.rows.proofs.Watching.{remarked}

-- The pairs are of nodes.
pub held_pairs : {P : Pending} {i : ℕ} → i ≤ 256 → Held i P → PairsIn pending_places P.pairs P.count
held_pairs few held =
    record {
      fits = omega (arith, held.few);
      left_node = λ j h. omega (arith, held.qualifier_nodes j h);
      right_node = λ j h. omega (arith, held.type_nodes j h);
    }

-- What is left: the readings with PLAIN functions, as G says, are those of before. The pairs that are left are pairs of before, and watched; the others
-- are PLAIN.
pub record Cleared (R : List ℕ) (n : ℕ) (kids : List ℕ) (T : Types) (Q Q' : Qualifiers) (P P' : Pending) (G : Equation) : Type 0 where
  pub classes : Classes R Q'
  pub links : (t : ℕ → Ty ℕ) (v : ℕ → ℕ) → Reads T kids t v → Linked Q.parents v → G t v → Linked Q'.parents v
  pub linked : (v : ℕ → ℕ) → Linked Q'.parents v → Linked Q.parents v
  pub bounds_into : (v : ℕ → ℕ) → Linked Q'.parents v → Bounded R Q.bounds v → Bounded R Q'.bounds v
  pub bounds_outof : (v : ℕ → ℕ) → Linked Q'.parents v → Bounded R Q'.bounds v → Bounded R Q.bounds v
  pub untouched : Untouched R (row_qualifier n) Q → Untouched R (row_qualifier n) Q'
  pub watched : Watched n T Q' P'
  pub from : (j : ℕ) → j < P'.count → (k : ℕ) × SamePair P' j P k
  pub kept : (t : ℕ → Ty ℕ) (v : ℕ → ℕ) → Reads T kids t v → Linked Q'.parents v → AllPlain P' t v → AllPlain P t v

-- By what was imposed on the qualifiers.
pub cleared_imposed : {R kids : List ℕ} {n : ℕ} {T : Types} {Q Q' : Qualifiers} {P P' : Pending} {G : Equation} {H : (ℕ → ℕ) → Type 0} {Below : ℕ → Type 0} → Imposed R Q Q' H Below true → Below (row_qualifier n) →
    ((t : ℕ → Ty ℕ) (v : ℕ → ℕ) → Reads T kids t v → G t v → H v) → Watched n T Q' P' → ((j : ℕ) → j < P'.count → (k : ℕ) × SamePair P' j P k) →
    ((t : ℕ → Ty ℕ) (v : ℕ → ℕ) → Reads T kids t v → Linked Q'.parents v → AllPlain P' t v → AllPlain P t v) → Cleared R n kids T Q Q' P P' G
cleared_imposed {n = n} imposed below asks watched from kept =
    record {
      classes = imposed.classes;
      links = λ t v reads linked plain. imposed.into refl v linked (asks t v reads plain);
      linked = λ v linked. (imposed.outof refl v linked).0;
      bounds_into = imposed.bounds_into refl;
      bounds_outof = imposed.bounds_outof refl;
      untouched = imposed.stays (row_qualifier n) below;
      watched = watched;
      from = from;
      kept = kept;
    }

-- All pairs are left, and nothing may be imposed.
pub cleared_same : {R kids : List ℕ} {n : ℕ} {T : Types} {Q Q' : Qualifiers} {P : Pending} {G : Equation} {H : (ℕ → ℕ) → Type 0} {Below : ℕ → Type 0} → Imposed R Q Q' H Below true → Below (row_qualifier n) →
    ((t : ℕ → Ty ℕ) (v : ℕ → ℕ) → Reads T kids t v → G t v → H v) → Watched n T Q' P → Cleared R n kids T Q Q' P P G
cleared_same imposed below asks watched =
    cleared_imposed imposed below asks watched (λ j h. (j, record { in_list = h; qualifier = refl; type = refl })) (λ t v reads linked plain. plain)

pub cleared_none : {R kids : List ℕ} {n : ℕ} {T : Types} {Q : Qualifiers} {P : Pending} {G : Equation} → Classes R Q → Watched n T Q P → Cleared R n kids T Q Q P P G
cleared_none classes watched = cleared_same {H = λ v. Unit {0}} {Below = λ m. Unit {0}} (imposed_none classes (λ v. tt)) tt (λ t v reads plain. tt) watched

-- A pair whose class is an arrow has one in every reading.
pub arrows_plain : {kids u k : List ℕ} {t : ℕ → Ty ℕ} {v : ℕ → ℕ} {n : ℕ} {P : Pending} → n ≤ 256 → Held n P → Reads (types_of u k) kids t v → AllPlain P t v → ArrowsPlain (types_of u k) P v
arrows_plain few held reads plain j r h class = plain j h _ _ _ _ (reads_arrow reads (omega (arith, held.type_nodes j h)) class.found class.arrow)

-- INT is no arrow.
int_plain : {kids u k : List ℕ} {t : ℕ → Ty ℕ} {v : ℕ → ℕ} {q x r : ℕ} → Reads (types_of u k) kids t v → x < nodes → Found u x r → kind_at k r ≡ 1 → PlainAt t v q x
int_plain reads node found one a s r u e = let z : ◌≡◌ {A = ℕ} 0 1 = cc (reads_int reads node found one, e) in absurd (omega arith)

module _ {R u k : List ℕ} {Q Q' : Qualifiers} {P P' : Pending} {n : ℕ} (few : n ≤ 256) (held : Held n P) (swept : Swept R (types_of u k) Q Q' P P') where
  swept_watched : Watched n (types_of u k) Q' P'
  swept_watched =
      record {
        held = record {
          few = omega (arith, held.few, swept.fewer);
          marks = swept.marks;
          qualifier_nodes = λ j h. let pair = swept.from j h in omega (arith, held.qualifier_nodes pair.0 pair.1.in_list, pair.1.qualifier);
          type_nodes = λ j h. let pair = swept.from j h in omega (arith, held.type_nodes pair.0 pair.1.in_list, pair.1.type);
        };
        plain = λ v linked j r h class.
            let own = swept.unknown j h in
            absurd (omega (arith, class.arrow, own.1.unknown, ap (kind_at k) (found_same class.found own.1.found)));
        marked = λ j r h class. let own = swept.unknown j h in subst (Marked P' j) (found_same own.1.found class.found) own.2;
      }

  swept_kept : {kids : List ℕ} (t : ℕ → Ty ℕ) (v : ℕ → ℕ) → Reads (types_of u k) kids t v → Linked Q'.parents v → AllPlain P' t v → AllPlain P t v
  swept_kept t v reads linked plain j h =
      ⊎_elim
      (λ left. let pair = left.2 in λ a s r u e. ap v (sym pair.qualifier) ∙ plain left.0 left.1 a s r u (ap t pair.type ∙ e))
      (λ known.
      let r = known.0 in
      let found = known.1 in
      by_less (kind_at k r) 2
      (λ less. let one : kind_at k r ≡ 1 = omega (arith, known.2) in int_plain reads (omega (arith, held.type_nodes j h)) found one)
      (λ two a s q u e. (swept.imposed.outof refl v linked).1 j r h record { found = found; arrow = two }))
      (swept.kept j h)

  pub cleared_swept : {kids : List ℕ} {G : Equation} → ((t : ℕ → Ty ℕ) (v : ℕ → ℕ) → G t v → AllPlain P t v) → Cleared R n kids (types_of u k) Q Q' P P' G
  cleared_swept asks =
      cleared_imposed swept.imposed (omega arith, held.qualifier_nodes) (λ t v reads plain. arrows_plain few held reads (asks t v plain)) swept_watched swept.from swept_kept

module _ {R kids : List ℕ} {T T' : Types} {Q Q₁ : Qualifiers} {G E : Equation} {F : (ℕ → ℕ) → Type 0} (extended : Extended R kids T Q T' Q₁ G E F) where
  -- The row's types and qualifiers were taken in, and then the pairs looked through.
  pub extended_cleared : {Q' : Qualifiers} {P P' : Pending} {n : ℕ} → Cleared R n kids T' Q₁ Q' P P' G → Extended R kids T Q T' Q' G E F
  extended_cleared cleared =
      record {
        types = extended.types;
        classes = cleared.classes;
        reads = extended.reads;
        links = λ t v reads linked plain e. cleared.links t v (extended.reads t v reads e) (extended.links t v reads linked plain e) plain;
        outof = λ t v reads linked. extended.outof t v reads (cleared.linked v linked);
        linked = λ v linked. extended.linked v (cleared.linked v linked);
        bounds_into = λ v linked bounded fits. cleared.bounds_into v linked (extended.bounds_into v (cleared.linked v linked) bounded fits);
        bounds_outof = λ v linked bounded. extended.bounds_outof v (cleared.linked v linked) (cleared.bounds_outof v linked bounded);
      }

  -- Or a constant that is not PLAIN stands with an arrow.
  pub parted_cleared : ((t : ℕ → Ty ℕ) (v : ℕ → ℕ) → Constant (words_at R) v → Reads T' kids t v → Linked Q₁.parents v → G t v → ⊥) → Parted R kids T Q.parents T' G E
  parted_cleared none =
      record {
        types = extended.types;
        none = λ t v constant reads linked plain e. none t v constant (extended.reads t v reads e) (extended.links t v reads linked plain e) plain;
        shapes = extended.reads;
        erased = λ t reads. let before = extended.outof t (λ x. 0) reads (λ x h. refl) in (before.0, before.2);
      }

-- The pairs that are left are all. Before the look there may have been other marks.
pub carried_cleared : {R kids crowded₁ : List ℕ} {i m : ℕ} {T T' : Types} {Q Q' : Qualifiers} {P P' : Pending} {G O : Equation} → Cleared R m kids T' Q Q' (remarked P crowded₁) P' G →
    ((t : ℕ → Ty ℕ) (v : ℕ → ℕ) → Reads T' kids t v → Linked Q'.parents v → PartsPlain T kids t v → AllPlain P' t v → O t v) → Carried i kids T T' Q' P P' O
carried_cleared cleared own =
    record {
      from = λ j h. let pair = cleared.from j h in inl (pair.0, record { in_list = pair.1.in_list; qualifier = pair.1.qualifier; type = pair.1.type });
      kept = cleared.kept;
      own = own;
    }

-- What holds of every pair, and of a pair that is noted behind them.
module _ {left right left' right' : List ℕ} {n x y n' : ℕ} (noted : Noted (notes_of left right) (notes_of left' right') n x y n') (D : ℕ → ℕ → Type 0) where
  each_after : ((j : ℕ) → j < n → D (get_or left j 0) (get_or right j 0)) → D x y → (j : ℕ) → j < n' → D (get_or left' j 0) (get_or right' j 0)
  each_after old new j h =
      by_eq j n
      (λ e. rw (e, noted.newest.0, noted.newest.1) new)
      (λ other. let below : j < n = omega (arith, noted.next) in rw ((noted.earlier j below).0, (noted.earlier j below).1) (old j below))

  each_before : ((j : ℕ) → j < n' → D (get_or left' j 0) (get_or right' j 0)) → ((j : ℕ) → j < n → D (get_or left j 0) (get_or right j 0)) × D x y
  each_before all = (
    (λ j h. rw (sym (noted.earlier j h).0, sym (noted.earlier j h).1) (all j (omega (arith, noted.next)))),
    rw (sym noted.newest.0, sym noted.newest.1) (all n (omega (arith, noted.next))),
  )

-- The pair of row i, whose type is unknown yet, is noted behind those that are left.
module _ {R kids u k left right left' right' crowded : List ℕ} {Q Q' : Qualifiers} {P : Pending} {G : Equation} {i n n' : ℕ} (cleared : Cleared R i kids (types_of u k) Q Q' P (pending_of left right crowded n) G)
    (noted : Noted (notes_of left right) (notes_of left' right') n (row_qualifier i) (row_type i) n') (own : up u (row_type i) ≡ row_type i) (unknown : kind_at k (row_type i) ≡ Kinds.unknown) where
  own_root : {r : ℕ} → Found u (row_type i) r → r ≡ row_type i
  own_root found = root_reaches own found.reached

  pub watched_noted : Watched (i + 1) (types_of u k) Q' (pending_of left' right' crowded n')
  watched_noted =
      let watched = cleared.watched in
      record {
        held = record {
          few = omega (arith, watched.held.few, noted.next);
          marks = watched.held.marks;
          qualifier_nodes = each_after noted (λ q x. q < row_qualifier (i + 1)) (λ j h. omega (arith, watched.held.qualifier_nodes j h)) (omega arith);
          type_nodes = each_after noted (λ q x. x < row_type (i + 1)) (λ j h. omega (arith, watched.held.type_nodes j h)) (omega arith);
        };
        plain = λ v linked j r h.
            each_after noted (λ q x. (r : ℕ) → ArrowClass (types_of u k) x r → v q ≡ v 0)
            (λ j h r. watched.plain v linked j r h)
            (λ r class. absurd (omega (arith, class.arrow, ap (kind_at k) (own_root class.found))))
            j h r;
        marked = λ j r h.
            each_after noted (λ q x. (r : ℕ) → UnknownClass (types_of u k) x r → (0 < get_or crowded r 0) ⊎ ((row_type 0 ≤ r) × (x ≡ r) × (q ≡ qualifiers_from r)))
            (λ j h r. watched.marked j r h)
            (λ r class. let e = own_root class.found in inr (omega arith, sym e, omega arith))
            j h r;
      }

  pub carried_noted : {T : Types} → Carried i kids T (types_of u k) Q' P (pending_of left' right' crowded n') (PlainAtRow i)
  carried_noted =
      record {
        from = λ j h.
            ⊎_elim (λ old. inl (old.0, record { in_list = old.1.0; qualifier = old.1.1; type = old.1.2 })) inr
            (each_after noted (λ q x. ((k : ℕ) × ((k < P.count) × (q ≡ pair_qualifier P k) × (x ≡ pair_type P k))) ⊎ ((q ≡ row_qualifier i) × (x ≡ row_type i)))
            (λ k below. let pair = cleared.from k below in inl (pair.0, (pair.1.in_list, pair.1.qualifier, pair.1.type)))
            (inr (refl, refl)) j h);
        kept = λ t v reads linked plain. cleared.kept t v reads linked (each_before noted (PlainAt t v) plain).0;
        own = λ t v reads linked parts plain. (each_before noted (PlainAt t v) plain).1;
      }
