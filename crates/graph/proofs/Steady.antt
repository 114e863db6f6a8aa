-- Steps that make no class an arrow: which they are, and that they may follow each other.
use Prim.Native.Nat.{ℕ, ◌<◌, ◌≤◌}
use native.Mathlib.Omega.{arith}
use mathlib.Core.List.{List}
use mathlib.Core.Logic.{◌⊎◌, inl, inr, ⊎_elim}
use mathlib.Core.Path.{◌≡◌, refl, sym, ap, subst, ◌∙◌}
use lib.ListN.{length, set, length-set}
use lib.Seq.{get_or-set_same, get_or-set_other}
use Rattle.layout.specs.Layout.{nodes}
use Rattle.layout.specs.Kinds.{unknown, int_kind, first_arrow}
use Rattle.forest.specs.Forest.{up, Forest, Found, Rooted, Hung, TwoRoots}
use Rattle.forest.proofs.Links.{by_eq, root_reaches}
use Rattle.forest.proofs.Roots.{found_same, found_here, found_below, found_rooted, found_linked}
use Rattle.graph.specs.Types.{Types, kind_at, types_of}
use Rattle.graph.specs.Steady.{Steady, NoArrow, Calm, RootOfEither}

pub steady_same : {n : ℕ} {T : Types} {C : ℕ → Type 0} → Steady n T T C
steady_same = record { arrows = λ x r h arrow. (r, arrow); unknowns = λ x r h unknown. inl unknown }

pub steady_then : {n : ℕ} {T T₁ T₂ : Types} {C : ℕ → Type 0} → Steady n T T₁ C → Steady n T₁ T₂ C → Steady n T T₂ C
steady_then one two =
    record {
      arrows = λ x r h arrow. let f = two.arrows x r h arrow in one.arrows x f.0 h f.1;
      unknowns = λ x r h unknown. ⊎_elim (one.unknowns x r h) inr (two.unknowns x r h unknown);
    }

pub steady_for : {n : ℕ} {T T' : Types} {C C' : ℕ → Type 0} → ((r : ℕ) → C r → C' r) → Steady n T T' C → Steady n T T' C'
steady_for into steady =
    record { arrows = steady.arrows; unknowns = λ x r h unknown. ⊎_elim inl (λ c. inr (into r c)) (steady.unknowns x r h unknown) }

-- It is enough that each root was the node's before, with the same kind, or is no arrow's and, where it is unknown, one of C.
steady_roots : {n : ℕ} {p k p' k' : List ℕ} {C : ℕ → Type 0}
    → ((x r : ℕ) → x < n → Found p' x r → (Found p x r × (kind_at k' r ≡ kind_at k r)) ⊎ ((kind_at k' r < first_arrow) × (kind_at k' r ≡ unknown → C r)))
    → Steady n (types_of p k) (types_of p' k') C
steady_roots says =
    record {
      arrows = λ x r h after.
          ⊎_elim (λ f. (r, record { found = f.0; arrow = omega (arith, after.arrow, f.1) })) (λ f. absurd (omega (arith, after.arrow, f.0))) (says x r h after.found);
      unknowns = λ x r h after. ⊎_elim (λ f. inl record { found = f.0; unknown = sym f.1 ∙ after.unknown }) (λ f. inr (f.1 after.unknown)) (says x r h after.found);
    }

-- The roots and their kinds are as they were.
pub steady_found : {n : ℕ} {p k p' : List ℕ} {C : ℕ → Type 0} → ((x r : ℕ) → x < n → Found p' x r → Found p x r) → Steady n (types_of p k) (types_of p' k) C
steady_found same = steady_roots λ x r h found. inl (same x r h found, refl)

pub steady_rooted : {n : ℕ} {p k p' : List ℕ} {x r : ℕ} {C : ℕ → Type 0} → Forest p → x < nodes → Rooted p p' x r → Steady n (types_of p k) (types_of p' k) C
steady_rooted f below rooted = steady_found λ y s h. found_rooted f below rooted

pub steady_hung : {n : ℕ} {p k p' : List ℕ} {x y : ℕ} {C : ℕ → Type 0} → Forest p → x < nodes → n ≤ x → Hung p p' x y → Steady n (types_of p k) (types_of p' k) C
steady_hung {x = x} f below above hung = rw hung.under (steady_found λ y s h. found_below f x hung.root below (omega arith))

-- A node gets a kind: one that is the root of no node below n, as a root is at or below its nodes; or one that gets INT.
pub steady_kind : {n : ℕ} {p k : List ℕ} (x m : ℕ) {C : ℕ → Type 0} → n ≤ x → Steady n (types_of p k) (types_of p (set k x m)) C
steady_kind {k = k} x m above = steady_roots λ y r h found. inl (found, get_or-set_other k x r m 0 (λ e. omega (arith, found.low)))

pub steady_int : {n : ℕ} {p k : List ℕ} (x : ℕ) {C : ℕ → Type 0} → length k ≡ nodes → x < nodes → Steady n (types_of p k) (types_of p (set k x int_kind)) C
steady_int {k = k} x size below =
    steady_roots λ y r h found.
    by_eq r x
    (λ e.
    let same : kind_at (set k x 1) r ≡ 1 = ap (kind_at (set k x 1)) e ∙ get_or-set_same k x 1 0 (omega (arith, size)) in
    inr (omega arith, λ none. absurd (omega arith)))
    (λ n. inl (found, get_or-set_other k x r 1 0 n))

-- A root is put under another, and neither is an arrow.
pub steady_link : {n : ℕ} {p k p' k' : List ℕ} {low high m : ℕ} → Forest p → length k ≡ nodes → TwoRoots p low high → m < first_arrow
    → (p' ≡ set p high low) × (k' ≡ set (set k high unknown) low m) → Steady n (types_of p k) (types_of p' k') (RootOfEither (types_of p k) low high)
steady_link {p = p} {k} {k' = k'} {low} {high} {m} f size two small linked =
    steady_roots λ x r h found.
    by_eq r low
    (λ e.
    let same : kind_at k' r ≡ m = rw linked.1 (ap (kind_at (set (set k high 0) low m)) e ∙ get_or-set_same (set k high 0) low m 0 (omega (arith, size, length-set k high 0, two.less, two.node))) in
    inr (omega arith, λ _. inl (subst (Found p low) (sym e) (found_here two.low_root))))
    (λ n.
    ⊎_elim
    (λ old. inl (old.0, rw linked.1 (get_or-set_other (set k high 0) low r m 0 n ∙ get_or-set_other k high r 0 0 old.1)))
    (λ joined. absurd (n joined.1))
    (found_linked f two linked.0 found))

-- Two roots of calm nodes are no arrows if they differ, and two roots that are none are calm.
module _ {p : List ℕ} (k : List ℕ) {x y : ℕ} where
  pub calm_kinds : {a b : ℕ} → Found p a x → Found p b y → (x ≡ y → ⊥) → Calm (types_of p k) a b → (kind_at k x < first_arrow) × (kind_at k y < first_arrow)
  calm_kinds first second n = ⊎_elim (λ same. absurd (n (found_same (same x first) second))) (λ none. (none.0 x first, none.1 y second))

  pub calm_roots : up p x ≡ x → up p y ≡ y → (kind_at k x < first_arrow) × (kind_at k y < first_arrow) → Calm (types_of p k) x y
  calm_roots first second small = inr (alone first small.0, alone second small.1)
    where
      alone : {z : ℕ} → up p z ≡ z → kind_at k z < first_arrow → NoArrow (types_of p k) z
      alone {z} root low r found = omega (arith, ap (kind_at k) (root_reaches root found.reached))
