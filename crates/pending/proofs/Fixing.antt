-- The pairs looked at one after the other: no scheme stands with one of them whose type is still unknown.
use Prim.Native.Nat.{ℕ, ◌+◌, ◌<◌}
use native.Mathlib.Omega.{arith}
use mathlib.Core.List.{List}
use mathlib.Core.Logic.{inl, inr}
use mathlib.Core.Path.{◌≡◌, sym, ap, ◌∙◌}
use lib.ListN.{set}
use borrow.Author.Count.{below_more}
use Rattle.scheme.specs.Rule.{words_at}
use Rattle.layout.specs.Kinds as Kinds
use Rattle.layout.specs.Layout.{nodes}
use Rattle.forest.specs.Forest.{Found}
use Rattle.forest.proofs.Links.{by_eq}
use Rattle.forest.proofs.Roots.{found_same}
use Rattle.graph.specs.Types.{kind_at, types_of, TypeClasses}
use Rattle.qualifiers.specs.Classes.{Qualifiers}
use Rattle.graph.proofs.RootKinds.{kind_same, kind_other, kind_classes}
use Rattle.pending.specs.Pending.{Pending, pair_qualifier, pair_type}
use Rattle.pending.specs.Shapes.{SchemeAt, KeptOrInt, PairFixed, kept, made}

-- No scheme stands at q, whose root is s.
pub no_scheme : {words : ℕ} {p : List ℕ} {q s : ℕ} → Found p q s → (0 < s → s < words → ⊥) → ¬ SchemeAt words p q
no_scheme found none at =
    let same = found_same at.found found in
    none (omega (arith, at.scheme.0)) (omega (arith, at.scheme.1))

-- No scheme stands with pair i while its type is unknown.
abbrev NoScheme : (R u k' : List ℕ) (Q : Qualifiers) (P : Pending) → ℕ → Type 0
NoScheme R u k' Q P i = (r : ℕ) → Found u (pair_type P i) r → kind_at k' r ≡ Kinds.unknown → ¬ SchemeAt (words_at R) Q.parents (pair_qualifier P i)

-- The kinds k' after the first j pairs, from the kinds k.
pub record Fixing (R u k k' : List ℕ) (Q : Qualifiers) (P : Pending) (j : ℕ) : Type 0 where
  pub classes : TypeClasses (types_of u k')
  pub kinds : (r : ℕ) → KeptOrInt R u k k' Q P r
  pub free : (i : ℕ) → i < j → NoScheme R u k' Q P i

module _ {R u k : List ℕ} {Q : Qualifiers} {P : Pending} where
  -- The pair j is looked at, and what was free stays free: no kind is unknown that was known.
  module _ {k' : List ℕ} {j : ℕ} (h : j < P.count) (node : pair_type P j < nodes) (before : Fixing R u k k' Q P j) where
    next : {k'' : List ℕ} → TypeClasses (types_of u k'') → ((r : ℕ) → KeptOrInt R u k k'' Q P r) → ((r : ℕ) → kind_at k'' r ≡ Kinds.unknown → kind_at k' r ≡ Kinds.unknown) → NoScheme R u k'' Q P j → Fixing R u k k'' Q P (j + 1)
    next classes kinds unknown newest =
        record {
          classes = classes;
          kinds = kinds;
          free = below_more _ j (λ i below r found e. before.free i below r found (unknown r e)) newest;
        }

    was_unknown : {r : ℕ} → kind_at k' r ≡ Kinds.unknown → KeptOrInt R u k k' Q P r → kind_at k r ≡ Kinds.unknown
    was_unknown e (inl same) = sym same ∙ e
    was_unknown e (inr (unknown, int, stands)) = unknown

    fixing_on : {k'' : List ℕ} → PairFixed (words_at R) Q.parents u k' (pair_qualifier P j) (pair_type P j) k'' → Fixing R u k k'' Q P (j + 1)
    fixing_on (kept type none) =
        next before.classes before.kinds (λ r e. e) (λ r found e. none (ap (kind_at k') (found_same type found) ∙ e))
    fixing_on (made {r = root} type unknown at) =
        let below : root < nodes = omega (arith, type.low) in
        let int = kind_same before.classes root Kinds.int_kind below in
        let other = kind_other before.classes root Kinds.int_kind below in
        let known : (r : ℕ) → r ≡ root → ¬ (kind_at (set k' root Kinds.int_kind) r ≡ Kinds.unknown) = λ r same e. omega (arith, int, ap (kind_at (set k' root Kinds.int_kind)) same) in
        next
        (kind_classes before.classes root Kinds.int_kind below type.root (omega arith))
        (λ r.
        by_eq r root
        (λ same.
        rw same
        (inr (
          was_unknown unknown (before.kinds root),
          int,
          record { pair = j; in_list = h; type = type; root = at.root; qualifier = at.found; scheme = at.scheme },
        )))
        (λ differ. rw (other r differ) (before.kinds r)))
        (λ r e. by_eq r root (λ same. absurd (known r same e)) (λ differ. sym (other r differ) ∙ e))
        (λ r found e. absurd (known r (found_same found type) e))

    pub fixing_more : {words : ℕ} {u' k'' : List ℕ} → words ≡ words_at R → u' ≡ u → PairFixed words Q.parents u' k' (pair_qualifier P j) (pair_type P j) k'' → Fixing R u k k'' Q P (j + 1)
    fixing_more same stays fixed = fixing_on (rw (same, stays) at fixed)
