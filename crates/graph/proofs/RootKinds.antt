-- A root gets a kind: what its list of kinds holds then, and that the classes stay.
use Prim.Native.Nat.{ℕ, ◌<◌}
use native.Mathlib.Omega.{arith}
use mathlib.Core.List.{List}
use mathlib.Core.Path.{◌≡◌, ap, ◌∙◌}
use lib.ListN.{set, length-set}
use lib.Seq.{get_or-set_same, get_or-set_other}
use Rattle.layout.specs.Kinds.{arrow_kind}
use Rattle.layout.specs.Layout.{nodes, descriptors}
use Rattle.forest.specs.Forest.{up}
use Rattle.forest.proofs.Links.{by_eq}
use Rattle.graph.specs.Types.{kind_at, TypeClasses, types_of}

module _ {p k : List ℕ} (classes : TypeClasses (types_of p k)) (x m : ℕ) (below : x < nodes) where
  pub kind_same : kind_at (set k x m) x ≡ m
  kind_same = get_or-set_same k x m 0 (omega (arith, classes.size))

  pub kind_other : (y : ℕ) → (y ≡ x → ⊥) → kind_at (set k x m) y ≡ kind_at k y
  kind_other y n = get_or-set_other k x y m 0 n

  pub kind_classes : up p x ≡ x → m < arrow_kind descriptors → TypeClasses (types_of p (set k x m))
  kind_classes root small =
      record {
        forest = classes.forest;
        size = length-set k x m ∙ classes.size;
        bare = λ y h n. kind_other y (λ e. n (cc)) ∙ classes.bare y h n;
        kinds = λ y h. by_eq y x (λ e. omega (arith, ap (kind_at (set k x m)) e, kind_same)) (λ n. omega (arith, kind_other y n, classes.kinds y h));
      }
