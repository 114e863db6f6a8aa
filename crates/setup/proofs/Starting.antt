-- The solver's first state, from the arrays that make it.
use Prim.Native.Nat.{ℕ, ◌≤◌}
use native.Mathlib.Omega.{arith}
use mathlib.Core.Bool.{Bool, true, false, cond}
use mathlib.Core.List.{List}
use mathlib.Core.Path.{◌≡◌, refl, ap, ◌∙◌}
use lib.Dec.{ltb}
use lib.ListN.{length, get_or, replicate, length-replicate, get_or-replicate}
use borrow.Author.Tests.{le-ltb, ltb-true, ltb-false}
use Rattle.graph.specs.Types.{types_of}
use Rattle.layout.specs.Layout.{nodes}
use Rattle.model.specs.Machine.{Machine}
use Rattle.qualifiers.specs.Classes.{bound_at, qualifiers_of}
use Rattle.setup.specs.Started.{start_kind, Started}
use Rattle.setup.specs.Passes.{KindsNoted, SelfRooted, FirstHold}

-- Zeros hold nothing yet.
pub hold_none : (f : ℕ → ℕ) (places : ℕ) → FirstHold f places 0 (replicate places 0)
hold_none f places =
    record {
      size = length-replicate {A = ℕ} places 0;
      at = λ x h. get_or-replicate {A = ℕ} places x 0 0 h ∙ rw (le-ltb x 0 (omega arith)) refl;
    }

-- Each array as it was made: the start.
module _ (formkinds : List ℕ) (top : ℕ) {u k p b : List ℕ} where
  pub started :
      SelfRooted nodes u → FirstHold (λ x. get_or formkinds x 0) nodes 64 k → SelfRooted nodes p → b ≡ replicate nodes top →
      (m : Machine) → length m.types ≤ 64 → KindsNoted m.types formkinds → Started m top (types_of u k) (qualifiers_of p b)
  started u-roots kinds p-roots unrestricted m fits noted =
      record {
        sizes = (u-roots.size, kinds.size, p-roots.size, ap length unrestricted ∙ length-replicate {A = ℕ} nodes top);
        type_roots = u-roots.own;
        kinds = λ x h. kinds.at x h ∙ same x;
        qualifier_roots = p-roots.own;
        bounds = λ x h. ap (λ (l : List ℕ). bound_at l x) unrestricted ∙ get_or-replicate {A = ℕ} nodes x top 0 h;
      }
    where
      same : (x : ℕ) → cond (ltb x 64) (get_or formkinds x 0) 0 ≡ start_kind m x
      same x = go (ltb x 64) refl
        where
          go : (t : Bool) → ltb x 64 ≡ t → cond t (get_or formkinds x 0) 0 ≡ start_kind m x
          go true e = noted x (ltb-true x 64 e)
          go false e = rw (le-ltb x (length m.types) (omega (arith, ltb-false x 64 e))) refl
