-- The root of each node, and which one it is after a node was put under another.
use Prim.Native.Nat.{ℕ, ◌<◌, ◌≤◌}
use native.Mathlib.Omega.{arith}
use mathlib.Core.List.{List}
use mathlib.Core.Logic.{◌⊎◌, inl, inr, ⊎_elim}
use mathlib.Core.Path.{◌≡◌, sym, ap, subst, ◌∙◌}
use lib.ListN.{set}
use Rattle.layout.specs.Layout.{nodes}
use Rattle.forest.specs.Forest.{up, Forest, Reach, here, further, Found, Rooted, TwoRoots}
use Rattle.forest.proofs.Links.{root_reaches, reach_parent, by_eq, up_same, up_other}

-- The root above a node is above all that is reached from the node.
root_above : {p : List ℕ} {x r s : ℕ} → up p r ≡ r → Reach p x r → Reach p x s → Reach p s r
root_above root reach here = reach
root_above {p} {r = r} root reach (further {r = s} more h) =
    ⊎_elim (λ e. subst (λ (y : ℕ). Reach p y r) (cc) here) (λ above. above) (reach_parent (root_above root reach more))

-- A node has one root.
pub found_same : {p : List ℕ} {x r s : ℕ} → Found p x r → Found p x s → r ≡ s
found_same one two = root_reaches two.root (root_above one.root one.reached two.reached)

pub found_here : {p : List ℕ} {x : ℕ} → up p x ≡ x → Found p x x
found_here root = record { low = omega arith; root = root; reached = here }

-- Two ways upward, one after the other.
reach_then : {p : List ℕ} {x y z : ℕ} → Reach p x y → Reach p y z → Reach p x z
reach_then one here = one
reach_then one (further two h) = further (reach_then one two) h

reach_low : {p : List ℕ} {x r : ℕ} → Forest p → Reach p x r → r ≤ x
reach_low f here = omega arith
reach_low f (further {r} reach h) = omega (arith, reach_low f reach, f.low r h)

module _ {p : List ℕ} (f : Forest p) (x a : ℕ) (below : x < nodes) where
  -- A way upward after the step was one before, unless it goes through x.
  reach_before : {y r : ℕ} → Reach (set p x a) y r → Reach p y r ⊎ (Reach p y x × Reach (set p x a) a r)
  reach_before here = inl here
  reach_before {y} (further {r} reach h) = ⊎_elim outside (λ through. inr (through.0, further through.1 h)) (reach_before reach)
    where
      outside : Reach p y r → Reach p y (up (set p x a) r) ⊎ (Reach p y x × Reach (set p x a) a (up (set p x a) r))
      outside way =
          by_eq r x
          (λ e. inr (subst (Reach p y) e way, subst (Reach (set p x a) a) (cc (up_same f x a below)) here))
          (λ n. inl (subst (Reach p y) (sym (up_other f x a below r n)) (further way h)))

  root_before : {s : ℕ} → (s ≡ x → ⊥) → up (set p x a) s ≡ s → up p s ≡ s
  root_before {s} n root = cc (up_other f x a below s n)

  -- A root that x is put under stays a root.
  root_after : up p a ≡ a → up (set p x a) a ≡ a
  root_after root = by_eq a x (λ e. cc (up_same f x a below)) (λ n. up_other f x a below a n ∙ root)

  -- Below x nothing is changed.
  pub found_below : {y s : ℕ} → y < x → Found (set p x a) y s → Found p y s
  found_below h found =
      record {
        low = found.low;
        root = root_before (λ e. omega (arith, found.low)) found.root;
        reached = ⊎_elim (λ way. way) (λ through. absurd (omega (arith, reach_low f through.0))) (reach_before found.reached);
      }

-- A node put under its own root: the roots are the same.
pub found_rooted : {p p' : List ℕ} {x r y s : ℕ} → Forest p → x < nodes → Rooted p p' x r → Found p' y s → Found p y s
found_rooted {p} {x = x} {r} {y} {s} f below rooted after =
    let found : Found (set p x r) y s = subst (λ (q : List ℕ). Found q y s) rooted.shorter after in
    let old = rooted.found in
    ⊎_elim
    (λ way.
    record {
      low = found.low;
      root = by_eq s x (λ e. cc (up_same f x r below, found.root, old.root)) (λ n. root_before f x r below n found.root);
      reached = way;
    })
    (λ through.
    let e : s ≡ r = root_reaches (root_after f x r below old.root) through.1 in
    record { low = found.low; root = cc old.root; reached = subst (Reach p y) (sym e) (reach_then through.0 old.reached) })
    (reach_before f x r below found.reached)

-- A root put under another: the nodes that had it as their root now have the other.
pub found_linked : {p p' : List ℕ} {low high y s : ℕ} → Forest p → TwoRoots p low high → p' ≡ set p high low → Found p' y s → (Found p y s × (s ≡ high → ⊥)) ⊎ (Found p y high × (s ≡ low))
found_linked {p} {low = low} {high} {y} {s} f two linked after =
    let found : Found (set p high low) y s = subst (λ (q : List ℕ). Found q y s) linked after in
    let other : s ≡ high → ⊥ = λ e. omega (arith, two.less, up_same f high low two.node, found.root, ap (up (set p high low)) e) in
    ⊎_elim
    (λ way. inl (record { low = found.low; root = root_before f high low two.node other found.root; reached = way }, other))
    (λ through. inr (record { low = reach_low f through.0; root = two.high_root; reached = through.0 }, root_reaches (root_after f high low two.node two.low_root) through.1))
    (reach_before f high low two.node found.reached)
