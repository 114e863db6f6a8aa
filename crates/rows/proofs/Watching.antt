-- The pending pairs while no class becomes an arrow: each stays watched, and is found once its class becomes one.
use Prim.Native.Nat.{ℕ, ◌+◌, ◌<◌}
use native.Mathlib.Omega.{arith}
use mathlib.Core.List.{List}
use mathlib.Core.Logic.{inl, inr, ⊎_elim}
use mathlib.Core.Path.{◌≡◌, refl}
use lib.ListN.{length, get_or}
use Rattle.layout.specs.Layout.{nodes, row_type}
use Rattle.forest.specs.Forest.{Linked}
use Rattle.graph.specs.Types.{Types, Equation}
use Rattle.graph.specs.Steady.{Steady}
use Rattle.qualifiers.specs.Classes.{Qualifiers}
use Rattle.model.specs.Typing.{Ty}
use Rattle.pending.specs.Pending.{Pending, Watched}
use Rattle.rows.specs.Steps.{Carried}

-- The same pairs under other marks.
abbrev pub remarked : Pending → List ℕ → Pending
remarked P c = record { pairs = P.pairs; crowded = c; count = P.count }

-- The roots that classes newly have are marked, and no mark is lost.
pub watched_next : {i : ℕ} {T T' : Types} {Q Q' : Qualifiers} {P : Pending} {C : ℕ → Type 0} {c' : List ℕ} → Watched i T Q P → Steady (row_type i) T T' C →
    ((r : ℕ) → C r → 0 < get_or c' r 0) → ((r : ℕ) → 0 < get_or P.crowded r 0 → 0 < get_or c' r 0) → length c' ≡ nodes → ((v : ℕ → ℕ) → Linked Q'.parents v → Linked Q.parents v) →
    Watched (i + 1) T' Q' (remarked P c')
watched_next watched steady new stays size linked =
    record {
      held = record {
        few = omega (arith, watched.held.few);
        marks = size;
        qualifier_nodes = λ j h. omega (arith, watched.held.qualifier_nodes j h);
        type_nodes = λ j h. omega (arith, watched.held.type_nodes j h);
      };
      plain = λ v after j r h arrow.
          let before = steady.arrows _ r (watched.held.type_nodes j h) arrow in
          watched.plain v (linked v after) j before.0 h before.1;
      marked = λ j r h unknown.
          ⊎_elim
          (λ before. ⊎_elim (λ mark. inl (stays r mark)) inr (watched.marked j r h before))
          (λ c. inl (new r c))
          (steady.unknowns _ r (watched.held.type_nodes j h) unknown);
    }

-- Every class keeps its root, and the marks stay.
pub watched_same : {i : ℕ} {T T' : Types} {Q Q' : Qualifiers} {P : Pending} → Watched i T Q P → Steady (row_type i) T T' (λ r. ⊥) →
    ((v : ℕ → ℕ) → Linked Q'.parents v → Linked Q.parents v) → Watched (i + 1) T' Q' P
watched_same watched steady = watched_next watched steady (λ r c. absurd c) (λ r mark. mark) watched.held.marks

-- The pairs are those of before, and nothing is asked of the row's own.
pub carried_same : {i : ℕ} {kids : List ℕ} {T T' : Types} {Q' : Qualifiers} {P : Pending} {O : Equation} → ((t : ℕ → Ty ℕ) (v : ℕ → ℕ) → O t v) → Carried i kids T T' Q' P P O
carried_same holds =
    record {
      from = λ j h. inl (j, record { in_list = h; qualifier = refl; type = refl });
      kept = λ t v reads linked plain. plain;
      own = λ t v reads linked parts plain. holds t v;
    }
