-- A cell is put in its place: the ones below it stay, and the lengths.
use Prim.Native.Nat.{ℕ, ◌≤◌, ◌<◌}
use native.Mathlib.Omega.{arith}
use native.Mathlib.Decide.{ℕ_discrete}
use mathlib.Core.List.{List}
use mathlib.Core.Path.{◌≡◌, sym, ap, ◌∙◌}
use lib.ListN.{length, set, length-set}
use lib.Seq.{get_or-set_same, get_or-set_other}
use Rattle.dryrun.specs.Run.{most_steps}
use Rattle.environments.specs.Standing.{no_cell, cell_in}
use Rattle.environments.specs.declared.Cell.{Cell}
use Rattle.environments.proofs.Turns.{Kept}
use Rattle.moves.specs.Moves.{Celled}

pub cell_kept : (c : List Cell) (j : ℕ) (x : Cell) → Kept c (set c j x) j
cell_kept c j x i h = sym (get_or-set_other c j i x no_cell (omega arith))

pub cell_new : (c : List Cell) (j : ℕ) (x : Cell) → j < length c → cell_in (set c j x) j ≡ x
cell_new c j x h = get_or-set_same c j x no_cell h

-- A link that leads to a place no higher than its own cell keeps every search ending.
pub cell_celled : (c : List Cell) (j : ℕ) (x : Cell) → Celled c → x.next ≤ j → Celled (set c j x)
cell_celled c j x sized low = record { size = length-set c j x ∙ sized.size; links = λ i h. by i h (ℕ_discrete i j) }
  where
    by : (i : ℕ) → i < most_steps → Dec (i ≡ j) → (cell_in (set c j x) i).next ≤ i
    by i h (yes e) =
        let same : (cell_in (set c j x) i).next ≡ x.next = ap (λ (k : ℕ). (cell_in (set c j x) k).next) e ∙ ap (λ (y : Cell). y.next) (cell_new c j x (omega (arith, sized.size))) in
        omega arith
    by i h (no other) =
        let same : (cell_in (set c j x) i).next ≡ (cell_in c i).next = ap (λ (y : Cell). y.next) (get_or-set_other c j i x no_cell other) in omega (arith, sized.links i h)
