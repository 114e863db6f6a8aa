-- A search for the cell that binds a parameter, one cell at a time.
use Prim.Native.Nat.{ℕ, ◌-◌, ◌<◌}
use native.Mathlib.Omega.{arith}
use mathlib.Core.List.{List}
use mathlib.Core.Path.{◌≡◌, subst}
use Rattle.model.specs.Machine.{Machine}
use Rattle.model.specs.WellFormed.{WellFormed}
use Rattle.model.specs.Inference.{Slot}
use Rattle.environments.specs.Standing.{cell_in}
use Rattle.environments.specs.declared.Cell.{Cell}
use Rattle.environments.proofs.Turns.{Found, found_nowhere, found_here, found_past}
use Rattle.moves.specs.Moves.{Sought, nowhere, here, past}

module _ (c : List Cell) (x : ℕ) where
  pub sought_here : (at : ℕ) → 0 < at → (cell_in c (at - 1)).param ≡ x → Sought c x at (at - 1)
  sought_here at some is = subst (λ (n : ℕ). Sought c x n (at - 1)) (omega arith) (here is)

  pub sought_past : (at r : ℕ) → 0 < at → ¬ ((cell_in c (at - 1)).param ≡ x) → Sought c x (cell_in c (at - 1)).next r → Sought c x at r
  sought_past at r some other rest = subst (λ (n : ℕ). Sought c x n r) (omega arith) (past other rest)

-- What a search finds is what is bound.
pub sought_found : (m : Machine) (w : WellFormed m) (word : Slot → ℕ) (c : List Cell) (count x : ℕ) {place j : ℕ} → Sought c x place j → Found m w word c count place x j
sought_found m w word c count x (nowhere {r}) = found_nowhere m w word c count x r
sought_found m w word c count x (here {j} is) = found_here m w word c count j x is
sought_found m w word c count x (past {j} {r} other rest) = found_past m w word c count j x r other (sought_found m w word c count x rest)
