-- The number that the command of a scheme file answers is at most 27.
use Prim.Native.Nat.{ℕ, ◌≤◌}
use mathlib.Core.List.{List}
use Rattle.model.specs.Machine.{Machine, settled}
use Rattle.model.proofs.Numbers.{opened_most}
use Rattle.conversation.specs.Script.{restarted}

pub restarted_most : (m : Machine) (file : List ℕ) → (restarted m file).number ≤ 27
unfolding settled
restarted_most m file = opened_most file
