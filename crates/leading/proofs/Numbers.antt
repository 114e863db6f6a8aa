-- Frames that hold numbers, the first on top, are the stack of a job.
use Prim.Native.Nat.{ℕ, suc, ◌<◌}
use native.Mathlib.Omega.{arith}
use mathlib.Core.List.{List, [], ◌∷◌}
use mathlib.Core.Path.{◌≡◌, refl}
use lib.ListN.{length, get_or}
use Rattle.model.specs.Machine.{Machine}
use Rattle.model.specs.Inference.{Slot, param}
use Rattle.dryrun.specs.Expression.{Expression, number, apply, applied}
use Rattle.environments.specs.Standing.{Context, argument, plug, Means, Stack, bottom, on_argument, a_value}
use Rattle.environments.specs.Frames.{frame_in}
use Rattle.environments.specs.declared.Datum.{Datum}
use Rattle.environments.specs.declared.Focus.{Focus}
use Rattle.environments.specs.declared.Frame.{Frame}
use Rattle.environments.specs.declared.Cell.{Cell}

-- Frame d applies what stands inside to the number.
abbrev pub Numbered : List Frame → ℕ → ℕ → ℕ → Type 0
Numbered f d tag n = frame_in f d ≡ Frame.Argument (Focus.Datum (Datum.Number tag n))

-- The frames of the parameters' numbers, the first parameter's innermost.
abbrev pub arguments : (Slot → ℕ) → List ℕ → List ℕ → List Context
arguments word [] numbers = []
arguments word (p ∷ ps) [] = []
arguments word (p ∷ ps) (n ∷ numbers) = argument (number n (word (param p))) ∷ arguments word ps numbers

-- Around an expression they apply it to the numbers.
pub arguments_plugged : (word : Slot → ℕ) (e : Expression) (ps numbers : List ℕ) → plug (arguments word ps numbers) e ≡ applied word e ps numbers
unfolding applied
arguments_plugged word e [] numbers = refl
arguments_plugged word e (p ∷ ps) [] = refl
arguments_plugged word e (p ∷ ps) (n ∷ numbers) = arguments_plugged word (apply e (number n (word (param p)))) ps numbers

-- The first j numbers stand in the frames, the first on top.
abbrev pub Numbers : (Slot → ℕ) → List Frame → List ℕ → List ℕ → ℕ → Type 0
Numbers word f ps numbers j = (k : ℕ) → k < j → Numbered f k (word (param (get_or ps k 0))) (get_or numbers k 0)

module _ (m : Machine) (word : Slot → ℕ) (c : List Cell) where
  -- As many frames as numbers are the stack, whatever the cells hold.
  pub arguments_stack : (f : List Frame) (ps numbers : List ℕ) → length f ≡ length numbers → length numbers ≡ length ps → Numbers word f ps numbers (length numbers) →
      Stack m word c 0 f (arguments word ps numbers)
  arguments_stack [] [] [] sized same filled = bottom
  arguments_stack (x ∷ f) ps [] sized same filled = let z : ⊥ = omega arith in absurd z
  arguments_stack [] ps (n ∷ numbers) sized same filled = let z : ⊥ = omega arith in absurd z
  arguments_stack f [] (n ∷ numbers) sized same filled = let z : ⊥ = omega arith in absurd z
  arguments_stack f (p ∷ ps) [] sized same filled = let z : ⊥ = omega arith in absurd z
  arguments_stack (x ∷ f) (p ∷ ps) (n ∷ numbers) sized same filled =
      rw (filled 0 (omega arith)) (on_argument (a_value Means.a_number) (arguments_stack f ps numbers (omega arith) (omega arith) (λ k h. filled (suc k) (omega arith))))
