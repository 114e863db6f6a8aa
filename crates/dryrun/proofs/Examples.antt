-- Runs of \x. x + x, and of functions of one parameter inside each other.
use Prim.Native.Nat.{ℕ}
use native.Mathlib.Omega.{arith}
use mathlib.Core.Path.{◌≡◌, refl}
use Rattle.scheme.specs.Schemes.{greatest, below}
use Rattle.model.specs.Strength.{six}
use Rattle.dryrun.specs.Expression.{Expression, number, variable, function, apply, operate, Value, substituted}
use Rattle.dryrun.specs.Transition.{Tagged, supported, calculated, result_tag, Step, applies, operates, operation}
use Rattle.dryrun.specs.Run.{Counts, nothing_made, a_number, no_answer, Runs, ends_number, out_of_budget, overflows, steps_on, applying, in_range}
use Rattle.dryrun.proofs.Determined.{value_finished}

abbrev double : ℕ → Expression
double n = apply (function 0 (operate 0 (variable 0) (variable 0))) (number n 5)

abbrev one : Counts
one = record { applications = 1; operations = 0 }

adds : (n : ℕ) → Step (Tagged six) 0 (operation (calculated 0 n n)) (operate 0 (number n 5) (number n 5)) (number (calculated 0 n n) (result_tag 0 5))
unfolding greatest below
adds n = operates {o = 0} {tag = 5} (supported {tag = 5} refl)

-- A budget of 0 stops before the first step, one of 1 before the sum, whatever the sum would be.
budget_0 : Runs (Tagged six) 0 (double 2147483648) nothing_made (record { refusal = 30; counts = nothing_made; answer = no_answer })
budget_0 = out_of_budget (λ v. value_finished v) refl

budget_1 : Runs (Tagged six) 1 (double 2147483648) nothing_made (record { refusal = 30; counts = one; answer = no_answer })
unfolding substituted
budget_1 = steps_on {contexts = 0} {made = nothing_made} (λ e. let z : ⊥ = omega arith in z) (omega arith) (applies Value.a_number) applying (out_of_budget (λ v. value_finished v) refl)

-- The sum that passes 4294967295 is not counted.
budget_2 : Runs (Tagged six) 2 (double 2147483648) nothing_made (record { refusal = 29; counts = one; answer = no_answer })
unfolding substituted calculated
budget_2 = steps_on {contexts = 0} {made = nothing_made} (λ e. let z : ⊥ = omega arith in z) (omega arith) (applies Value.a_number) applying (overflows {contexts = 0} {made = one} (λ e. let z : ⊥ = omega arith in z) (omega arith) (adds 2147483648) (omega arith))

six_of_three : Runs (Tagged six) 2 (double 3) nothing_made (record { refusal = 0; counts = record { applications = 1; operations = 1 }; answer = a_number 6 5 })
unfolding substituted calculated result_tag
six_of_three =
    steps_on {contexts = 0} {made = nothing_made} (λ e. let z : ⊥ = omega arith in z) (omega arith) (applies Value.a_number) applying
    (steps_on {contexts = 0} {made = one} (λ e. let z : ⊥ = omega arith in z) (omega arith) (adds 3) (in_range {n = 6} (omega arith)) ends_number)

-- What is a value at the start is over at once, with any budget.
over_at_once : Runs (Tagged six) 0 (number 7 0) nothing_made (record { refusal = 0; counts = nothing_made; answer = a_number 7 0 })
over_at_once = ends_number

-- A copy of a function inside itself keeps its own parameter.
pub keeps_own : substituted 0 (number 1 0) (apply (variable 0) (function 0 (variable 0))) ≡ apply (number 1 0) (function 0 (variable 0))
unfolding substituted
keeps_own = refl
