-- Operations: the operands' one qualifier is at or below the highest scheme of each operation.
use mathlib.Core.Bool.{true}
use mathlib.Core.List.{[], ◌∷◌}
use mathlib.Core.Path.{◌≡◌, refl}
use lib.ListN.{length}
use Rattle.scheme.specs.Qualifier.{code}
use Rattle.scheme.specs.Schemes.{below}
use Rattle.scheme.specs.Six.{six_table, fhe, op, det, ah}
use Rattle.model.specs.Machine.{Machine}
use Rattle.model.specs.Typing.{int, Assignment}
use Rattle.model.specs.Strength.{whole}
use Rattle.model.specs.Inference.{ruling}
use Rattle.model.specs.Text.{loaded}
use Rattle.model.specs.declared.Term.TheVariants.{Lam, Op, Var, Num}
use Rattle.starred.specs.Starred.{Example, text_of, PrintsOutput, program_A, sum_times_x, x_equals_x, x_less_than_x, x_plus_number, sum_of_comparisons}
use Rattle.starred.proofs.Closed.{closed}
use Rattle.starred.proofs.Typings.{Equations, uniform, uniform_typing}
use Rattle.starred.proofs.Machines.{one_parameter, two_parameters}
use Rattle.starred.proofs.Bounds.{plain_below_plain, below_fhe, add_highest, mul_highest, eq_highest, lt_highest, fitting}
use Rattle.starred.proofs.Printed.{AllWithin, WithoutFloors, load_of, report_of, accepted_prints}

-- No type is free: the typing with INT for all type rows and one qualifier for all variables and literals tells words and shapes.
abbrev pub numbers : (m : Machine) → (ruling m).Q → Assignment (ruling m).Q
numbers m q = uniform (whole (ruling m)) m q q int

abbrev pub NumbersWithin : (m : Machine) → (ruling m).Q → Type 0
NumbersWithin m q = AllWithin m (numbers m q) (numbers m q)

pub numbers_print : (example : Example) (m : Machine) → load_of example.program ≡ loaded m → closed m ≡ true → WithoutFloors m → (q : (ruling m).Q) →
    Equations (whole (ruling m)) m (length m.terms) (numbers m q) → NumbersWithin m q → report_of m (numbers m q) (numbers m q) ≡ text_of example.output → PrintsOutput example
numbers_print example m load_is closed_is none q e all-within report_is =
    let typing = uniform_typing (whole (ruling m)) m (length m.terms) q q int (e, tt, λ p. tt) in
    accepted_prints example m load_is closed_is none (numbers m q) (numbers m q) typing typing all-within report_is

abbrev program_A_machine : Machine
program_A_machine = one_parameter 7 (Var 0 ∷ Var 0 ∷ Op 0 0 1 ∷ Lam 0 2 ∷ [])

program_A_within : NumbersWithin program_A_machine ah
program_A_within s e functions = (cc add_highest, cc add_highest, cc (plain_below_plain, add_highest))

pub program_A_prints : PrintsOutput program_A
unfolding load_of report_of
program_A_prints = numbers_print program_A program_A_machine refl refl refl ah (search fitting depth 30) program_A_within refl

abbrev sum_times_x_machine : Machine
sum_times_x_machine = one_parameter 7 (Var 0 ∷ Var 0 ∷ Op 0 0 1 ∷ Var 0 ∷ Op 1 2 3 ∷ Lam 0 4 ∷ [])

sum_times_x_within : NumbersWithin sum_times_x_machine fhe
sum_times_x_within s e functions =
    let sum : below six_table (code (s.variable 0)) 5 ≡ true = cc add_highest in
    let product : below six_table (code (s.variable 0)) 4 ≡ true = cc mul_highest in
    let both = below_fhe (s.variable 0) sum product in
    (cc, cc, cc plain_below_plain)

pub sum_times_x_prints : PrintsOutput sum_times_x
unfolding load_of report_of
sum_times_x_prints = numbers_print sum_times_x sum_times_x_machine refl refl refl fhe (search fitting depth 30) sum_times_x_within refl

abbrev x_equals_x_machine : Machine
x_equals_x_machine = one_parameter 7 (Var 0 ∷ Var 0 ∷ Op 2 0 1 ∷ Lam 0 2 ∷ [])

x_equals_x_within : NumbersWithin x_equals_x_machine det
x_equals_x_within s e functions = (cc eq_highest, cc eq_highest, cc (plain_below_plain, eq_highest))

pub x_equals_x_prints : PrintsOutput x_equals_x
unfolding load_of report_of
x_equals_x_prints = numbers_print x_equals_x x_equals_x_machine refl refl refl det (search fitting depth 30) x_equals_x_within refl

abbrev x_less_than_x_machine : Machine
x_less_than_x_machine = one_parameter 7 (Var 0 ∷ Var 0 ∷ Op 3 0 1 ∷ Lam 0 2 ∷ [])

x_less_than_x_within : NumbersWithin x_less_than_x_machine op
x_less_than_x_within s e functions = (cc lt_highest, cc lt_highest, cc (plain_below_plain, lt_highest))

pub x_less_than_x_prints : PrintsOutput x_less_than_x
unfolding load_of report_of
x_less_than_x_prints = numbers_print x_less_than_x x_less_than_x_machine refl refl refl op (search fitting depth 30) x_less_than_x_within refl

abbrev x_plus_number_machine : Machine
x_plus_number_machine = one_parameter 7 (Var 0 ∷ Num 7 ∷ Op 0 0 1 ∷ Lam 0 2 ∷ [])

x_plus_number_within : NumbersWithin x_plus_number_machine ah
x_plus_number_within s e functions = (cc add_highest, cc add_highest, cc (plain_below_plain, add_highest))

pub x_plus_number_prints : PrintsOutput x_plus_number
unfolding load_of report_of
x_plus_number_prints = numbers_print x_plus_number x_plus_number_machine refl refl refl ah (search fitting depth 30) x_plus_number_within refl

abbrev sum_of_comparisons_machine : Machine
sum_of_comparisons_machine = two_parameters 7 8 (Var 0 ∷ Var 1 ∷ Op 3 0 1 ∷ Var 0 ∷ Var 1 ∷ Op 3 3 4 ∷ Op 0 2 5 ∷ Lam 1 6 ∷ Lam 0 7 ∷ [])

sum_of_comparisons_within : NumbersWithin sum_of_comparisons_machine op
sum_of_comparisons_within s e functions = (cc lt_highest, cc lt_highest, cc (plain_below_plain, lt_highest))

pub sum_of_comparisons_prints : PrintsOutput sum_of_comparisons
unfolding load_of report_of
sum_of_comparisons_prints = numbers_print sum_of_comparisons sum_of_comparisons_machine refl refl refl op (search fitting depth 30) sum_of_comparisons_within refl
