-- The refused programs: in each the rules of the rows 0 to 2 cannot be met together.
use native.Mathlib.Omega.{arith}
use mathlib.Core.Bool.{true, false, false≢true}
use mathlib.Core.List.{[], ◌∷◌}
use mathlib.Core.Path.{◌≡◌, refl}
use Rattle.scheme.specs.Qualifier.{Qualifier}
use Rattle.model.specs.Machine.{Machine}
use Rattle.model.specs.Typing.{arrow, Assignment}
use Rattle.model.specs.Strength.{whole, unordered, erased, six}
use Rattle.model.specs.declared.Term.TheVariants.{Lam, App, Op, Var, Num}
use Rattle.starred.specs.Starred.{PrintsOutput, sum_of_rand, ah_plus_mh, x_applied_to_x, number_applied_to_number}
use Rattle.starred.proofs.Typings.{Equations}
use Rattle.starred.proofs.Refused.{not_own_argument, refused_shapes, refused_qualifiers, refused_bounds}
use Rattle.starred.proofs.Machines.{no_parameter, one_parameter, two_parameters}
use Rattle.starred.proofs.Bounds.{rand_not_below_ah, ah_not_mh, add_highest}
use Rattle.starred.proofs.Printed.{load_of, refusal_of, refused_prints}

abbrev sum_of_rand_machine : Machine
sum_of_rand_machine = one_parameter 6 (Var 0 ∷ Var 0 ∷ Op 0 0 1 ∷ Lam 0 2 ∷ [])

-- RAND is not at or below AH.
sum_of_rand_none : (s : Assignment (Qualifier 6)) → ¬ Equations (whole six) sum_of_rand_machine 3 s
sum_of_rand_none s e = let z : false ≡ true = cc (rand_not_below_ah, add_highest) in false≢true z

pub sum_of_rand_prints : PrintsOutput sum_of_rand
unfolding load_of refusal_of
sum_of_rand_prints =
    refused_prints sum_of_rand sum_of_rand_machine refl refl
    (refused_bounds six sum_of_rand_machine 2 (omega arith) (search depth 20) (search depth 20) sum_of_rand_none)
    refl

abbrev ah_plus_mh_machine : Machine
ah_plus_mh_machine = two_parameters 5 4 (Var 0 ∷ Var 1 ∷ Op 0 0 1 ∷ Lam 1 2 ∷ Lam 0 3 ∷ [])

-- AH is not MH.
ah_plus_mh_none : (s : Assignment (Qualifier 6)) → ¬ Equations (unordered six) ah_plus_mh_machine 3 s
ah_plus_mh_none s e = ah_not_mh cc

pub ah_plus_mh_prints : PrintsOutput ah_plus_mh
unfolding load_of refusal_of
ah_plus_mh_prints =
    refused_prints ah_plus_mh ah_plus_mh_machine refl refl
    (refused_qualifiers six ah_plus_mh_machine 2 (omega arith) (search depth 20) (search depth 20) ah_plus_mh_none)
    refl

abbrev x_applied_to_x_machine : Machine
x_applied_to_x_machine = one_parameter 7 (Var 0 ∷ Var 0 ∷ App 0 1 ∷ Lam 0 2 ∷ [])

-- The type of x would be an arrow from itself.
x_applied_to_x_none : (s : Assignment (Unit {0})) → ¬ Equations (erased six) x_applied_to_x_machine 3 s
x_applied_to_x_none s e =
    let own : (s.param 0).type ≡ arrow (s.row 1).qualifier (s.param 0).type (s.row 2).qualifier (s.row 2).type = cc in
    not_own_argument (s.param 0).type own

pub x_applied_to_x_prints : PrintsOutput x_applied_to_x
unfolding load_of refusal_of
x_applied_to_x_prints =
    refused_prints x_applied_to_x x_applied_to_x_machine refl refl
    (refused_shapes six x_applied_to_x_machine 2 (omega arith) (search depth 20) x_applied_to_x_none)
    refl

abbrev number_applied_to_number_machine : Machine
number_applied_to_number_machine = no_parameter (Num 1 ∷ Num 2 ∷ App 0 1 ∷ [])

-- INT is no arrow.
number_applied_to_number_none : (s : Assignment (Unit {0})) → ¬ Equations (erased six) number_applied_to_number_machine 3 s
number_applied_to_number_none s e = let z : false ≡ true = cc in false≢true z

pub number_applied_to_number_prints : PrintsOutput number_applied_to_number
unfolding load_of refusal_of
number_applied_to_number_prints =
    refused_prints number_applied_to_number number_applied_to_number_machine refl refl
    (refused_shapes six number_applied_to_number_machine 2 (omega arith) (search depth 20) number_applied_to_number_none)
    refl
