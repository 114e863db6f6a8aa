-- Free types: every qualifier is at or below RAND, but PLAIN with an arrow; and a type that no rule fixes is ANY.
use Prim.Native.Nat.{ℕ, zero, suc}
use lib.Dec.{lit<}
use mathlib.Core.List.{[], ◌∷◌}
use mathlib.Core.Path.{refl, sym}
use Rattle.scheme.specs.Qualifier.{Qualifier, plain}
use Rattle.scheme.specs.Six.{rand}
use Rattle.model.specs.Machine.{Machine}
use Rattle.model.specs.Typing.{Ty, int, arrow, PlainArrows, Assignment}
use Rattle.model.specs.Strength.{whole, six}
use Rattle.model.specs.declared.Term.TheVariants.{Lam, App, Var, Num}
use Rattle.starred.specs.Starred.{PrintsOutput, body_x, x_applied_to_number}
use Rattle.starred.proofs.Typings.{uniform, uniform_typing}
use Rattle.starred.proofs.Machines.{one_parameter}
use Rattle.starred.proofs.Bounds.{plain_below_plain, below_rand}
use Rattle.starred.proofs.Printed.{AllWithin, load_of, report_of, accepted_prints}

-- An arrow from a PLAIN INT to a PLAIN of the type.
abbrev plain_to : Ty (Qualifier 6) → Ty (Qualifier 6)
plain_to t = arrow plain int plain t

-- With PLAIN for its variable x is PLAIN, whatever the rows and the literals.
x_plain : (t : Ty (Qualifier 6)) → PlainArrows plain plain t → (p : ℕ) → PlainArrows plain ((uniform (whole six) (one_parameter 7 []) plain plain t).param p).qualifier t
x_plain t h zero = h
x_plain t h (suc p) = h

abbrev body_x_machine : Machine
body_x_machine = one_parameter 7 (Var 0 ∷ Lam 0 0 ∷ [])

abbrev body_x_first : Assignment (Qualifier 6)
body_x_first = uniform (whole six) body_x_machine rand rand int

abbrev body_x_second : Assignment (Qualifier 6)
body_x_second = uniform (whole six) body_x_machine plain plain (plain_to int)

body_x_within : AllWithin body_x_machine body_x_first body_x_second
body_x_within s e functions =
    let x = below_rand (s.variable 0) in
    (cc, cc, cc plain_below_plain)

pub body_x_prints : PrintsOutput body_x
unfolding load_of report_of
body_x_prints =
    accepted_prints body_x body_x_machine refl refl refl body_x_first body_x_second
    (uniform_typing (whole six) body_x_machine 2 rand rand int (search depth 30))
    (uniform_typing (whole six) body_x_machine 2 plain plain (plain_to int) (search x_plain depth 30))
    body_x_within refl

abbrev x_applied_to_number_machine : Machine
x_applied_to_number_machine = one_parameter 7 (Var 0 ∷ Num 3 ∷ App 0 1 ∷ Lam 0 2 ∷ [])

-- The NUM and the result are RAND, x is not.
abbrev x_applied_to_number_first : Assignment (Qualifier 6)
x_applied_to_number_first = uniform (whole six) x_applied_to_number_machine plain rand (arrow rand int rand int)

abbrev x_applied_to_number_second : Assignment (Qualifier 6)
x_applied_to_number_second = uniform (whole six) x_applied_to_number_machine plain plain (plain_to (plain_to int))

x_applied_to_number_within : AllWithin x_applied_to_number_machine x_applied_to_number_first x_applied_to_number_second
x_applied_to_number_within s e functions =
    let function : PlainArrows plain (s.variable 0) (arrow (s.row 1).qualifier (s.row 1).type (s.row 2).qualifier (s.row 2).type) =
    rw (e.1.0.0, sym e.2.0.1, e.2.1.1.0) at (functions.params 0 (lit< tt)) in
    let x = function.0 in
    (cc plain_below_plain, cc plain_below_plain, cc (plain_below_plain, below_rand (s.row 1).qualifier, below_rand (s.row 2).qualifier))

pub x_applied_to_number_prints : PrintsOutput x_applied_to_number
unfolding load_of report_of
x_applied_to_number_prints =
    accepted_prints x_applied_to_number x_applied_to_number_machine refl refl refl x_applied_to_number_first x_applied_to_number_second
    (uniform_typing (whole six) x_applied_to_number_machine 4 plain rand (arrow rand int rand int) (search x_plain depth 30))
    (uniform_typing (whole six) x_applied_to_number_machine 4 plain plain (plain_to (plain_to int)) (search x_plain depth 30))
    x_applied_to_number_within refl
