-- The numbers that the calls which change the machine return: an add's are at most 8, a redeclare's and a take-back's at most 12; a scheme file's at most 27.
use Prim.Native.Nat.{ℕ, ◌≤◌}
use native.Mathlib.Omega.{arith}
use mathlib.Core.Bool.{Bool, true, false, cond}
use mathlib.Core.List.{List, [], ◌∷◌}
use mathlib.Core.Path.{◌≡◌, refl}
use lib.Dec.{leb}
use borrow.Author.Tests.{leb-true}
use Rattle.scheme.proofs.Every.{and_left, and_right}
use Rattle.model.specs.Lists.{all_of}
use Rattle.model.specs.Line.{line_of}
use Rattle.model.specs.Machine.{Machine, first_failing, type_refusal, param_refusal, term_refusal, settled, entered, added, redeclared, taken_back}
use Rattle.model.specs.SchemeFile.{scheme_refusal, opened_with, opened}
use Rattle.model.specs.declared.Line.{Line}
use Rattle.model.specs.declared.Line.TheVariants.{TypeLine, ParamLine, TermLine, NoForm}

-- Where every check's number is within a limit, so is the first that fails.
failing_most : (most : ℕ) (checks : List (ℕ × Bool)) → all_of (λ check. leb check.0 most) checks ≡ true → first_failing checks ≤ most
unfolding first_failing
failing_most most [] h = omega arith
failing_most most ((n, holds) ∷ checks) h = by holds (failing_most most checks (and_right (leb n most) _ h))
  where
    by : (t : Bool) → first_failing checks ≤ most → cond t (first_failing checks) n ≤ most
    by true rest = rest
    by false rest = leb-true n most (and_left _ (all_of (λ check. leb check.0 most) checks) h)

entered_most : (m : Machine) (line : Line) → (entered m line).number ≤ 8
unfolding entered settled type_refusal param_refusal term_refusal
entered_most m (TypeLine i form) = failing_most 8 _ refl
entered_most m (ParamLine p param) = failing_most 8 _ refl
entered_most m (TermLine i term) = failing_most 8 _ refl
entered_most m NoForm = omega arith

pub added_most : (m : Machine) (s : List ℕ) → (added m s).number ≤ 8
unfolding added
added_most m s = entered_most m (line_of m.schemes.names s)

pub redeclared_most : (m : Machine) (p code : ℕ) → (redeclared m p code).number ≤ 12
unfolding redeclared settled
redeclared_most m p code = failing_most 12 _ refl

pub taken_back_most : (m : Machine) → (taken_back m).number ≤ 12
unfolding taken_back settled
taken_back_most m = failing_most 12 _ refl

pub opened_most : (file : List ℕ) → (opened file).number ≤ 27
unfolding opened_with scheme_refusal
opened_most file = failing_most 27 _ refl
