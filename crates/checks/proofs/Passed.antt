-- What the checks of an add that was accepted say.
use Prim.Native.Nat.{ℕ, ◌<◌}
use native.Mathlib.Omega.{arith}
use mathlib.Core.Bool.{true, not, ◌&&◌}
use mathlib.Core.Path.{◌≡◌}
use lib.Dec.{ltb}
use lib.ListN.{length}
use borrow.Author.Tests.{eqb-true, ltb-true}
use Rattle.model.specs.Lists.{any_of, all_of}
use Rattle.model.specs.Machine.{Machine, children, named, binds, parts, used, bound, twice, type_refusal, param_refusal, term_refusal}
use Rattle.model.specs.declared.TypeForm.{TypeForm}
use Rattle.model.specs.declared.Param.{Param}
use Rattle.model.specs.declared.Term.{Term}
use Rattle.model.proofs.Checks.{passed}

pub record TypePassed (m : Machine) (i : ℕ) (form : TypeForm) : Type 0 where
  pub next : i ≡ length m.types
  pub room : length m.types < 64
  pub below : all_of (λ t. ltb t i) (parts form) ≡ true

pub type_passed : (m : Machine) (i : ℕ) (form : TypeForm) → type_refusal m i form ≡ 0 → TypePassed m i form
unfolding type_refusal
type_passed m i form e =
    let two = passed 2 _ _ (omega arith) e in
    let three = passed 3 _ _ (omega arith) two.1 in
    let four = passed 4 _ _ (omega arith) three.1 in
    record { next = eqb-true i _ two.0; room = ltb-true _ 64 three.0; below = four.0 }

pub record ParamPassed (m : Machine) (param : Param) : Type 0 where
  pub room : length m.params < 64
  pub declared : param.typerow < length m.types

pub param_passed : (m : Machine) (p : ℕ) (param : Param) → param_refusal m p param ≡ 0 → ParamPassed m param
unfolding param_refusal
param_passed m p param e =
    let two = passed 2 _ _ (omega arith) e in
    let three = passed 3 _ _ (omega arith) two.1 in
    let four = passed 4 _ _ (omega arith) three.1 in
    record { room = ltb-true _ 64 three.0; declared = ltb-true _ _ four.0 }

pub record TermPassed (m : Machine) (i : ℕ) (term : Term) : Type 0 where
  pub next : i ≡ length m.terms
  pub room : length m.terms < 256
  pub declared : all_of (λ p. ltb p (length m.params)) (named term) ≡ true
  pub below : all_of (λ c. ltb c i) (children term) ≡ true
  pub free : (not (any_of (used m.terms) (children term)) && not (twice (children term))) ≡ true
  pub unbound : not (any_of (bound m.terms) (binds term)) ≡ true

pub term_passed : (m : Machine) (i : ℕ) (term : Term) → term_refusal m i term ≡ 0 → TermPassed m i term
unfolding term_refusal
term_passed m i term e =
    let two = passed 2 _ _ (omega arith) e in
    let three = passed 3 _ _ (omega arith) two.1 in
    let five = passed 5 _ _ (omega arith) three.1 in
    let six = passed 6 _ _ (omega arith) five.1 in
    let seven = passed 7 _ _ (omega arith) six.1 in
    let eight = passed 8 _ _ (omega arith) seven.1 in
    record { next = eqb-true i _ two.0; room = ltb-true _ 256 three.0; declared = five.0; below = six.0; free = seven.0; unbound = eight.0 }
