-- Refused programs: the rows before k have a typing, and those up to k have none at one of the three strengths.
use Prim.Native.Nat.{ℕ, suc, ◌+◌, ◌<◌}
use native.Mathlib.Omega.{arith}
use mathlib.Core.Path.{◌≡◌, ap}
use lib.ListN.{length}
use Rattle.model.specs.Machine.{Machine}
use Rattle.model.specs.Typing.{Ty, int, arrow, Rules, Assignment, Typable}
use Rattle.model.specs.Strength.{Schemes, whole, unordered, erased}
use Rattle.model.specs.Inference.{Cause, shapes, qualifiers, bounds, Refusal}
use Rattle.model.proofs.Fewer.{typable_fewer}
use Rattle.model.proofs.Weaker.{weaker_rules, whole_unordered, unordered_erased}
use Rattle.starred.proofs.Typings.{Equations, follows_equations, uniform, UniformTyped, uniform_typing}

-- No type contains itself: an arrow is larger than its argument.
abbrev size : {Q : Type 0} → Ty Q → ℕ
size int = 0
size (arrow q t q' t') = suc (size t + size t')

pub not_own_argument : {Q : Type 0} (t : Ty Q) {q q' : Q} {t' : Ty Q} → ¬ (t ≡ arrow q t q' t')
not_own_argument t e = let same = ap size e in omega (arith, same)

-- A refusal has a number.
cause_number : {S : Schemes} {m : Machine} {k number : ℕ} → Cause S m k number → ¬ (number ≡ 0)
cause_number (shapes none) e = omega arith
cause_number (qualifiers some none) e = omega arith
cause_number (bounds some) e = omega arith

pub refusal_number : {S : Schemes} {m : Machine} {number k : ℕ} → Refusal S m number k → ¬ (number ≡ 0)
refusal_number refusal = cause_number refusal.cause

-- The first k rows have the typing with PLAIN for all variables and literals and INT for all type rows.
abbrev pub Plainly : (R : Rules) → Machine → ℕ → Type 0
Plainly R m k = UniformTyped R m k (R.word 0) (R.word 0) int

plainly_typable : (R : Rules) (m : Machine) (k : ℕ) → Plainly R m k → Typable R m k
plainly_typable R m k e = (uniform R m (R.word 0) (R.word 0) int, uniform_typing R m k (R.word 0) (R.word 0) int e)

module _ (S : Schemes) (m : Machine) (k : ℕ) (in_list : k < length m.terms) (before : Plainly (whole S) m k) where
  untypable : (R : Rules) → ((s : Assignment R.Q) → ¬ Equations R m (k + 1) s) → ¬ Typable R m (k + 1)
  untypable R none (s, typing) = none s (follows_equations R m (k + 1) s (omega arith) typing.follows)

  refusal : {number : ℕ} → ¬ Typable (whole S) m (k + 1) → Cause S m (k + 1) number → Refusal S m number k
  refusal none cause =
      record {
        in_list = in_list;
        before = λ j below. typable_fewer (omega arith) (plainly_typable (whole S) m k before);
        none = none;
        cause = cause;
      }

  pub refused_shapes : ((s : Assignment (Unit {0})) → ¬ Equations (erased S) m (k + 1) s) → Refusal S m 21 k
  refused_shapes none =
      let no-erased = untypable (erased S) none in
      refusal (λ t. no-erased (weaker_rules (unordered_erased S) (weaker_rules (whole_unordered S) t))) (shapes no-erased)

  pub refused_qualifiers : Plainly (erased S) m (k + 1) → ((s : Assignment S.Q) → ¬ Equations (unordered S) m (k + 1) s) → Refusal S m 22 k
  refused_qualifiers some none =
      let no-unordered = untypable (unordered S) none in
      refusal (λ t. no-unordered (weaker_rules (whole_unordered S) t)) (qualifiers (plainly_typable (erased S) m (k + 1) some) no-unordered)

  pub refused_bounds : Plainly (unordered S) m (k + 1) → ((s : Assignment S.Q) → ¬ Equations (whole S) m (k + 1) s) → Refusal S m 23 k
  refused_bounds some none = refusal (untypable (whole S) none) (bounds (plainly_typable (unordered S) m (k + 1) some))
