-- The built-in six: accepted, and their order, meets and highest schemes are those of document 01, each by one computed test.
use mathlib.Core.Path.{◌≡◌, refl}
use mathlib.Core.Bool.{beq}
use Prim.Native.Nat.{ℕ, ◌<◌}
use native.Mathlib.Omega.{arith}
use lib.Dec.{eqb}
use borrow.Author.Tests.{eqb-true}
use Rattle.scheme.specs.Six.{six_table}
use Rattle.scheme.specs.Schemes.{is_name, names_differ, below, greatest, top_of, meet_of, highest_of, bits_differ, has_meets, has_highest, Sound}
use Rattle.scheme.specs.Order.{at_or_below}
use Rattle.scheme.specs.Meet as Constant
use Rattle.scheme.specs.Operation as Base
use Rattle.scheme.proofs.Every.{beq-true, every_at, every_pair_at}

pub six_sound : Sound six_table
unfolding is_name names_differ bits_differ has_meets has_highest greatest below
six_sound =
    record {
      some = omega arith;
      few = omega arith;
      named = refl;
      names_apart = refl;
      counted = refl;
      five = refl;
      differ = refl;
      meets = refl;
      highest = refl;
    }

pub six_order : (a b : ℕ) → a < 7 → b < 7 → below six_table a b ≡ at_or_below a b
unfolding below at_or_below
six_order a b code_a code_b = beq-true _ _ (every_pair_at 7 (λ a b. beq (below six_table a b) (at_or_below a b)) refl a b code_a code_b)

pub six_meets : (a b : ℕ) → a < 7 → b < 7 → meet_of six_table a b ≡ Constant.meet_of a b
unfolding greatest below Constant.meet_of Constant.meets
six_meets a b code_a code_b = eqb-true _ _ (every_pair_at 7 (λ a b. eqb (meet_of six_table a b) (Constant.meet_of a b)) refl a b code_a code_b)

pub six_highest : (o : ℕ) → o < 5 → highest_of six_table o ≡ Base.highest_of o
unfolding greatest below Base.highest_of
six_highest o in_range = eqb-true _ _ (every_at 5 (λ o. eqb (highest_of six_table o) (Base.highest_of o)) refl o in_range)

pub six_top : top_of six_table ≡ 6
unfolding greatest below
six_top = refl
