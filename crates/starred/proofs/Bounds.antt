-- What the table of the built-in six says of the qualifiers that the starred programs meet.
use Prim.Native.Nat.{ℕ}
use native.Mathlib.Omega.{arith}
use mathlib.Core.Bool.{true, false}
use mathlib.Core.Path.{◌≡◌, refl, ap}
use lib.Dec.{ltb, lit<}
use borrow.Author.Tests.{ltb-true}
use Rattle.scheme.specs.Qualifier.{Qualifier, code}
use Rattle.scheme.specs.Schemes.{below, greatest, meet_of, highest_of, supports}
use Rattle.scheme.specs.Six.{six_table, mh, ah}
use Rattle.scheme.proofs.Qualifier.{code_below, code_qualifier}
use Rattle.scheme.proofs.Schemes.{plain_lowest, top_greatest, meet_greatest, highest_code, highest_supports}
use Rattle.scheme.proofs.Six.{six_sound, six_top}
use Rattle.model.specs.Strength.{six}

pub plain_below_plain : below six_table 0 0 ≡ true
plain_below_plain = plain_lowest six_table 0

pub rand_not_below_ah : below six_table 6 5 ≡ false
unfolding below
rand_not_below_ah = refl

pub ah_not_mh : ¬ (ah ≡ mh)
ah_not_mh e = let same = ap code e in omega (arith, same)

pub below_rand : (q : Qualifier 6) → below six_table (code q) 6 ≡ true
below_rand q = rw six_top at (top_greatest six_sound (code q) (code_below q))

-- The meet of AH and MH is FHE.
meet_fhe : meet_of six_table 5 4 ≡ 1
unfolding greatest below
meet_fhe = refl

pub below_fhe : (q : Qualifier 6) → below six_table (code q) 5 ≡ true → below six_table (code q) 4 ≡ true → below six_table (code q) 1 ≡ true
below_fhe q ah mh = rw meet_fhe at (meet_greatest six_sound 5 4 (lit< tt) (lit< tt) (code q) ah mh)

-- A qualifier that supports an operation fits it: it is at or below the highest that does.
pub fitting : (o : ℕ) (q : Qualifier 6) → ltb o 5 ≡ true → supports six_table (code q) o ≡ true → below six_table (code q) (code (six.highest o)) ≡ true
fitting o q operation supported =
    let in_range = ltb-true o 5 operation in
    rw (code_qualifier 6 (highest_of six_table o) (highest_code six_sound o in_range), highest_supports six_sound o (code q) in_range (code_below q)) supported

-- The highest scheme of ADD is AH, of MUL is MH, of EQ is DET, of LT is OP.
pub add_highest : code (six.highest 0) ≡ 5
unfolding greatest below
add_highest = refl

pub mul_highest : code (six.highest 1) ≡ 4
unfolding greatest below
mul_highest = refl

pub eq_highest : code (six.highest 2) ≡ 3
unfolding greatest below
eq_highest = refl

pub lt_highest : code (six.highest 3) ≡ 2
unfolding greatest below
lt_highest = refl
