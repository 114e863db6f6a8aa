-- A value with its end, taken apart; and that an end is within the bytes.
use Prim.Native.Nat.{ℕ, ◌≤◌}
use native.Mathlib.Omega.{arith}
use mathlib.Core.List.{List}
use mathlib.Core.Path.{◌≡◌, refl, sym, ap, ◌∙◌}
use lib.ListN.{length, drop, length-drop}
use Rattle.std.specs.Prelude.{Option, Some, None}
use Rattle.std.proofs.lemmas.Option.{some_pair_parts}
use Rattle.model.specs.Number.{number_of}
use Rattle.model.proofs.Lists.{before_most}
use Rattle.model.proofs.Numerals.{number_numeral}
use Rattle.numbers.specs.NumberTo.{with_end, next_place, bytes_to, number_to}

pub next_within : (byte : ℕ) (s : List ℕ) (from : ℕ) → from ≤ length s → next_place byte s from ≤ length s
next_within byte s from h = omega (arith, before_most byte (drop from s), length-drop from s)

pub up_to : (f : Option ℕ) (place n end : ℕ) → with_end f place ≡ Some (n, end) → (f ≡ Some n) × (place ≡ end)
up_to (Some m) place n end e = let same : (m ≡ n) × (place ≡ end) = some_pair_parts m n place end e in (ap Some same.0, same.1)
up_to None place n end e = let z : ◌≡◌ {A = ℕ} 0 1 = cc in absurd (omega arith)

pub failed_to : (f : Option ℕ) (place : ℕ) → with_end f place ≡ None → f ≡ None
failed_to (Some n) place e = let z : ◌≡◌ {A = ℕ} 0 1 = cc in absurd (omega arith)
failed_to None place e = refl

-- What was read up to a byte.
module _ (byte most : ℕ) (s : List ℕ) (from : ℕ) (r : Option (ℕ × ℕ)) (e : r ≡ number_to byte most s from) where
  pub number_failed : r ≡ None → number_of most (bytes_to byte s from) ≡ None
  unfolding number_to
  number_failed is = failed_to (number_of most (bytes_to byte s from)) (next_place byte s from) (sym e ∙ is)

  module _ (n to : ℕ) (is : r ≡ Some (n, to)) where
    pub number_read : (number_of most (bytes_to byte s from) ≡ Some n) × (next_place byte s from ≡ to)
    unfolding number_to
    number_read = up_to (number_of most (bytes_to byte s from)) (next_place byte s from) n to (sym e ∙ is)

    pub number_most : n ≤ most
    number_most = (number_numeral most (bytes_to byte s from) n number_read.0).1

    pub number_within : from ≤ length s → to ≤ length s
    number_within h = omega (arith, number_read.1, next_within byte s from h)
