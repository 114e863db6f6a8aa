-- What the ruling of the six is made of.
use Prim.Native.Nat.{ℕ, ◌+◌, ◌*◌, ◌/◌, ◌%◌, ◌<◌}
use native.Mathlib.Omega.{arith}
use mathlib.Core.List.{List}
use mathlib.Core.Path.{◌≡◌, sym, ◌∙◌}
use Rattle.scheme.specs.Filled.{Filled}
use Rattle.scheme.specs.Meet.{meet_of}
use Rattle.scheme.specs.Operation.{highest_of}
use Rattle.scheme.specs.Six.{six_table}
use Rattle.scheme.proofs.Six.{six_meets, six_highest, six_top}
use Rattle.derive.specs.Derives.{IsDerived}

pub six_derived : (meets highest : List ℕ) → Filled 0 81 (λ i c. (i / 9 < 7) × (i % 9 < 7) → c ≡ meet_of (i / 9) (i % 9)) 81 meets → Filled 0 5 (λ o c. c ≡ highest_of o) 5 highest → IsDerived six_table (record { meets = meets; highest = highest; top = 6 })
six_derived meets highest m h =
    record {
      meets = λ a b ha hb.
          let row : (a * 9 + b) / 9 ≡ a = omega arith in
          let place : (a * 9 + b) % 9 ≡ b = omega arith in
          rw (row, place) at (m.held (a * 9 + b) (omega arith) (omega arith, omega arith)) ∙ sym (six_meets a b ha hb);
      highest = λ o below. h.held o below ∙ sym (six_highest o below);
      top = sym six_top;
    }
