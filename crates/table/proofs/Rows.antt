-- The rows that stand, and a test of them that a chain of iterators makes.
use Prim.Native.Nat.{ℕ}
use mathlib.Core.Bool.{Bool, ◌||◌}
use mathlib.Core.List.{List, [], ◌∷◌}
use mathlib.Core.Path.{◌≡◌, refl, ap}
use lib.ListN.{length, take, length-take}
use Rattle.std.specs.List.{list_any}
use Rattle.std.proofs.lemmas.List.{take_min}
use Rattle.model.specs.Lists.{any_of}
use Rattle.table.specs.Lists.{lists}
use Rattle.table.specs.declared.Table.{Table}

pub any_listed : {A : Type 0} (test : A → Bool) (xs : List A) → list_any test xs ≡ any_of test xs
any_listed test [] = refl
any_listed test (x ∷ xs) = ap (λ (rest : Bool). test x || rest) (any_listed test xs)

-- As many rows as stand are those that stand.
pub rows_standing : (t : Table) (n : ℕ) → n ≡ length (lists t).terms → take n t.terms ≡ (lists t).terms
unfolding lists
rows_standing t n e = rw (e, length-take, take_min)
