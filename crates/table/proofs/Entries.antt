-- The entries that stand are those of the arrays.
use Prim.Native.Nat.{ℕ, ◌<◌}
use native.Mathlib.Omega.{arith}
use mathlib.Core.List.{List}
use mathlib.Core.Path.{◌≡◌}
use lib.ListN.{length, take, get_or, length-take}
use lib.Seq.{get_or-take}
use Rattle.model.specs.Machine.{no_type_row, no_param, no_term_row}
use Rattle.table.specs.Lists.{lists}
use Rattle.table.specs.declared.Table.{Table}

-- An entry of a front part is the list's.
pub taken : {A : Type 0} (xs : List A) (k i : ℕ) (d : A) → i < length (take k xs) → (i < length xs) × (get_or (take k xs) i d ≡ get_or xs i d)
taken xs k i d h = let below : (i < k) × (i < length xs) = omega (arith, simp length-take at h) in (below.1, get_or-take k xs i d below.0)

module _ (t : Table) (i : ℕ) where
  pub type_at : i < length (lists t).types → get_or (lists t).types i no_type_row ≡ get_or t.types i no_type_row
  unfolding lists
  type_at h = (taken t.types t.typecount i no_type_row h).1

  pub param_at_lem : i < length (lists t).params → get_or (lists t).params i no_param ≡ get_or t.params i no_param
  unfolding lists
  param_at_lem h = (taken t.params t.paramcount i no_param h).1

  pub row_at : i < length (lists t).terms → get_or (lists t).terms i no_term_row ≡ get_or t.terms i no_term_row
  unfolding lists
  row_at h = (taken t.terms t.termcount i no_term_row h).1
