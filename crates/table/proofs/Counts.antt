-- The lengths of a table's arrays and of its lists.
use Prim.Native.Nat.{ℕ, ◌≤◌, min}
use native.Mathlib.Omega.{arith}
use mathlib.Core.List.{List}
use mathlib.Core.Path.{◌≡◌}
use denote.Laws.{Is}
use denote.Struct.Laws as Struct
use lib.ListN.{length, take, length-take}
use Rattle.table.specs.Lists.{lists}
use Rattle.table.specs.declared.Table.{Table}
use Rattle.table.specs.contracts.Table as TableType
use Rattle.table.proofs.Table.TheLaws as TableLaws

-- What owning a table tells.
abbrev pub Owned : Table → Type 0
Owned t = Is TableType.the_row t (Struct.vals TableType.the_type TableLaws.the_laws t)

module _ (t : Table) (owned : Owned t) where
  pub types_whole : length t.types ≡ 64
  types_whole = (Struct.owed TableType.the_type TableLaws.the_laws t _ owned).0.1.0.1

  pub params_whole : length t.params ≡ 64
  params_whole = (Struct.owed TableType.the_type TableLaws.the_laws t _ owned).1.0.1.0.1

  pub terms_whole : length t.terms ≡ 256
  terms_whole = (Struct.owed TableType.the_type TableLaws.the_laws t _ owned).1.1.0.1.0.1

-- A count past the array's end says all of it.
pub counted : {A : Type 0} (l : List A) (count limit n : ℕ) → length l ≡ limit → n ≡ min count limit → (n ≡ length (take count l)) × (n ≤ limit)
counted l count limit n whole e = (rw (length-take, whole) e, omega arith)

module _ (t : Table) (owned : Owned t) (n : ℕ) where
  pub types_counted : n ≡ min t.typecount 64 → (n ≡ length (lists t).types) × (n ≤ 64)
  unfolding lists
  types_counted e = counted _ _ 64 n (types_whole t owned) e

  pub params_counted : n ≡ min t.paramcount 64 → (n ≡ length (lists t).params) × (n ≤ 64)
  unfolding lists
  params_counted e = counted _ _ 64 n (params_whole t owned) e

  pub terms_counted : n ≡ min t.termcount 256 → (n ≡ length (lists t).terms) × (n ≤ 256)
  unfolding lists
  terms_counted e = counted _ _ 256 n (terms_whole t owned) e
