-- An array is held where each of its entries is.
use Prim.Native.Nat.{ℕ, suc, ◌≤◌, ◌<◌}
use mathlib.Core.List.{List, [], ◌∷◌, map}
use mathlib.Core.Path.{◌≡◌, refl}
use lib.ListN.{length, get_or}
use mir.Val.{Val}
use denote.RattleType.{RattleType}
use denote.Laws.{Is}
use denote.Shadow.{shadow}
use denote.Array.{Array, each, array_val}
use Rattle.answered.proofs.Entries.{filled, length-filled, each_filled}

-- A value is held where its type's relation has it at the machine value that the type gives it.
abbrev pub Held : (R : RattleType) → (R.Denot → Val) → R.Denot → Type 0
Held R val x = Is R x (val x ∷ [])

-- The machine value of an array, of its entries'.
abbrev pub array_of : {A : Type 0} → (A → Val) → List A → Val
array_of val xs = array_val (map val xs)

module _ (R : RattleType) (val : R.Denot → Val) (d : R.Denot) where
  each_held : (xs : List R.Denot) → ((i : ℕ) → Held R val (get_or xs i d)) → shadow (each R.Denot R.own_val xs (map val xs))
  each_held [] h = tt
  each_held (x ∷ xs) h = (h 0, each_held xs (λ i. h (suc i)))

  pub array_held : (n : ℕ) (xs : List R.Denot) → length xs ≡ n → ((i : ℕ) → Held R val (get_or xs i d)) → Held (Array R n) (array_of val) xs
  array_held n xs whole h = (map val xs, ((refl, whole), each_held xs h))

  -- a list that is filled up: each entry that stands, and the one that fills it
  pub filled_held : (n : ℕ) (xs : List R.Denot) → length xs ≤ n → Held R val d → ((i : ℕ) → i < length xs → Held R val (get_or xs i d)) → Held (Array R n) (array_of val) (filled n d xs)
  filled_held n xs fits past h = array_held n (filled n d xs) (length-filled n d xs fits) (each_filled (Held R val) d past n xs h)
