-- `==` on bytes is the definition's test for the same bytes.
use Prim.Native.Nat.{ℕ}
use mathlib.Core.Bool.{◌&&◌}
use mathlib.Core.List.{List, [], ◌∷◌}
use mathlib.Core.Path.{◌≡◌, refl, ap}
use lib.Dec.{eqb}
use Rattle.std.specs.Cmp.Lexicographic.{pointwise}
use Rattle.model.specs.Lists.{same}

pub pointwise_same : (s t : List ℕ) → pointwise eqb s t ≡ same s t
pointwise_same [] [] = refl
pointwise_same [] (b ∷ bs) = refl
pointwise_same (a ∷ as') [] = refl
pointwise_same (a ∷ as') (b ∷ bs) = ap (λ rest. eqb a b && rest) (pointwise_same as' bs)
