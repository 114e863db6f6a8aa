-- Two lists of the same length, element by element.
use Rattle.std.specs.Prelude.{List, [], ◌∷◌}

-- The elements of one list stand in the relation to those of the other, in turn.
pub data InTurn {A : Type 0} (R : A → A → Type 0) : List A → List A → Type 0 where
  none : InTurn R [] []
  next : {x x' : A} {xs xs' : List A} → R x x' → InTurn R xs xs' → InTurn R (x ∷ xs) (x' ∷ xs')
