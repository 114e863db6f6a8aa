-- A row's children as a list.
use Rattle.std.specs.Prelude.{ℕ, List, [], ◌∷◌}
use Rattle.checks.specs.declared.term.Children.{Children}
use Rattle.checks.specs.declared.term.Children.TheVariants.{Nothing, One, Two}

abbrev pub listed : Children → List ℕ
listed Nothing = []
listed (One only) = only ∷ []
listed (Two first second) = first ∷ second ∷ []
