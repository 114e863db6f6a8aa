-- The parameter that a VAR names.
use Rattle.std.specs.Prelude.{ℕ, List, [], ◌∷◌}
use Rattle.model.specs.declared.Term.{Term}
use Rattle.model.specs.declared.Term.TheVariants.{Lam, App, Op, Var, Num, Enc}

abbrev pub reads : Term → List ℕ
reads (Lam p b) = []
reads (App f a) = []
reads (Op o l r) = []
reads (Var p) = p ∷ []
reads (Num n) = []
reads (Enc s n) = []
