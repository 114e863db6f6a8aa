-- Free parameters. No sentence of document 02 names them; that none stands free in a run is what its steps rest on.
use Rattle.std.specs.Prelude.{ℕ, Bool, false, cond, ◌||◌, ◌≡◌, eqb}
use Rattle.dryrun.specs.Expression.{Expression, number, variable, function, apply, operate}

-- The parameter stands free in the expression.
abbrev pub free : ℕ → Expression → Bool
free p (number n tag) = false
free p (variable x) = eqb x p
free p (function x e) = cond (eqb x p) false (free p e)
free p (apply f a) = free p f || free p a
free p (operate o l r) = free p l || free p r

abbrev pub NoneFree : Expression → Type 0
NoneFree e = (p : ℕ) → free p e ≡ false
