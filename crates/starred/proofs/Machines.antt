-- Machines over the built-in six by the codes of their parameters' qualifiers (6 is RAND, 7 is `g0`) and by their terms (`Op 0` is ADD, `Op 1` MUL, `Op 2` EQ, `Op 3` LT).
use Prim.Native.Nat.{ℕ}
use mathlib.Core.List.{List, [], ◌∷◌, map}
use Rattle.scheme.specs.Six.{six_table}
use Rattle.model.specs.Machine.{Machine}
use Rattle.model.specs.declared.Param.{Param}
use Rattle.model.specs.declared.TermRow.{TermRow}
use Rattle.model.specs.declared.Term.{Term}
use Rattle.model.specs.declared.TypeForm.TheVariants.{Any}

abbrev rows : List Term → List TermRow
rows terms = map (λ term. record { term = term }) terms

abbrev pub no_parameter : List Term → Machine
no_parameter terms = record { schemes = six_table; types = []; params = []; terms = rows terms }

-- A P line of four fields: its floor is PLAIN.
abbrev parameter : ℕ → ℕ → Param
parameter qualifier typerow = record { qualifier = qualifier; floor = 0; typerow = typerow }

-- "parameters x, y with type ANY"
abbrev pub one_parameter : ℕ → List Term → Machine
one_parameter x terms = record { schemes = six_table; types = record { form = Any } ∷ []; params = parameter x 0 ∷ []; terms = rows terms }

abbrev pub two_parameters : ℕ → ℕ → List Term → Machine
two_parameters x y terms =
    record {
      schemes = six_table;
      types = record { form = Any } ∷ record { form = Any } ∷ [];
      params = parameter x 0 ∷ parameter y 1 ∷ [];
      terms = rows terms;
    }
