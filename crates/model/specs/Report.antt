-- The report's bytes.
-- Document 01, "The report"; document 02, d).
use Rattle.std.specs.Prelude.{ℕ, zero, suc, ◌+◌, cond, List, [], ◌∷◌, ◌++◌, length}
use Rattle.model.specs.Lists.{bytes}
use Rattle.model.specs.Number.{decimal}
use Rattle.model.specs.Word.{qualifier_word}
use Rattle.scheme.specs.Schemes.{words}
use Rattle.model.specs.Machine.{Machine}
use Rattle.model.specs.Inference.{Slot, variable, param, row, Shape, mentions}

-- Fields parted by commas.
abbrev pub joined : List (List ℕ) → List ℕ
joined [] = []
joined (f ∷ []) = f
joined (f ∷ g ∷ fs) = f ++ (44 ∷ joined (g ∷ fs))

-- "Lines ended by a line feed"
unfoldable pub line : List (List ℕ) → List ℕ
line fs = joined fs ++ (10 ∷ [])

unfoldable pub shape_word : Shape → List ℕ
shape_word Shape.int = bytes "INT"
shape_word Shape.arrow = bytes "ARROW"
shape_word Shape.any = bytes "ANY"

-- n lines, for the numbers from i on.
unfoldable pub lines : (ℕ → List ℕ) → ℕ → ℕ → List ℕ
lines f i zero = []
lines f i (suc n) = f i ++ lines f (i + 1) n

module _ (m : Machine) (word : Slot → ℕ) (shape : Slot → Shape) where
  -- The word of a code, by the machine's scheme table.
  abbrev word_at : ℕ → List ℕ
  word_at c = qualifier_word m.schemes.names c

  -- "`G,k,word` for each named variable in any T line or in the present qualifier of any parameter, rising"
  unfoldable pub variable_line : ℕ → List ℕ
  variable_line k = cond (mentions m (k + words m.schemes)) (line (bytes "G" ∷ decimal k ∷ word_at (word (variable k)) ∷ [])) []

  -- "`P,p,word,shape`"
  unfoldable pub param_line : ℕ → List ℕ
  param_line p = line (bytes "P" ∷ decimal p ∷ word_at (word (param p)) ∷ shape_word (shape (param p)) ∷ [])

  -- "`E,i,word,shape`"
  unfoldable pub row_line : ℕ → List ℕ
  row_line i = line (bytes "E" ∷ decimal i ∷ word_at (word (row i)) ∷ shape_word (shape (row i)) ∷ [])

  -- "`OK,parameters,rows`", then the variables, the parameters and the rows.
  unfoldable pub report : List ℕ
  report =
      line (bytes "OK" ∷ decimal (length m.params) ∷ decimal (length m.terms) ∷ [])
      ++ lines variable_line 0 64
      ++ lines param_line 0 (length m.params)
      ++ lines row_line 0 (length m.terms)
