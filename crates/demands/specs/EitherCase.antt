-- Lines and calls that differ in the case of words alone.
-- Document 02, c).
use Rattle.std.specs.Prelude.{ℕ, List, ◌≡◌}
use Rattle.model.specs.Word.{capitals, variable_of}
use Rattle.model.specs.Line.{field}
use Rattle.model.specs.Session.{Call, add}

-- "qualifier, kind and operation words in either case, also mixed. The tags T, P, E and the `g` of a variable stay fixed": two lines with the same
-- capitals, the same tag and the same variables.
pub record SameButCase (s t : List ℕ) : Type 0 where
  pub same_capitals : capitals s ≡ capitals t
  pub same_tag : field s 0 ≡ field t 0
  pub same_variables : (n k : ℕ) → variable_of n (field s k) ≡ variable_of n (field t k)

-- The same call, but for the case of words in a line that it adds.
pub data SameCallButCase : Call → Call → Type 0 where
  same_call : {call : Call} → SameCallButCase call call
  both_add : {s t : List ℕ} → SameButCase s t → SameCallButCase (add s) (add t)
