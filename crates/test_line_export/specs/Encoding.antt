-- A line as six numbers, for a caller that knows no enum: the form, the line's own number, what the form holds, and 0 beyond.
use Rattle.std.specs.Prelude.{ℕ, cond, List, [], ◌∷◌, ◌++◌, ◌≡◌, leb, length, drop}
use Rattle.scheme.specs.Six.{six_table}
use Rattle.model.specs.Line.{line_of}
use Rattle.model.specs.declared.TypeForm.{TypeForm}
use Rattle.model.specs.declared.TypeForm.TheVariants.{Int, Any, Arrow}
use Rattle.model.specs.declared.Term.{Term}
use Rattle.model.specs.declared.Term.TheVariants.{Lam, App, Op, Var, Num, Enc}
use Rattle.model.specs.declared.Line.{Line}
use Rattle.model.specs.declared.Line.TheVariants.{TypeLine, ParamLine, TermLine, NoForm}

abbrev pub type_numbers : ℕ → TypeForm → List ℕ
type_numbers i Int = 1 ∷ i ∷ 0 ∷ 0 ∷ 0 ∷ 0 ∷ []
type_numbers i Any = 2 ∷ i ∷ 0 ∷ 0 ∷ 0 ∷ 0 ∷ []
type_numbers i (Arrow q t q' t') = 3 ∷ i ∷ q ∷ t ∷ q' ∷ t' ∷ []

abbrev pub term_numbers : ℕ → Term → List ℕ
term_numbers i (Lam p b) = 5 ∷ i ∷ p ∷ b ∷ 0 ∷ 0 ∷ []
term_numbers i (App f a) = 6 ∷ i ∷ f ∷ a ∷ 0 ∷ 0 ∷ []
term_numbers i (Op o l r) = 7 ∷ i ∷ o ∷ l ∷ r ∷ 0 ∷ []
term_numbers i (Var p) = 8 ∷ i ∷ p ∷ 0 ∷ 0 ∷ 0 ∷ []
term_numbers i (Num n) = 9 ∷ i ∷ n ∷ 0 ∷ 0 ∷ 0 ∷ []
term_numbers i (Enc e n) = 10 ∷ i ∷ e ∷ n ∷ 0 ∷ 0 ∷ []

abbrev pub numbers : Line → List ℕ
numbers (TypeLine i form) = type_numbers i form
numbers (ParamLine p param) = 4 ∷ p ∷ param.qualifier ∷ param.typerow ∷ param.floor ∷ 0 ∷ []
numbers (TermLine i term) = term_numbers i term
numbers NoForm = 0 ∷ 0 ∷ 0 ∷ 0 ∷ 0 ∷ 0 ∷ []

-- How many numbers a call writes at the start of a buffer: six, or none where the buffer is shorter.
unfoldable pub written : List ℕ → ℕ
written out = cond (leb 6 (length out)) 6 0

-- The buffer after the call.
unfoldable pub after : List ℕ → List ℕ → List ℕ
after s out = cond (leb 6 (length out)) (numbers (line_of six_table.names s) ++ drop 6 out) out

-- What a call on the bytes s and the buffer out returns, and what it leaves in the buffer.
pub record ReadInto (s out : List ℕ) (count : ℕ) (out' : List ℕ) : Type 0 where
  pub counted : count ≡ written out
  pub left : out' ≡ after s out
