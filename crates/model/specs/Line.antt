-- Which bytes are which line.
-- Document 01, "Lines and the table"; document 02, a) and d).
use Rattle.std.specs.Prelude.{ℕ, Bool, cond, List, [], ◌∷◌, eqb, leb, length, get_or, Option, Some, None}
use Rattle.model.specs.Lists.{same, bytes}
use Rattle.model.specs.Number.{number_of}
use Rattle.model.specs.Word.{spells, word_of, qualifier_of, scheme_of, operation_of}
use Rattle.model.specs.declared.TypeForm.TheVariants.{Int, Any, Arrow}
use Rattle.model.specs.declared.Term.TheVariants.{Lam, App, Op, Var, Num, Enc}
use Rattle.model.specs.declared.Line.{Line}
use Rattle.model.specs.declared.Line.TheVariants.{TypeLine, ParamLine, TermLine, NoForm}

-- A byte more in front of the first field.
abbrev pub onto : ℕ → List (List ℕ) → List (List ℕ)
onto b [] = (b ∷ []) ∷ []
onto b (f ∷ fs) = (b ∷ f) ∷ fs

-- The fields of a line, parted at each comma.
abbrev pub fields : List ℕ → List (List ℕ)
fields [] = [] ∷ []
fields (b ∷ bs) = cond (eqb b 44) ([] ∷ fields bs) (onto b (fields bs))

-- "line by line (a last line without line feed counts if not empty)": the lines of a text, or of a file.
abbrev pub lines_of : List ℕ → List (List ℕ)
lines_of [] = []
lines_of (b ∷ bs) = cond (eqb b 10) ([] ∷ lines_of bs) (onto b (lines_of bs))

-- Field k, counted from 0; empty where there are fewer.
abbrev pub field : List ℕ → ℕ → List ℕ
field s k = get_or (fields s) k []

-- "every other number is 0 to 65535"
abbrev pub number : List ℕ → ℕ → Option ℕ
number s k = number_of 65535 (field s k)

-- "`n` is 0 to 4294967295"
abbrev pub literal : List ℕ → ℕ → Option ℕ
literal s k = number_of 4294967295 (field s k)

-- Words follow the scheme table's names.
abbrev pub qualifier : List (List ℕ) → List ℕ → ℕ → Option ℕ
qualifier names s k = qualifier_of names (field s k)

-- Document 02, a): "A P line may carry a fifth field, one of the .. qualifier words; four fields mean PLAIN." Any other count has no floor.
unfoldable pub floor : List (List ℕ) → List ℕ → Option ℕ
floor names s = cond (eqb (length (fields s)) 4) (Some 0) (cond (eqb (length (fields s)) 5) (word_of names (field s 4)) None)

abbrev pub scheme : List (List ℕ) → List ℕ → ℕ → Option ℕ
scheme names s k = scheme_of names (field s k)

abbrev pub operation : List ℕ → ℕ → Option ℕ
operation s k = operation_of (field s k)

-- A field's value goes into the rest; without one the line has none of the forms.
unfoldable pub given : Option ℕ → (ℕ → Line) → Line
given (Some n) rest = rest n
given None rest = NoForm

unfoldable pub choose : Bool → Line → Line → Line
choose test a b = cond test a b

-- A line has exactly the fields of its form.
unfoldable pub exactly : ℕ → List ℕ → Line → Line
unfolding choose
exactly n s line = choose (eqb (length (fields s)) n) line NoForm

-- `T,i,INT`
unfoldable pub int_line : List ℕ → Line
int_line s = exactly 3 s (given (number s 1) λ i. TypeLine i Int)

-- `T,i,ANY`
unfoldable pub any_line : List ℕ → Line
any_line s = exactly 3 s (given (number s 1) λ i. TypeLine i Any)

-- `T,i,ARROW,q,t,q,t` (argument, then result)
unfoldable pub arrow_line : List (List ℕ) → List ℕ → Line
arrow_line names s =
    exactly 7 s
    (given (number s 1) λ i. given (qualifier names s 3) λ q. given (number s 4) λ t. given (qualifier names s 5) λ q'. given (number s 6) λ t'.
    TypeLine i (Arrow q t q' t'))

-- `P,p,q,t` or `P,p,q,t,floor`
unfoldable pub param_line : List (List ℕ) → List ℕ → Line
param_line names s =
    given (number s 1) λ p. given (qualifier names s 2) λ q. given (number s 3) λ t. given (floor names s) λ f.
    ParamLine p (record { qualifier = q; floor = f; typerow = t })

-- `E,i,LAM,p,b`
unfoldable pub lam_line : List ℕ → Line
lam_line s = exactly 5 s (given (number s 1) λ i. given (number s 3) λ p. given (number s 4) λ b. TermLine i (Lam p b))

-- `E,i,APP,f,a`
unfoldable pub app_line : List ℕ → Line
app_line s = exactly 5 s (given (number s 1) λ i. given (number s 3) λ f. given (number s 4) λ a. TermLine i (App f a))

-- `E,i,OP,o,l,r`
unfoldable pub op_line : List ℕ → Line
op_line s = exactly 6 s (given (number s 1) λ i. given (operation s 3) λ o. given (number s 4) λ l. given (number s 5) λ r. TermLine i (Op o l r))

-- `E,i,VAR,p`
unfoldable pub var_line : List ℕ → Line
var_line s = exactly 4 s (given (number s 1) λ i. given (number s 3) λ p. TermLine i (Var p))

-- `E,i,NUM,n`
unfoldable pub num_line : List ℕ → Line
num_line s = exactly 4 s (given (number s 1) λ i. given (literal s 3) λ n. TermLine i (Num n))

-- `E,i,ENC,s,n`
unfoldable pub enc_line : List (List ℕ) → List ℕ → Line
enc_line names s = exactly 5 s (given (number s 1) λ i. given (scheme names s 3) λ e. given (literal s 4) λ n. TermLine i (Enc e n))

-- The kind's word stands in field 2.
abbrev pub kind : List ℕ → List ℕ → Bool
kind s word = spells (field s 2) word

unfoldable pub type_line : List (List ℕ) → List ℕ → Line
type_line names s =
    choose (kind s (bytes "INT")) (int_line s)
    (choose (kind s (bytes "ANY")) (any_line s)
    (choose (kind s (bytes "ARROW")) (arrow_line names s) NoForm))

-- The kinds of term row without children.
unfoldable pub leaf_line : List (List ℕ) → List ℕ → Line
leaf_line names s =
    choose (kind s (bytes "VAR")) (var_line s)
    (choose (kind s (bytes "NUM")) (num_line s)
    (choose (kind s (bytes "ENC")) (enc_line names s) NoForm))

unfoldable pub term_line : List (List ℕ) → List ℕ → Line
term_line names s =
    choose (kind s (bytes "LAM")) (lam_line s)
    (choose (kind s (bytes "APP")) (app_line s)
    (choose (kind s (bytes "OP")) (op_line s) (leaf_line names s)))

-- The tag stands in field 0.
abbrev pub tag : List ℕ → List ℕ → Bool
tag s letter = same (field s 0) letter

-- "A line is at most 64 bytes, given without its line feed."
unfoldable pub line_of : List (List ℕ) → List ℕ → Line
line_of names s =
    choose (leb (length s) 64)
    (choose (tag s (bytes "T")) (type_line names s)
    (choose (tag s (bytes "P")) (param_line names s)
    (choose (tag s (bytes "E")) (term_line names s) NoForm)))
    NoForm
