-- The machine of the four calls, and the three calls that change it.
-- Document 01, "The four calls".
use Rattle.std.specs.Prelude.{ℕ, ◌+◌, ◌-◌, Bool, false, not, cond, ◌&&◌, ◌||◌, List, [], ◌∷◌, ◌++◌, eqb, ltb, length, get_or, take, set}
use Rattle.model.specs.Lists.{any_of, all_of, contains}
use Rattle.scheme.specs.Schemes.{SchemeTable, words}
use Rattle.model.specs.Line.{line_of}
use Rattle.model.specs.declared.TypeForm.{TypeForm}
use Rattle.model.specs.declared.TypeForm.TheVariants.{Int, Any, Arrow}
use Rattle.model.specs.declared.TypeRow.{TypeRow}
use Rattle.model.specs.declared.Param.{Param}
use Rattle.model.specs.declared.Term.{Term}
use Rattle.model.specs.declared.Term.TheVariants.{Lam, App, Op, Var, Num, Enc}
use Rattle.model.specs.declared.TermRow.{TermRow}
use Rattle.model.specs.declared.Line.{Line}
use Rattle.model.specs.declared.Line.TheVariants.{TypeLine, ParamLine, TermLine, NoForm}

-- "The machine they follow is three lists: type rows, parameters, term rows."
-- Document 02, d): "The fresh machine now holds the accepted scheme table beside its lists, and no call changes it."
pub record Machine : Type 0 where
  pub schemes : SchemeTable
  pub types : List TypeRow
  pub params : List Param
  pub terms : List TermRow

-- "Fresh: all empty."
abbrev pub fresh_machine : SchemeTable → Machine
fresh_machine T = record { schemes = T; types = []; params = []; terms = [] }

-- Entries that stand for nothing: what a list has past its end, where none is asked for.
abbrev pub no_type_row : TypeRow
no_type_row = record { form = Int }

abbrev pub no_param : Param
no_param = record { qualifier = 0; floor = 0; typerow = 0 }

abbrev pub no_term_row : TermRow
no_term_row = record { term = Lam 0 0 }

-- The entry of a list with a number.
abbrev pub form_in : List TypeRow → ℕ → TypeForm
form_in types t = (get_or types t no_type_row).form

abbrev pub param_in : List Param → ℕ → Param
param_in params p = get_or params p no_param

abbrev pub term_in : List TermRow → ℕ → Term
term_in terms i = (get_or terms i no_term_row).term

-- The machine's entry with a number.
abbrev pub type_at : Machine → ℕ → TypeForm
type_at m t = form_in m.types t

abbrev pub param_at : Machine → ℕ → Param
param_at m p = param_in m.params p

abbrev pub term_at : Machine → ℕ → Term
term_at m i = term_in m.terms i

-- "A row's children are the rows that it names as `b`, `f`, `a`, `l` or `r`."
abbrev pub children : Term → List ℕ
children (Lam p b) = b ∷ []
children (App f a) = f ∷ a ∷ []
children (Op o l r) = l ∷ r ∷ []
children (Var p) = []
children (Num n) = []
children (Enc s n) = []

-- The parameters that a term row names, and of these the one that it binds.
abbrev pub named : Term → List ℕ
named (Lam p b) = p ∷ []
named (App f a) = []
named (Op o l r) = []
named (Var p) = p ∷ []
named (Num n) = []
named (Enc s n) = []

abbrev pub binds : Term → List ℕ
binds (Lam p b) = p ∷ []
binds (App f a) = []
binds (Op o l r) = []
binds (Var p) = []
binds (Num n) = []
binds (Enc s n) = []

-- The type rows that a type row names.
abbrev pub parts : TypeForm → List ℕ
parts Int = []
parts Any = []
parts (Arrow q t q' t') = t ∷ t' ∷ []

-- A row is used when some row standing names it as a child; a parameter is bound when some LAM standing names it.
abbrev pub used : List TermRow → ℕ → Bool
used rows child = any_of (λ row. contains child (children row.term)) rows

abbrev pub bound : List TermRow → ℕ → Bool
bound rows p = any_of (λ row. contains p (binds row.term)) rows

-- "one row named as both children"
abbrev pub twice : List ℕ → Bool
twice [] = false
twice (c ∷ cs) = contains c cs || twice cs

-- The number of the first check that does not hold, and 0 where all hold.
unfoldable pub first_failing : List (ℕ × Bool) → ℕ
first_failing [] = 0
first_failing (check ∷ checks) = cond check.1 (first_failing checks) check.0

-- "Add checks 1 to 8 in that order": 2 own number is not the next; 3 list full; 4 type row not declared before this line
-- (in a T line: not below own number).
unfoldable pub type_refusal : Machine → ℕ → TypeForm → ℕ
type_refusal m i form =
    first_failing
    ((2, eqb i (length m.types))
    ∷ (3, ltb (length m.types) 64)
    ∷ (4, all_of (λ t. ltb t i) (parts form))
    ∷ [])

unfoldable pub param_refusal : Machine → ℕ → Param → ℕ
param_refusal m p param =
    first_failing
    ((2, eqb p (length m.params))
    ∷ (3, ltb (length m.params) 64)
    ∷ (4, ltb param.typerow (length m.types))
    ∷ [])

-- 5 parameter not declared; 6 child not below own number; 7 child already used, or one row named as both children;
-- 8 LAM of a parameter already bound.
unfoldable pub term_refusal : Machine → ℕ → Term → ℕ
term_refusal m i term =
    first_failing
    ((2, eqb i (length m.terms))
    ∷ (3, ltb (length m.terms) 256)
    ∷ (5, all_of (λ p. ltb p (length m.params)) (named term))
    ∷ (6, all_of (λ c. ltb c i) (children term))
    ∷ (7, not (any_of (used m.terms) (children term)) && not (twice (children term)))
    ∷ (8, not (any_of (bound m.terms) (binds term)))
    ∷ [])

-- What a call returns, and the machine after it.
pub record Change : Type 0 where
  pub number : ℕ
  pub machine : Machine

-- "An accepted call returns 0." "A refused call leaves the lists .. unchanged."
unfoldable pub settled : Machine → ℕ → Machine → Change
settled m number after = record { number = number; machine = cond (eqb number 0) after m }

-- "appends one entry to its list"; 1: none of the forms.
unfoldable pub entered : Machine → Line → Change
entered m (TypeLine i form) =
    settled m (type_refusal m i form) (record { schemes = m.schemes; types = m.types ++ (record { form = form } ∷ []); params = m.params; terms = m.terms })
entered m (ParamLine p param) =
    settled m (param_refusal m p param) (record { schemes = m.schemes; types = m.types; params = m.params ++ (param ∷ []); terms = m.terms })
entered m (TermLine i term) =
    settled m (term_refusal m i term) (record { schemes = m.schemes; types = m.types; params = m.params; terms = m.terms ++ (record { term = term } ∷ []) })
entered m NoForm = settled m 1 m

-- **Add** (a line).
unfoldable pub added : Machine → List ℕ → Change
added m line = entered m (line_of m.schemes.names line)

-- "replaces that parameter's qualifier"; document 02, a), of the floor: "redeclare leaves it".
abbrev pub with_qualifier : ℕ → Param → Param
with_qualifier code param = record { qualifier = code; floor = param.floor; typerow = param.typerow }

-- **Redeclare** (parameter, code); "redeclare 5, then 12"; document 02, d): "12 is for a code above the last variable's".
unfoldable pub redeclared : Machine → ℕ → ℕ → Change
redeclared m p code =
    settled m
    (first_failing ((5, ltb p (length m.params)) ∷ (12, ltb code (words m.schemes + 64)) ∷ []))
    (record { schemes = m.schemes; types = m.types; params = set m.params p (with_qualifier code (param_at m p)); terms = m.terms })

-- **Take-back**: "drops the last term row"; 9 with no term row.
unfoldable pub taken_back : Machine → Change
taken_back m =
    settled m
    (first_failing ((9, ltb 0 (length m.terms)) ∷ []))
    (record { schemes = m.schemes; types = m.types; params = m.params; terms = take (length m.terms - 1) m.terms })
