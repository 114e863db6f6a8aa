-- Expressions, and the one that a dry run starts from.
-- Source document 001, section 1.1; document 02, e).
use Rattle.std.specs.Prelude.{ℕ, zero, suc, cond, List, [], ◌∷◌, eqb}
use Rattle.model.specs.Machine.{Machine, term_at}
use Rattle.model.specs.Inference.{Slot, param, row}
use Rattle.model.specs.declared.Term.{Term}
use Rattle.model.specs.declared.Term.TheVariants.{Lam, App, Op, Var, Num, Enc}

-- "e": a number with its tag, the code of a qualifier, where PLAIN's, 0, is no tag; a variable x; a function λx.e; e e'; e f e'.
pub data Expression : Type 0 where
  number : ℕ → ℕ → Expression
  variable : ℕ → Expression
  function : ℕ → Expression → Expression
  apply : Expression → Expression → Expression
  operate : ℕ → Expression → Expression → Expression

-- "v": a number or a function.
pub data Value : Expression → Type 0 where
  a_number : {n tag : ℕ} → Value (number n tag)
  a_function : {p : ℕ} {e : Expression} → Value (function p e)

-- e[p ↦ v]. Only closed values are put in, so nothing is captured; a function of the same parameter keeps its own.
unfoldable pub substituted : ℕ → Expression → Expression → Expression
substituted p v (number n tag) = number n tag
substituted p v (variable x) = cond (eqb x p) v (variable x)
substituted p v (function x e) = cond (eqb x p) (function x e) (function x (substituted p v e))
substituted p v (apply f a) = apply (substituted p v f) (substituted p v a)
substituted p v (operate o l r) = operate o (substituted p v l) (substituted p v r)

-- The expression of a row, given those of its children; "a literal carries its row's reported word".
abbrev pub row_expression : (ℕ → Expression) → ℕ → Term → Expression
row_expression below tag (Lam p b) = function p (below b)
row_expression below tag (App f a) = apply (below f) (below a)
row_expression below tag (Op o l r) = operate o (below l) (below r)
row_expression below tag (Var p) = variable p
row_expression below tag (Num n) = number n tag
row_expression below tag (Enc s n) = number n tag

-- The expression of row i, where at most `depth` rows stand on a way down from it. Children have lower numbers, so i + 1 is depth enough.
unfoldable pub unfolded : Machine → (Slot → ℕ) → ℕ → ℕ → Expression
unfolded m word zero i = number 0 0
unfolded m word (suc depth) i = row_expression (unfolded m word depth) (word (row i)) (term_at m i)

-- "The leading LAMs": the parameters of the LAMs at row i and straight beneath it, outermost first.
abbrev pub leading_of : (ℕ → List ℕ) → Term → List ℕ
leading_of below (Lam p b) = p ∷ below b
leading_of below (App f a) = []
leading_of below (Op o l r) = []
leading_of below (Var p) = []
leading_of below (Num n) = []
leading_of below (Enc s n) = []

unfoldable pub leading_from : Machine → ℕ → ℕ → List ℕ
leading_from m zero i = []
leading_from m (suc depth) i = leading_of (leading_from m depth) (term_at m i)

-- "are applied to a list of numbers .., each tagged with its parameter's reported scheme"
unfoldable pub applied : (Slot → ℕ) → Expression → List ℕ → List ℕ → Expression
applied word e [] numbers = e
applied word e (p ∷ ps) [] = e
applied word e (p ∷ ps) (n ∷ numbers) = applied word (apply e (number n (word (param p)))) ps numbers
