-- The transitions, and the reduction contexts around them.
-- Source document 001, section 1.3.2, and for plain operands section 1.2.1; document 02, e).
use Rattle.std.specs.Prelude.{ℕ, suc, ◌+◌, ◌*◌, Bool, cond, [], ◌∷◌, eqb, ltb, get_or}
use Rattle.scheme.specs.Operation.{keeps}
use Rattle.model.specs.Strength.{Schemes}
use Rattle.dryrun.specs.Expression.{Expression, number, variable, function, apply, operate, Value, substituted}

-- "a comparison gives 1 when true, else 0"
abbrev pub holds : Bool → ℕ
holds b = cond b 1 0

-- n f n', by the operation's code: ADD, MUL, EQ, LT, GT. No other code is asked for.
unfoldable pub calculated : ℕ → ℕ → ℕ → ℕ
calculated o x y = get_or ((x + y) ∷ (x * y) ∷ holds (eqb x y) ∷ holds (ltb x y) ∷ holds (ltb y x) ∷ []) o 0

-- Q-MATH-TRANS keeps the operands' tag, Q-REL-TRANS gives a number without one.
unfoldable pub result_tag : ℕ → ℕ → ℕ
result_tag o tag = cond (keeps o) tag 0

-- "A step is one application or one operation", the operation here with its result.
pub data Kind : Type 0 where
  application : Kind
  operation : ℕ → Kind

-- When an operation works on two operands of one tag: operation, tag.
abbrev pub Rule : Type 1
Rule = ℕ → ℕ → Type 0

-- "l ⊑ l_f"; "two plain operands work by the plain rules"
pub data Tagged (S : Schemes) (o : ℕ) : ℕ → Type 0 where
  plain_operands : Tagged S o 0
  supported : {tag : ℕ} → S.AtOrBelow (S.word tag) (S.highest o) → Tagged S o tag

-- The plain domain: no operand has a tag.
pub data Plain (o : ℕ) : ℕ → Type 0 where
  untagged : Plain o 0

-- One step of e, with the number of reduction contexts around it: R ::= [] | R e | v R | R f e | v f R, each but [] one context.
pub data Step (W : Rule) : ℕ → Kind → Expression → Expression → Type 0 where
  applies : {p : ℕ} {e v : Expression} → Value v → Step W 0 application (apply (function p e) v) (substituted p v e)
  operates : {o x y tag : ℕ} → W o tag →
      Step W 0 (operation (calculated o x y)) (operate o (number x tag) (number y tag)) (number (calculated o x y) (result_tag o tag))
  in_function : {contexts : ℕ} {kind : Kind} {f f' a : Expression} → Step W contexts kind f f' → Step W (suc contexts) kind (apply f a) (apply f' a)
  in_argument : {contexts : ℕ} {kind : Kind} {v a a' : Expression} → Value v → Step W contexts kind a a' → Step W (suc contexts) kind (apply v a) (apply v a')
  in_left : {contexts o : ℕ} {kind : Kind} {l l' r : Expression} → Step W contexts kind l l' → Step W (suc contexts) kind (operate o l r) (operate o l' r)
  in_right : {contexts o : ℕ} {kind : Kind} {v r r' : Expression} → Value v → Step W contexts kind r r' → Step W (suc contexts) kind (operate o v r) (operate o v r')

-- A run at e is over or makes a step.
pub data Goes (W : Rule) (e : Expression) : Type 0 where
  over : Value e → Goes W e
  on : {contexts : ℕ} {kind : Kind} {e' : Expression} → Step W contexts kind e e' → Goes W e

-- The next step of e is an operation on numbers with these two tags.
pub data Meets : Expression → ℕ → ℕ → Type 0 where
  here : {o x y t u : ℕ} → Meets (operate o (number x t) (number y u)) t u
  in_function : {f a : Expression} {t u : ℕ} → Meets f t u → Meets (apply f a) t u
  in_argument : {v a : Expression} {t u : ℕ} → Value v → Meets a t u → Meets (apply v a) t u
  in_left : {o : ℕ} {l r : Expression} {t u : ℕ} → Meets l t u → Meets (operate o l r) t u
  in_right : {o : ℕ} {v r : Expression} {t u : ℕ} → Value v → Meets r t u → Meets (operate o v r) t u

-- "its untagged form"
unfoldable pub untagged_form : Expression → Expression
untagged_form (number n tag) = number n 0
untagged_form (variable x) = variable x
untagged_form (function x e) = function x (untagged_form e)
untagged_form (apply f a) = apply (untagged_form f) (untagged_form a)
untagged_form (operate o l r) = operate o (untagged_form l) (untagged_form r)
