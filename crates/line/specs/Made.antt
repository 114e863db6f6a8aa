-- The line that an own number and the values of a form make.
-- Document 01, "Lines and the table".
use Rattle.std.specs.Prelude.{ℕ, get_or, Result, Ok, Err}
use Rattle.model.specs.declared.TypeForm.TheVariants.{Int, Any, Arrow}
use Rattle.model.specs.declared.Term.TheVariants.{Lam, App, Op, Var, Num, Enc}
use Rattle.model.specs.declared.Line.{Line}
use Rattle.model.specs.declared.Line.TheVariants.{TypeLine, ParamLine, TermLine, NoForm}
use Rattle.tokens.specs.declared.values.Values.{Values}

-- Where the values are not all there, the line has none of the forms.
abbrev pub made : (Values → Line) → Result Values Values → Line
made form (Ok v) = form v
made form (Err v) = NoForm

abbrev number_at : Values → ℕ → ℕ
number_at v k = get_or v.number k 0

abbrev code_at : Values → ℕ → ℕ
code_at v k = get_or v.code k 0

-- `T,i,INT`
abbrev pub int_form : ℕ → Values → Line
int_form i v = TypeLine i Int

-- `T,i,ANY`
abbrev pub any_form : ℕ → Values → Line
any_form i v = TypeLine i Any

-- `T,i,ARROW,q,t,q,t`
abbrev pub arrow_form : ℕ → Values → Line
arrow_form i v = TypeLine i (Arrow (code_at v 0) (number_at v 1) (code_at v 2) (number_at v 3))

-- `P,p,q,t` or `P,p,q,t,floor`
abbrev pub param_form : ℕ → Values → Line
param_form p v = ParamLine p (record { qualifier = code_at v 0; floor = code_at v 2; typerow = number_at v 1 })

-- `E,i,LAM,p,b`
abbrev pub lam_form : ℕ → Values → Line
lam_form i v = TermLine i (Lam (number_at v 0) (number_at v 1))

-- `E,i,APP,f,a`
abbrev pub app_form : ℕ → Values → Line
app_form i v = TermLine i (App (number_at v 0) (number_at v 1))

-- `E,i,OP,o,l,r`
abbrev pub op_form : ℕ → Values → Line
op_form i v = TermLine i (Op (code_at v 0) (number_at v 1) (number_at v 2))

-- `E,i,VAR,p`
abbrev pub var_form : ℕ → Values → Line
var_form i v = TermLine i (Var (number_at v 0))

-- `E,i,NUM,n`
abbrev pub num_form : ℕ → Values → Line
num_form i v = TermLine i (Num v.literal)

-- `E,i,ENC,s,n`
abbrev pub enc_form : ℕ → Values → Line
enc_form i v = TermLine i (Enc (code_at v 0) v.literal)
