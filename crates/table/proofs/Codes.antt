-- The codes in a line that was read by a scheme table's names: qualifiers, floors that are words, the five operations, schemes; and how large its
-- literals are.
use Prim.Native.Nat.{ℕ, suc, ◌+◌, ◌≤◌, ◌<◌}
use mathlib.Core.Bool.{Bool, true, false}
use mathlib.Core.List.{List}
use mathlib.Core.Path.{◌≡◌, refl}
use lib.Dec.{eqb}
use lib.ListN.{length}
use Rattle.std.specs.Prelude.{Option, Some, None}
use Rattle.model.specs.Line.{fields, given, choose, exactly, int_line, any_line, arrow_line, param_line, lam_line, app_line, op_line, var_line, num_line, enc_line, type_line, leaf_line, term_line, line_of}
use Rattle.model.specs.declared.TypeForm.{TypeForm}
use Rattle.model.specs.declared.TypeForm.TheVariants.{Int, Any, Arrow}
use Rattle.model.specs.declared.Param.{Param}
use Rattle.model.specs.declared.Term.{Term}
use Rattle.model.specs.declared.Term.TheVariants.{Lam, App, Op, Var, Num, Enc}
use Rattle.model.specs.declared.Line.{Line}
use Rattle.model.specs.declared.Line.TheVariants.{TypeLine, ParamLine, TermLine, NoForm}
use Rattle.tokens.proofs.Bounds.{number_at_most, qualifier_below, floor_below, scheme_between, operation_below}

module _ (names : List (List ℕ)) where
  -- How many words there are.
  abbrev word_count : ℕ
  word_count = suc (length names)

  abbrev pub FormCodes : TypeForm → Type 0
  FormCodes Int = Unit {0}
  FormCodes Any = Unit {0}
  FormCodes (Arrow q t q' t') = (q < word_count + 64) × (q' < word_count + 64)

  abbrev pub TermCodes : Term → Type 0
  TermCodes (Lam p b) = Unit {0}
  TermCodes (App f a) = Unit {0}
  TermCodes (Op o l r) = o < 5
  TermCodes (Var p) = Unit {0}
  TermCodes (Num n) = n ≤ 4294967295
  TermCodes (Enc s n) = (1 ≤ s) × (s < word_count) × (n ≤ 4294967295)

  abbrev pub ParamCodes : Param → Type 0
  ParamCodes param = (param.qualifier < word_count + 64) × (param.floor < word_count)

  abbrev pub LineCodes : Line → Type 0
  LineCodes (TypeLine i form) = FormCodes form
  LineCodes (ParamLine p param) = ParamCodes param
  LineCodes (TermLine i term) = TermCodes term
  LineCodes NoForm = Unit {0}

  -- What is chosen, and what a field's value goes into, has such codes where each choice and each value's line has.
  chosen : (b : Bool) (x y : Line) → LineCodes x → LineCodes y → LineCodes (choose b x y)
  unfolding choose
  chosen true x y h k = h
  chosen false x y h k = k

  of_value : (f : Option ℕ) (rest : ℕ → Line) → ((n : ℕ) → f ≡ Some n → LineCodes (rest n)) → LineCodes (given f rest)
  unfolding given
  of_value (Some n) rest h = h n refl
  of_value None rest h = tt

  module _ (s : List ℕ) where
    whole_line : (n : ℕ) (line : Line) → LineCodes line → LineCodes (exactly n s line)
    unfolding exactly
    whole_line n line h = chosen (eqb (length (fields s)) n) line NoForm h tt

    type_line_lem : LineCodes (type_line names s)
    unfolding type_line int_line any_line arrow_line
    type_line_lem =
        chosen _ _ _ (whole_line 3 _ (of_value _ _ (λ i e. tt)))
        (chosen _ _ _ (whole_line 3 _ (of_value _ _ (λ i e. tt)))
        (chosen _ _ _
        (whole_line 7 _
        (of_value _ _ λ i e. of_value _ _ λ q e. of_value _ _ λ t e'. of_value _ _ λ q' e''. of_value _ _ λ t' e'''.
        (qualifier_below names _ q e, qualifier_below names _ q' e'')))
        tt))

    param_line_lem : LineCodes (param_line names s)
    unfolding param_line
    param_line_lem = of_value _ _ λ p e. of_value _ _ λ q e'. of_value _ _ λ t e''. of_value _ _ λ f e'''. (qualifier_below names _ q e', floor_below names _ f e''')

    leaf_line_lem : LineCodes (leaf_line names s)
    unfolding leaf_line var_line num_line enc_line
    leaf_line_lem =
        chosen _ _ _ (whole_line 4 _ (of_value _ _ λ i e. of_value _ _ λ p e'. tt))
        (chosen _ _ _ (whole_line 4 _ (of_value _ _ λ i e. of_value _ _ λ n e'. number_at_most 4294967295 _ n e'))
        (chosen _ _ _
        (whole_line 5 _
        (of_value _ _ λ i e. of_value _ _ λ c e'. of_value _ _ λ n e''.
        ((scheme_between names _ c e').0, (scheme_between names _ c e').1, number_at_most 4294967295 _ n e'')))
        tt))

    term_line_lem : LineCodes (term_line names s)
    unfolding term_line lam_line app_line op_line
    term_line_lem =
        chosen _ _ _ (whole_line 5 _ (of_value _ _ λ i e. of_value _ _ λ p e'. of_value _ _ λ b e''. tt))
        (chosen _ _ _ (whole_line 5 _ (of_value _ _ λ i e. of_value _ _ λ f e'. of_value _ _ λ a e''. tt))
        (chosen _ _ _
        (whole_line 6 _ (of_value _ _ λ i e. of_value _ _ λ o e'. of_value _ _ λ l e''. of_value _ _ λ r e'''. operation_below _ o e'))
        leaf_line_lem))

    pub line_codes : LineCodes (line_of names s)
    unfolding line_of
    line_codes = chosen _ _ _ (chosen _ _ _ type_line_lem (chosen _ _ _ param_line_lem (chosen _ _ _ term_line_lem tt))) tt
