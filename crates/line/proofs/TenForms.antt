-- Each form's definition follows from the values that were read by its kinds.
use Prim.Native.Nat.{ℕ, suc, ◌+◌, ◌≤◌}
use native.Mathlib.Omega.{arith}
use native.Mathlib.Nat.{zero-add, add-zero}
use mathlib.Core.Bool.{Bool, true, false, not, cond}
use mathlib.Core.List.{List, [], ◌∷◌}
use mathlib.Core.Path.{◌≡◌, refl, sym, ap, ◌∙◌}
use lib.Dec.{eqb, eqb-suc-suc, eqb-zero-suc, eqb-suc-zero}
use lib.ListN.{length, get_or, drop, length-drop}
use lib.Seq.{get_or-drop}
use borrow.Author.Tests.{eq-eqb, ne_eqb, eqb-true, eqb-false, not-true}
use Rattle.std.specs.Prelude.{Option, Some, None, Result, Ok, Err}
use Rattle.scheme.proofs.Every.{and_left, and_right}
use Rattle.model.specs.Lists.{all_of, bytes}
use Rattle.model.specs.Number.{number_of}
use Rattle.model.specs.Word.{word_of, qualifier_of}
use Rattle.model.specs.Line.{fields, field, number, qualifier, floor, given, choose, exactly, int_line, any_line, arrow_line, param_line, lam_line, app_line, op_line, var_line, num_line, enc_line}
use Rattle.model.specs.declared.Line.{Line}
use Rattle.model.specs.declared.Line.TheVariants.{ParamLine, NoForm}
use Rattle.tokens.specs.Part.{fields_from, FieldTo}
use Rattle.tokens.specs.Form.{is_floor, word_in, value_of, no_values, put, onward, values_from, values_of}
use Rattle.tokens.specs.declared.values.Values.{Values}
use Rattle.line.specs.Beginning.{Begun}
use Rattle.line.specs.Made.{made, int_form, any_form, arrow_form, param_form, lam_form, app_form, op_form, var_form, num_form, enc_form}
use Rattle.line.proofs.Beginning.{begun_next}

-- No kind is a floor, which alone may be left out.
abbrev no_floor : List ℕ → Bool
no_floor kinds = all_of (λ kind. not (is_floor kind)) kinds

module _ (names : List (List ℕ)) (form : Values → Line) (before : ℕ) where
  -- The fields after the first few as the definitions have them: the value of each goes into the rest.
  abbrev each_given : List (List ℕ) → Values → ℕ → List ℕ → Line
  each_given fs v k [] = form v
  each_given fs v k (kind ∷ kinds) = given (value_of names kind (get_or fs (before + k) [])) λ n. each_given fs (put kind k n v) (k + 1) kinds

  -- The fields `rest` are the later ones of `fs`, from k on; none of them may be left out.
  made_each : (fs : List (List ℕ)) (v : Values) (k : ℕ) (kinds : List ℕ) (rest : List (List ℕ)) → no_floor kinds ≡ true → ((j : ℕ) → get_or fs (before + (k + j)) [] ≡ get_or rest j [])
      → made form (values_from names v k kinds rest) ≡ choose (eqb (length rest) (length kinds)) (each_given fs v k kinds) NoForm
  unfolding onward given choose
  made_each fs v k [] [] all at = refl
  made_each fs v k [] (f ∷ rest) all at = simp eqb-suc-zero
  made_each fs v k (kind ∷ kinds) [] all at = simp (not-true (is_floor kind) (and_left (not (is_floor kind)) (no_floor kinds) all), eqb-zero-suc)
  made_each fs v k (kind ∷ kinds) (f ∷ rest) all at =
      simp (here, eqb-suc-suc) (by (value_of names kind f) (eqb (length rest) (length kinds)) (λ n. made_each fs (put kind k n v) (k + 1) kinds rest (and_right (not (is_floor kind)) (no_floor kinds) all) later))
    where
      here : get_or fs (before + k) [] ≡ f
      here = rw add-zero at (at 0)

      later : (j : ℕ) → get_or fs (before + (k + 1 + j)) [] ≡ get_or rest j []
      later j = let e : k + suc j ≡ k + 1 + j = omega arith in rw e at (at (suc j))

      by : (x : Option ℕ) (t : Bool) → ((n : ℕ) → made form (values_from names (put kind k n v) (k + 1) kinds rest) ≡ choose t (each_given fs (put kind k n v) (k + 1) kinds) NoForm)
          → made form (onward x v λ n. values_from names (put kind k n v) (k + 1) kinds rest) ≡ choose t (given x λ n. each_given fs (put kind k n v) (k + 1) kinds) NoForm
      by (Some n) t each = each n
      by None true each = refl
      by None false each = refl

  made_rest : (fs : List (List ℕ)) (kinds : List ℕ) (v : Result Values Values) → no_floor kinds ≡ true → v ≡ values_of names kinds (drop before fs)
      → made form v ≡ choose (eqb (length (drop before fs)) (length kinds)) (each_given fs no_values 0 kinds) NoForm
  unfolding values_of
  made_rest fs kinds v all e = ap (made form) e ∙ made_each fs no_values 0 kinds (drop before fs) all (λ j. sym (simp zero-add (get_or-drop before fs j [])))

-- What is counted from the same number is as many.
count_from : (before m n : ℕ) → eqb (before + m) (before + n) ≡ eqb m n
count_from before m n = by (eqb m n) refl
  where
    by : (t : Bool) → eqb m n ≡ t → eqb (before + m) (before + n) ≡ t
    by true e = eq-eqb (before + m) (before + n) (ap (λ (k : ℕ). before + k) (eqb-true m n e))
    by false e = ne_eqb (before + m) (before + n) (λ p. eqb-false m n e (omega arith))

begun_count : (s : List ℕ) (i before : ℕ) (rest : List (List ℕ)) → Begun s i before rest → (n : ℕ) → eqb (length (fields s)) (before + n) ≡ eqb (length rest) n
begun_count s i before rest b n =
    let long : length (fields s) ≡ before + length rest = (let enough : before ≤ length (fields s) = b.enough in omega (arith, simp length-drop at (ap length b.left))) in
    rw long (count_from before (length rest) n)

module _ (names : List (List ℕ)) (s : List ℕ) (i : ℕ) (v : Result Values Values) (r : Line) where
  -- Each form follows from this by computing.
  pub form_line : (before : ℕ) (rest : List (List ℕ)) (form : ℕ → Values → Line) (kinds : List ℕ) → no_floor kinds ≡ true → Begun s i before rest → r ≡ made (form i) v → v ≡ values_of names kinds rest
      → r ≡ exactly (before + length kinds) s (given (number s 1) λ i. each_given names (form i) before (fields s) no_values 0 kinds)
  unfolding exactly given
  form_line before rest form kinds all b e f =
      e ∙ made_rest names (form i) before (fields s) kinds v all (f ∙ ap (values_of names kinds) (sym b.left)) ∙ simp (b.own, begun_count s i before rest b (length kinds), b.left)

  -- The kind stands in field 2, and the form's fields after it.
  module _ (from to : ℕ) (b : Begun s i 2 (fields_from s from)) (f : FieldTo s from to) where
    abbrev rest : List (List ℕ)
    rest = fields_from s (to + 1)

    after_kind : Begun s i 3 rest
    after_kind = begun_next s i 2 from to b f

    pub reads_int : r ≡ made (int_form i) v → v ≡ values_of names (bytes "") rest → r ≡ int_line s
    unfolding value_of int_line
    reads_int = form_line 3 rest int_form (bytes "") refl after_kind

    pub reads_any : r ≡ made (any_form i) v → v ≡ values_of names (bytes "") rest → r ≡ any_line s
    unfolding value_of any_line
    reads_any = form_line 3 rest any_form (bytes "") refl after_kind

    pub reads_arrow : r ≡ made (arrow_form i) v → v ≡ values_of names (bytes "qnqn") rest → r ≡ arrow_line names s
    unfolding value_of word_in arrow_line
    reads_arrow = form_line 3 rest arrow_form (bytes "qnqn") refl after_kind

    pub reads_lam : r ≡ made (lam_form i) v → v ≡ values_of names (bytes "nn") rest → r ≡ lam_line s
    unfolding value_of lam_line
    reads_lam = form_line 3 rest lam_form (bytes "nn") refl after_kind

    pub reads_app : r ≡ made (app_form i) v → v ≡ values_of names (bytes "nn") rest → r ≡ app_line s
    unfolding value_of app_line
    reads_app = form_line 3 rest app_form (bytes "nn") refl after_kind

    pub reads_op : r ≡ made (op_form i) v → v ≡ values_of names (bytes "onn") rest → r ≡ op_line s
    unfolding value_of word_in op_line
    reads_op = form_line 3 rest op_form (bytes "onn") refl after_kind

    pub reads_var : r ≡ made (var_form i) v → v ≡ values_of names (bytes "n") rest → r ≡ var_line s
    unfolding value_of var_line
    reads_var = form_line 3 rest var_form (bytes "n") refl after_kind

    pub reads_num : r ≡ made (num_form i) v → v ≡ values_of names (bytes "l") rest → r ≡ num_line s
    unfolding value_of num_line
    reads_num = form_line 3 rest num_form (bytes "l") refl after_kind

    pub reads_enc : r ≡ made (enc_form i) v → v ≡ values_of names (bytes "sl") rest → r ≡ enc_line names s
    unfolding value_of word_in enc_line
    reads_enc = form_line 3 rest enc_form (bytes "sl") refl after_kind

pub ruleset forms = (reads_int, reads_any, reads_arrow, reads_lam, reads_app, reads_op, reads_var, reads_num, reads_enc)

-- A parameter has no kind, and its floor may be left out.
module _ (names : List (List ℕ)) (p : ℕ) where
  param_by : Option ℕ → Option ℕ → Option ℕ → Line
  param_by qualifier typerow floor = given qualifier λ q. given typerow λ t. given floor λ f. ParamLine p (record { qualifier = q; floor = f; typerow = t })

  no_floor_lem : (qualifier typerow : Option ℕ) → NoForm ≡ param_by qualifier typerow None
  unfolding param_by given
  no_floor_lem None t = refl
  no_floor_lem (Some q) None = refl
  no_floor_lem (Some q) (Some t) = refl

  floor_at : List (List ℕ) → Option ℕ
  floor_at rest = cond (eqb (length rest) 2) (Some 0) (cond (eqb (length rest) 3) (word_of names (get_or rest 2 [])) None)

  -- By how many fields there are: too few, both without a floor, with one, or too many.
  made_param : (rest : List (List ℕ)) → made (param_form p) (values_of names (bytes "qnf") rest) ≡ param_by (qualifier_of names (get_or rest 0 [])) (number_of 65535 (get_or rest 1 [])) (floor_at rest)
  unfolding values_of value_of word_in onward param_by given choose floor_at
  made_param [] = no_floor_lem (qualifier_of names []) (number_of 65535 [])
  made_param (a ∷ []) = by (qualifier_of names a) ∙ no_floor_lem (qualifier_of names a) (number_of 65535 [])
    where
      by : (q : Option ℕ) → made (param_form p) (onward q no_values λ n. Err (put 113 0 n no_values)) ≡ NoForm
      by (Some q) = refl
      by None = refl
  made_param (a ∷ b ∷ []) = by (qualifier_of names a) (number_of 65535 b)
    where
      by : (q t : Option ℕ) → made (param_form p) (onward q no_values λ q. onward t (put 113 0 q no_values) λ t. Ok (put 110 1 t (put 113 0 q no_values))) ≡ param_by q t (Some 0)
      by (Some q) (Some t) = refl
      by (Some q) None = refl
      by None t = refl
  made_param (a ∷ b ∷ c ∷ rest) = by (qualifier_of names a) (number_of 65535 b) (word_of names c) rest
    where
      read : Option ℕ → Option ℕ → Option ℕ → List (List ℕ) → Result Values Values
      read q t f rest = onward q no_values λ q. onward t (put 113 0 q no_values) λ t. onward f (put 110 1 t (put 113 0 q no_values)) λ f. values_from names (put 102 2 f (put 110 1 t (put 113 0 q no_values))) 3 [] rest

      by : (q t f : Option ℕ) (rest : List (List ℕ)) → made (param_form p) (read q t f rest) ≡ param_by q t (cond (eqb (length (a ∷ b ∷ c ∷ rest)) 2) (Some 0) (cond (eqb (length (a ∷ b ∷ c ∷ rest)) 3) f None))
      by (Some q) (Some t) (Some f) [] = refl
      by (Some q) (Some t) (Some f) (d ∷ rest) = simp (ne_eqb (length (a ∷ b ∷ c ∷ d ∷ rest)) 2 (λ e. omega arith), ne_eqb (length (a ∷ b ∷ c ∷ d ∷ rest)) 3 (λ e. omega arith))
      by (Some q) (Some t) None [] = refl
      by (Some q) (Some t) None (d ∷ rest) = simp (ne_eqb (length (a ∷ b ∷ c ∷ d ∷ rest)) 2 (λ e. omega arith), ne_eqb (length (a ∷ b ∷ c ∷ d ∷ rest)) 3 (λ e. omega arith))
      by (Some q) None f rest = refl
      by None t f rest = refl

  module _ (s : List ℕ) (rest : List (List ℕ)) (b : Begun s p 2 rest) where
    at_rest : (j : ℕ) → field s (2 + j) ≡ get_or rest j []
    at_rest j = sym (get_or-drop 2 (fields s) j []) ∙ ap (λ (fs : List (List ℕ)). get_or fs j []) b.left

    param_is : param_line names s ≡ param_by (qualifier_of names (get_or rest 0 [])) (number_of 65535 (get_or rest 1 [])) (floor_at rest)
    unfolding param_line floor given param_by floor_at
    param_is = simp (b.own, at_rest 0, at_rest 1, at_rest 2, begun_count s p 2 rest b 2, begun_count s p 2 rest b 3)

    pub reads_param : (v : Result Values Values) (r : Line) → v ≡ values_of names (bytes "qnf") rest → r ≡ made (param_form p) v → r ≡ param_line names s
    reads_param v r e f = f ∙ ap (made (param_form p)) e ∙ made_param rest ∙ sym param_is
