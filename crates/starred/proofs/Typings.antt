-- Typings of a program that is written out: what they ask, row by row, and the one that its variables, literals and type rows determine.
use Prim.Native.Nat.{ℕ, zero, suc, ◌≤◌, ◌<◌}
use native.Mathlib.Nat.{le_of_suc-le-suc, not-suc-le-zero}
use native.Mathlib.Omega.{arith}
use mathlib.Core.List.{List, [], ◌∷◌, ◌++◌}
use mathlib.Core.Path.{refl}
use lib.ListN.{length, get_or}
use Rattle.model.specs.Machine.{Machine, type_at, param_at, term_at}
use Rattle.model.specs.Typing.{Ty, int, arrow, Qualified, Rules, Assignment, result_qualifier, meaning, TypeAgrees, ParamAgrees, RowMeets, Follows, PlainArrows, Typing}
use Rattle.model.specs.declared.TermRow.{TermRow}
use Rattle.model.specs.declared.Param.{Param}
use Rattle.model.specs.declared.Term.{Term}
use Rattle.model.specs.declared.Term.TheVariants.{Lam, App, Op, Var, Num, Enc}

-- Every number below n has the property: a tuple, so that `search` proves it and `cc` reads it field by field.
abbrev pub Below : ℕ → (ℕ → Type 0) → Type 0
Below zero P = Unit {0}
Below (suc n) P = P zero × Below n (λ k. P (suc k))

below_at : (n : ℕ) (P : ℕ → Type 0) → Below n P → (k : ℕ) → k < n → P k
below_at zero P h k below = absurd (not-suc-le-zero below)
below_at (suc n) P h zero below = h.0
below_at (suc n) P h (suc k) below = below_at n (λ k. P (suc k)) h.1 k (le_of_suc-le-suc below)

at_below : (n : ℕ) (P : ℕ → Type 0) → ((k : ℕ) → k < n → P k) → Below n P
at_below zero P h = tt
at_below (suc n) P h = (h zero (omega arith), at_below n (λ k. P (suc k)) (λ k below. h (suc k) (omega arith)))

module _ (R : Rules) (m : Machine) where
  -- What the rules of the lines T and P and of the first k term rows ask of an assignment.
  abbrev pub Equations : ℕ → Assignment R.Q → Type 0
  Equations k s =
      Below (length m.types) (λ t. TypeAgrees R s (type_at m t) (s.type t))
      × Below (length m.params) (λ p. ParamAgrees R s (param_at m p) (s.param p))
      × Below k (λ i. RowMeets R s (term_at m i) (s.row i))

  module _ (k : ℕ) (s : Assignment R.Q) where
    equations_follows : Equations k s → Follows R m k s
    equations_follows e =
        record {
          types_agree = below_at (length m.types) (λ t. TypeAgrees R s (type_at m t) (s.type t)) e.0;
          params_agree = below_at (length m.params) (λ p. ParamAgrees R s (param_at m p) (s.param p)) e.1;
          rows_meet = λ i below _. below_at k (λ i. RowMeets R s (term_at m i) (s.row i)) e.2 i below;
        }

    pub follows_equations : k ≤ length m.terms → Follows R m k s → Equations k s
    follows_equations h t = (
      at_below (length m.types) (λ t. TypeAgrees R s (type_at m t) (s.type t)) t.types_agree,
      at_below (length m.params) (λ p. ParamAgrees R s (param_at m p) (s.param p)) t.params_agree,
      at_below k (λ i. RowMeets R s (term_at m i) (s.row i)) (λ i below. t.rows_meet i below (omega arith)),
    )

  -- The variables, the literals and the type rows determine the rest: a row's qualified type follows from its parameter's and from the rows below it.
  module _ (variable : ℕ → R.Q) (literal : R.Q) (type : ℕ → Ty R.Q) where
    abbrev plain_int : Qualified R.Q
    plain_int = record { qualifier = R.word 0; type = int }

    abbrev declared : Param → Qualified R.Q
    declared param =
        record {
          qualifier = meaning R (record { variable = variable; type = type; param = λ p. plain_int; row = λ i. plain_int }) param.qualifier;
          type = type param.typerow;
        }

    -- What an application of the type results in.
    abbrev result_of : Ty R.Q → Qualified R.Q
    result_of int = plain_int
    result_of (arrow q t q' t') = record { qualifier = q'; type = t' }

    abbrev row_of : (ℕ → Qualified R.Q) → Term → Qualified R.Q
    row_of row (Lam p b) =
        let x : Qualified R.Q = declared (param_at m p) in
        record { qualifier = R.word 0; type = arrow x.qualifier x.type (row b).qualifier (row b).type }
    row_of row (App f a) = result_of (row f).type
    row_of row (Op o l r) = record { qualifier = result_qualifier R o (row l).qualifier; type = int }
    row_of row (Var p) = declared (param_at m p)
    row_of row (Num n) = record { qualifier = literal; type = int }
    row_of row (Enc e n) = record { qualifier = R.word e; type = int }

    -- The rows from the first on, where those below are known.
    abbrev rows_of : List (Qualified R.Q) → List TermRow → List (Qualified R.Q)
    rows_of known [] = known
    rows_of known (row ∷ rows) = rows_of (known ++ (row_of (λ i. get_or known i plain_int) row.term ∷ [])) rows

    abbrev determined : Assignment R.Q
    determined =
        record {
          variable = variable;
          type = type;
          param = λ p. declared (param_at m p);
          row = λ i. get_or (rows_of [] m.terms) i plain_int;
        }

    abbrev Plain : Qualified R.Q → Type 0
    Plain ρ = PlainArrows (R.word 0) ρ.qualifier ρ.type

    -- Where functions are PLAIN in the parameters, they are so in the rows.
    module _ (params : (p : ℕ) → Plain (declared (param_at m p))) where
      result_plain : (q : R.Q) (τ : Ty R.Q) → PlainArrows (R.word 0) q τ → Plain (result_of τ)
      result_plain q int h = tt
      result_plain q (arrow a t r u) h = h.2

      row_plain : (row : ℕ → Qualified R.Q) → ((i : ℕ) → Plain (row i)) → (term : Term) → Plain (row_of row term)
      row_plain row h (Lam p b) = (refl, params p, h b)
      row_plain row h (App f a) = result_plain (row f).qualifier (row f).type (h f)
      row_plain row h (Op o l r) = tt
      row_plain row h (Var p) = params p
      row_plain row h (Num n) = tt
      row_plain row h (Enc e n) = tt

      last_plain : (known : List (Qualified R.Q)) (ρ : Qualified R.Q) → ((i : ℕ) → Plain (get_or known i plain_int)) → Plain ρ → (i : ℕ) → Plain (get_or (known ++ (ρ ∷ [])) i plain_int)
      last_plain [] ρ h last zero = last
      last_plain [] ρ h last (suc i) = tt
      last_plain (first ∷ known) ρ h last zero = h zero
      last_plain (first ∷ known) ρ h last (suc i) = last_plain known ρ (λ i. h (suc i)) last i

      rows_plain : (known : List (Qualified R.Q)) (rows : List TermRow) → ((i : ℕ) → Plain (get_or known i plain_int)) → (i : ℕ) → Plain (get_or (rows_of known rows) i plain_int)
      rows_plain known [] h = h
      rows_plain known (row ∷ rows) h = rows_plain (known ++ (row_of (λ i. get_or known i plain_int) row.term ∷ [])) rows (last_plain known _ h (row_plain _ h row.term))

  -- One qualifier for all variables, one for all literals, and one type for all type rows.
  abbrev pub uniform : R.Q → R.Q → Ty R.Q → Assignment R.Q
  uniform q literal t = determined (λ v. q) literal (λ row. t)

  -- What makes it a typing of the lines and the first k rows: the rules, and functions that are PLAIN in the type and in the parameters.
  abbrev pub UniformTyped : ℕ → R.Q → R.Q → Ty R.Q → Type 0
  UniformTyped k q literal t =
      let s = uniform q literal t in
      Equations k s × PlainArrows (R.word 0) (R.word 0) t × ((p : ℕ) → PlainArrows (R.word 0) (s.param p).qualifier (s.param p).type)

  pub uniform_typing : (k : ℕ) (q literal : R.Q) (t : Ty R.Q) → UniformTyped k q literal t → Typing R m k (uniform q literal t)
  uniform_typing k q literal t (e, plain, params) =
      record {
        follows = equations_follows k (uniform q literal t) e;
        functions =
            record {
              types = λ x h. plain;
              params = λ p h. params p;
              rows = λ i below h. rows_plain (λ v. q) literal (λ row. t) params [] m.terms (λ i. tt) i;
            };
      }
