-- A well-formed machine whose literals fit stands in some table: each list is filled up to its array's length, and every number fits its width.
use Prim.Native.Nat.{ℕ, ◌≤◌, ◌<◌}
use native.Mathlib.Omega.{arith}
use mathlib.Core.Path.{◌≡◌, refl}
use lib.ListN.{length, get_or}
use denote.Laws.{Is}
use denote.Array.{Array}
use denote.Struct.Laws as Struct
use denote.Enum.Laws as Enum
use Rattle.scheme.specs.Schemes.{words}
use Rattle.scheme.proofs.Schemes.{sound_few}
use Rattle.model.specs.Machine.{Machine, no_type_row, no_param, no_term_row}
use Rattle.model.specs.WellFormed.{TypeStands, ParamStands, TermStands, WellFormed}
use Rattle.model.specs.declared.TypeForm.{TypeForm}
use Rattle.model.specs.declared.TypeForm.TheVariants.{Int, Any, Arrow}
use Rattle.model.specs.declared.TypeRow.{TypeRow}
use Rattle.model.specs.declared.Param.{Param}
use Rattle.model.specs.declared.Term.{Term}
use Rattle.model.specs.declared.Term.TheVariants.{Lam, App, Op, Var, Num, Enc}
use Rattle.model.specs.declared.TermRow.{TermRow}
use Rattle.model.specs.contracts.TypeForm as TypeFormType
use Rattle.model.proofs.TypeForm.TheLaws as TypeFormLaws
use Rattle.model.specs.contracts.TypeRow as TypeRowType
use Rattle.model.proofs.TypeRow.TheLaws as TypeRowLaws
use Rattle.model.specs.contracts.Param as ParamType
use Rattle.model.proofs.Param.TheLaws as ParamLaws
use Rattle.model.specs.contracts.Term as TermType
use Rattle.model.proofs.Term.TheLaws as TermLaws
use Rattle.model.specs.contracts.TermRow as TermRowType
use Rattle.model.proofs.TermRow.TheLaws as TermRowLaws
use Rattle.table.specs.declared.Table.{Table}
use Rattle.table.specs.Lists.{lists}
use Rattle.table.specs.Ready.{Ready}
use Rattle.table.specs.contracts.Table as TableType
use Rattle.table.proofs.Table.TheLaws as TableLaws
use Rattle.table.proofs.Counts.{Owned}
use Rattle.answered.proofs.Entries.{filled, take_filled}
use Rattle.answered.proofs.Arrays.{Held, array_of, filled_held}
use Rattle.answered.proofs.Bytes.{bytes_of, table_in_lem, bytes_kept, bytes_held}
use Rattle.answered.proofs.Literals.{Literal, Literals}

-- The entries that stand: what the checks of an add leave true of their numbers makes each fit its width.
module _ (w : ℕ) (few : w ≤ 9) where
  form_held : (i : ℕ) → i < 64 → (form : TypeForm) → TypeStands w i form → Is TypeFormType.the_row form (Enum.vals TypeFormType.the_type TypeFormLaws.the_laws form)
  form_held i below Int h = Enum.owes TypeFormType.the_type TypeFormLaws.the_laws Int tt
  form_held i below Any h = Enum.owes TypeFormType.the_type TypeFormLaws.the_laws Any tt
  form_held i below (Arrow q t q' t') h =
      Enum.owes TypeFormType.the_type TypeFormLaws.the_laws (Arrow q t q' t')
      ((refl, omega arith), ((refl, omega arith), ((refl, omega arith), ((refl, omega arith), tt))))

  type_held : (i : ℕ) → i < 64 → (row : TypeRow) → TypeStands w i row.form → Held TypeRowType.the_row (Struct.val TypeRowType.the_type TypeRowLaws.the_laws) row
  type_held i below row h = Struct.owes TypeRowType.the_type TypeRowLaws.the_laws row (form_held i below row.form h, tt)

  param_held : (types : ℕ) → types ≤ 64 → (param : Param) → ParamStands w types param → Held ParamType.the_row (Struct.val ParamType.the_type ParamLaws.the_laws) param
  param_held types fit param h = Struct.owes ParamType.the_type ParamLaws.the_laws param ((refl, omega arith), ((refl, omega arith), ((refl, omega arith), tt)))

  term_held : (params i : ℕ) → params ≤ 64 → i < 256 → (term : Term) → TermStands w params i term → Literal term → Is TermType.the_row term (Enum.vals TermType.the_type TermLaws.the_laws term)
  term_held params i fit below (Lam p b) h l = Enum.owes TermType.the_type TermLaws.the_laws (Lam p b) ((refl, omega arith), ((refl, omega arith), tt))
  term_held params i fit below (App f a) h l = Enum.owes TermType.the_type TermLaws.the_laws (App f a) ((refl, omega arith), ((refl, omega arith), tt))
  term_held params i fit below (Op o x y) h l = Enum.owes TermType.the_type TermLaws.the_laws (Op o x y) ((refl, omega arith), ((refl, omega arith), ((refl, omega arith), tt)))
  term_held params i fit below (Var p) h l = Enum.owes TermType.the_type TermLaws.the_laws (Var p) ((refl, omega arith), tt)
  term_held params i fit below (Num n) h l = Enum.owes TermType.the_type TermLaws.the_laws (Num n) ((refl, omega arith), tt)
  term_held params i fit below (Enc s n) h l = Enum.owes TermType.the_type TermLaws.the_laws (Enc s n) ((refl, omega arith), ((refl, omega arith), tt))

  row_held : (params i : ℕ) → params ≤ 64 → i < 256 → (row : TermRow) → TermStands w params i row.term → Literal row.term → Held TermRowType.the_row (Struct.val TermRowType.the_type TermRowLaws.the_laws) row
  row_held params i fit below row h l = Struct.owes TermRowType.the_type TermRowLaws.the_laws row (term_held params i fit below row.term h l, tt)

-- The table in which a machine stands.
abbrev pub table_of : Machine → Table
table_of m = record {
  types = filled 64 no_type_row m.types;
  params = filled 64 no_param m.params;
  terms = filled 256 no_term_row m.terms;
  typecount = length m.types;
  paramcount = length m.params;
  termcount = length m.terms;
  schemes = bytes_of m.schemes;
}

module _ (m : Machine) (w : WellFormed m) where
  pub lists_table : lists (table_of m) ≡ m
  unfolding lists
  lists_table = λ i. record {
    schemes = table_in_lem w.schemes_sound i;
    types = take_filled 64 no_type_row m.types i;
    params = take_filled 64 no_param m.params i;
    terms = take_filled 256 no_term_row m.terms i;
  }

  pub table_ready : Ready (table_of m)
  table_ready = record { is_well_formed = rw lists_table w; kept = bytes_kept w.schemes_sound }

  few_words : words m.schemes ≤ 9
  few_words = sound_few w.schemes_sound

  types_held : Held (Array TypeRowType.the_row 64) (array_of (Struct.val TypeRowType.the_type TypeRowLaws.the_laws)) (table_of m).types
  types_held =
      filled_held TypeRowType.the_row (Struct.val TypeRowType.the_type TypeRowLaws.the_laws) no_type_row 64 m.types w.types_fit
      (type_held 1 (omega arith) 0 (omega arith) no_type_row tt)
      (λ i h. type_held (words m.schemes) few_words i (omega (arith, w.types_fit)) (get_or m.types i no_type_row) (w.types_stand i h))

  params_held : Held (Array ParamType.the_row 64) (array_of (Struct.val ParamType.the_type ParamLaws.the_laws)) (table_of m).params
  params_held =
      filled_held ParamType.the_row (Struct.val ParamType.the_type ParamLaws.the_laws) no_param 64 m.params w.params_fit
      (param_held 1 (omega arith) 1 (omega arith) no_param (omega arith, omega arith, omega arith))
      (λ i h. param_held (words m.schemes) few_words (length m.types) w.types_fit (get_or m.params i no_param) (w.params_stand i h))

  module _ (literals : Literals m) where
    terms_held : Held (Array TermRowType.the_row 256) (array_of (Struct.val TermRowType.the_type TermRowLaws.the_laws)) (table_of m).terms
    terms_held =
        filled_held TermRowType.the_row (Struct.val TermRowType.the_type TermRowLaws.the_laws) no_term_row 256 m.terms w.terms_fit
        (row_held 1 (omega arith) 1 1 (omega arith) (omega arith) no_term_row (omega arith, omega arith) tt)
        (λ i h.
        row_held (words m.schemes) few_words (length m.params) i w.params_fit (omega (arith, w.terms_fit)) (get_or m.terms i no_term_row) (w.terms_stand i h) (literals i))

    pub table_owned : Owned (table_of m)
    table_owned =
        Struct.owes TableType.the_type TableLaws.the_laws (table_of m) (
          types_held,
          (
            params_held,
            (
              terms_held,
              (
                (refl, omega (arith, w.types_fit)),
                ((refl, omega (arith, w.params_fit)), ((refl, omega (arith, w.terms_fit)), (bytes_held w.schemes_sound, tt))),
              ),
            ),
          ),
        )
