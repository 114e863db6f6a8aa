-- What a row of the arrays names is what the machine's row names.
use Prim.Native.Nat.{ℕ, ◌<◌}
use native.Mathlib.Omega.{arith}
use mathlib.Core.List.{List}
use mathlib.Core.Path.{◌≡◌, sym, ap, subst, subst₂, ◌∙◌}
use Rattle.layout.specs.Layout.{row_type, descriptors}
use Rattle.model.specs.Machine.{Machine, param_at}
use Rattle.model.specs.declared.Term.{Term}
use Rattle.readings.specs.Nodes.{parameter_of, node_named}
use Rattle.rows.specs.Rows.{RowStands}
use Rattle.setup.specs.Descriptors.{named_qualifier, named_typerow, Describes, Written, Described}
use Rattle.setup.specs.Passes.{Only, RowLeft}
use Rattle.setup.proofs.Descriptors.{names_place, written_row, described_kept, forms_kept_none, forms_kept_more}
use Rattle.solver.specs.Runs.{RowOf}

module _ {R qs tys : List ℕ} {m : Machine} {i : ℕ} {term : Term} (row : RowOf R m qs tys i term) (stands : RowStands i term (node_named qs term) (node_named tys term)) where
  place : parameter_of term < 64
  place = names_place 9 64 i term (omega arith) stands.stands

  pub same_qualifier : node_named qs term ≡ named_qualifier m i
  same_qualifier = row.noted.qualifier (parameter_of term) place ∙ ap (λ (t : Term). (param_at m (parameter_of t)).qualifier) (sym row.same_term)

  pub same_typerow : node_named tys term ≡ named_typerow m i
  same_typerow = row.noted.typerow (parameter_of term) place ∙ ap (λ (t : Term). (param_at m (parameter_of t)).typerow) (sym row.same_term)

  -- The row's descriptor was written, and the others stayed.
  module _ (kids kids' : List ℕ) (only : Only (row_type i) kids kids') (describes : Describes kids' i term (node_named qs term) (node_named tys term)) (left : RowLeft term kids kids') where
    pub written_next : ((d : ℕ) → d < descriptors → Written m kids d) → (d : ℕ) → d < descriptors → Written m kids' d
    written_next =
        let same = sym row.same_term in
        written_row m kids kids' i row.in_list only
        (subst (λ (t : Term). Describes kids' i t (named_qualifier m i) (named_typerow m i)) same (subst₂ (Describes kids' i term) same_qualifier same_typerow describes))
        (subst (λ (t : Term). RowLeft t kids kids') same left)

    pub described_next : Described m kids → Described m kids'
    described_next described =
        described_kept m kids kids' row.governed.is_well_formed.types_fit described only.parts (forms_kept_more kids kids kids' i (forms_kept_none kids) only) (written_next described.written)
