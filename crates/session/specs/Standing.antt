-- A table is ready in one way at most, so that a conversation can keep the fact beside its table.
use Rattle.std.specs.Prelude.{ℕ}
use Rattle.std.specs.Coded.{Unit-prop, le_prop}
use Rattle.std.proofs.Props.{props}
use Rattle.model.specs.WellFormed.{TypeStands, TermStands}
use Rattle.model.specs.declared.TypeForm.{TypeForm}
use Rattle.model.specs.declared.TypeForm.TheVariants.{Int, Any, Arrow}
use Rattle.model.specs.declared.Term.{Term}
use Rattle.model.specs.declared.Term.TheVariants.{Lam, App, Op, Var, Num, Enc}
use Rattle.table.specs.declared.Table.{Table}
use Rattle.table.specs.Ready.{Ready}

pub TypeStands-prop : (w i : ℕ) (form : TypeForm) → IsProp (TypeStands w i form)
TypeStands-prop w i Int = Unit-prop
TypeStands-prop w i Any = Unit-prop
TypeStands-prop w i (Arrow q t q' t') = Prim.hlevel props

pub TermStands-prop : (w params i : ℕ) (term : Term) → IsProp (TermStands w params i term)
TermStands-prop w params i (Lam p b) = Prim.hlevel props
TermStands-prop w params i (App f a) = Prim.hlevel props
TermStands-prop w params i (Op o l r) = Prim.hlevel props
TermStands-prop w params i (Var p) = le_prop
TermStands-prop w params i (Num n) = Unit-prop
TermStands-prop w params i (Enc s n) = Prim.hlevel props

pub Ready-prop : (table : Table) → IsProp (Ready table)
Ready-prop table = Prim.hlevel (props, TypeStands-prop, TermStands-prop)
