-- Qualifiers that stand with types, as nodes.
-- Document 02, f): "Wherever a qualifier stands with an arrow, in a typing or inside one of its types, it is PLAIN."
use Rattle.std.specs.Prelude.{ℕ, ◌<◌, ◌≡◌, length}
use Rattle.model.specs.Machine.{Machine, type_at, param_at}
use Rattle.model.specs.Typing.{Ty, arrow}
use Rattle.model.specs.declared.TypeForm.TheVariants.{Arrow}
use Rattle.layout.specs.Layout.{row_type, row_qualifier}

-- In the reading the qualifier of node q, standing with the type of node x, is PLAIN if that is an arrow.
abbrev pub PlainAt : (ℕ → Ty ℕ) → (ℕ → ℕ) → ℕ → ℕ → Type 0
PlainAt t v q x = (a : ℕ) (s : Ty ℕ) (r : ℕ) (u : Ty ℕ) → t x ≡ arrow a s r u → v q ≡ v 0

-- The node q of a qualifier stands with the node x of a type in the lines T and P and in the first k rows.
pub data Stands (m : Machine) (k : ℕ) : ℕ → ℕ → Type 0 where
  argument : {t q a q' b : ℕ} → t < length m.types → type_at m t ≡ Arrow q a q' b → Stands m k q a
  result : {t q a q' b : ℕ} → t < length m.types → type_at m t ≡ Arrow q a q' b → Stands m k q' b
  param : {p : ℕ} → p < length m.params → Stands m k (param_at m p).qualifier (param_at m p).typerow
  row : {i : ℕ} → i < k → i < length m.terms → Stands m k (row_qualifier i) (row_type i)
