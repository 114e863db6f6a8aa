-- Reports that complete to a typing.
-- Document 01, "The report" and "Before a delivery is taken"; document 02, a).
use Rattle.std.specs.Prelude.{ℕ, List, ◌++◌, ◌≡◌, length, drop}
use Rattle.model.specs.Machine.{Machine}
use Rattle.model.specs.Typing.{Ty, Assignment}
use Rattle.model.specs.Inference.{ruling, Slot, Listed, slot_qualifier, type_of, IsInt, IsArrow, Shape, Types}
use Rattle.model.specs.Report.{report}
use Rattle.model.specs.Session.{Outcome}
use Rattle.demands.specs.Floors.{MeetsFloors}

-- A type of the shape, "with ANY taken as INT".
abbrev pub HasShape : {Q : Type 0} → Shape → Ty Q → Type 0
HasShape Shape.int τ = IsInt τ
HasShape Shape.arrow τ = IsArrow τ
HasShape Shape.any τ = IsInt τ

-- "schemes and shapes that complete to a typing": some one typing has them all.
pub record Completes (m : Machine) (word : Slot → ℕ) (shape : Slot → Shape) : Type 0 where
  pub typing : Assignment (ruling m).Q
  pub types : Types (ruling m) m typing
  pub has_words : (x : Slot) → Listed (ruling m) m x → slot_qualifier typing x ≡ (ruling m).word (word x)
  pub has_shapes : (x : Slot) → Listed (ruling m) m x → HasShape (shape x) (type_of typing x)

-- The bytes of the outcome are the report of schemes and shapes of which something holds, and beyond it those of the buffer.
abbrev pub Reports : Machine → List ℕ → Outcome → ((Slot → ℕ) → (Slot → Shape) → Type 0) → Type 0
Reports m buffer o Holds =
    (word : Slot → ℕ)
    × (shape : Slot → Shape)
    × (o.size ≡ length (report m word shape))
    × (o.buffer ≡ report m word shape ++ drop (length (report m word shape)) buffer)
    × Holds word shape

abbrev pub ReportsTyping : Machine → List ℕ → Outcome → Type 0
ReportsTyping m buffer o = Reports m buffer o (Completes m)

-- Document 02, a): the typing that has all the schemes and shapes of the report "meets every floor".
abbrev pub ReportsAboveFloors : Machine → List ℕ → Outcome → Type 0
ReportsAboveFloors m buffer o = Reports m buffer o (λ word shape. (c : Completes m word shape) × MeetsFloors m c.typing)
