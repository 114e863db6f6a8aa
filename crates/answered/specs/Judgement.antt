-- Something is judged of a machine: what infer with a long enough buffer answers of it.
use Rattle.std.specs.Prelude.{ℕ}
use Rattle.model.specs.Machine.{Machine}
use Rattle.model.specs.Inference.{ruling, Slot, Shape, Judged}

pub record HasJudgement (m : Machine) : Type 0 where
  pub number : ℕ
  pub row : ℕ
  pub word : Slot → ℕ
  pub shape : Slot → Shape
  pub judged : Judged (ruling m) m number row word shape
