-- What is judged of a machine.
use Rattle.std.specs.Prelude.{ℕ, ◌≡◌, length, Result, Ok, Err}
use Rattle.model.specs.Machine.{Machine}
use Rattle.model.specs.Inference.{ruling, Slot, Shape, Judged}
use Rattle.report.specs.Codes.{coded_word, coded_shape}
use Rattle.report.specs.Written.{Matches}
use Rattle.report.specs.declared.Codes.{Codes}
use Rattle.solver.specs.declared.Refused.{Refused}
use Rattle.inference.specs.declared.Unaccepted.{Unaccepted}

-- It is accepted with the words and the shapes of the codes, and a report is written of them; or refused with a number and a row, whatever the words and
-- shapes; or refused with 24 and a parameter, with those of the codes.
abbrev pub Judges : Machine → Result Codes Unaccepted → Type 0
Judges m (Ok codes) = Judged (ruling m) m 0 0 (coded_word codes) (coded_shape codes) × Matches m codes (length m.params) (length m.terms)
Judges m (Err (Unaccepted.Refused r)) = ¬ (r.number ≡ 0) × ((word : Slot → ℕ) (shape : Slot → Shape) → Judged (ruling m) m r.number r.row word shape)
Judges m (Err (Unaccepted.BelowFloor p codes)) = Judged (ruling m) m 24 p (coded_word codes) (coded_shape codes)

-- Some words and shapes are judged with the number, which is not 0, and the row.
abbrev pub Refuses : Machine → Refused → Type 0
Refuses m r = ¬ (r.number ≡ 0) × ((word : Slot → ℕ) × (shape : Slot → Shape) × Judged (ruling m) m r.number r.row word shape)
