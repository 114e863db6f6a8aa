-- What stands for a job before its run: the numbers as frames around the last row, or why there is no run.
-- Document 02, e).
use Rattle.std.specs.Prelude.{ℕ, ◌<◌, Bool, true, false, List, ◌≡◌, length}
use Rattle.model.specs.Lists.{contains}
use Rattle.model.specs.Machine.{Machine, term_in, term_at}
use Rattle.model.specs.WellFormed.{WellFormed}
use Rattle.model.specs.Inference.{Slot, param, Shape}
use Rattle.model.specs.declared.Term.TheVariants.{Lam}
use Rattle.model.specs.declared.TermRow.{TermRow}
use Rattle.report.specs.Codes.{coded_word, coded_shape}
use Rattle.report.specs.declared.Codes.{Codes}
use Rattle.dryrun.specs.Run.{last_row, leading, job, NoArrow}
use Rattle.environments.specs.Standing.{Context, Stack, plug, row_of}
use Rattle.environments.specs.declared.Frame.{Frame}
use Rattle.environments.specs.declared.Cell.{Cell}

-- The numbers stand as frames: around the last row's expression they are the job.
pub record Led (m : Machine) (word : Slot → ℕ) (numbers : List ℕ) (f : List Frame) : Type 0 where
  pub contexts : List Context
  pub stack : (c : List Cell) → Stack m word c 0 f contexts
  pub plugged : plug contexts (row_of m word (last_row m)) ≡ job m word numbers

-- Why a job has no run: "a wrong count of numbers", "a leading parameter of shape ARROW".
pub data Unfit (m : Machine) (shape : Slot → Shape) (numbers : List ℕ) : Type 0 where
  wrong_count : ¬ (length numbers ≡ length (leading m)) → Unfit m shape numbers
  arrow : (p : ℕ) → contains p (leading m) ≡ true → shape (param p) ≡ Shape.arrow → Unfit m shape numbers

-- Whether the job may run: it is led, or why it has no run.
abbrev pub Leads : Machine → (Slot → ℕ) → (Slot → Shape) → List ℕ → List Frame → Bool → Type 0
Leads m word shape numbers f true = (length numbers ≡ length (leading m)) × NoArrow m shape × Led m word numbers f
Leads m word shape numbers f false = Unfit m shape numbers

-- The first rows of the array are the machine's.
pub record RowsIn (m : Machine) (terms : List TermRow) (count : ℕ) : Type 0 where
  pub counted : length m.terms ≡ count
  pub same : (i : ℕ) → i < count → term_at m i ≡ term_in terms i

-- The answer and the frames are right for every machine that the arrays may be of.
abbrev pub AllLed : List TermRow → ℕ → Codes → List ℕ → List Frame → Bool → Type 0
AllLed terms count codes numbers f r =
    (m : Machine) → WellFormed m → RowsIn m terms count → Leads m (coded_word codes) (coded_shape codes) numbers f r

-- Each LAM among the first rows has a parameter of the 64, and its body is a row below its own.
abbrev pub LamsStand : List TermRow → ℕ → Type 0
LamsStand terms count = (i p b : ℕ) → i < count → term_in terms i ≡ Lam p b → (p < 64) × (b < i)
