-- Whole texts: the calls that their lines make, what the program `place` prints, and what the loader's C entry returns.
-- Document 01, "The report"; document 02, d).
use Rattle.std.specs.Prelude.{ℕ, ◌+◌, ◌*◌, ◌≤◌, ◌<◌, cond, List, [], ◌∷◌, ◌≡◌, eqb, length, take}
use Rattle.model.specs.Lists.{bytes}
use Rattle.model.specs.Number.{decimal}
pub use Rattle.model.specs.Line.{lines_of}
use Rattle.model.specs.Machine.{Machine, fresh_machine, added}
use Rattle.model.specs.SchemeFile.{opened}
use Rattle.model.specs.Inference.{ruling, Slot, Shape, Judged}
use Rattle.model.specs.Report.{line, report}
use Rattle.model.specs.Session.{Outcome, Infers}
use Rattle.scheme.specs.Schemes.{SchemeTable}

-- What the adds of a text come to: a machine, or the number of the first refusal and the line that it refuses.
pub data Load : Type 0 where
  loaded : Machine → Load
  stopped : ℕ → ℕ → Load

-- "adds each"; "A refused add .. stops". The first line has the number n.
unfoldable pub load_from : Machine → ℕ → List (List ℕ) → Load
load_from m n [] = loaded m
load_from m n (s ∷ rest) = cond (eqb (added m s).number 0) (load_from (added m s).machine (n + 1) rest) (stopped (added m s).number n)

-- "lines from 1"; the fresh machine holds the scheme table T.
abbrev pub load : SchemeTable → List ℕ → Load
load T text = load_from (fresh_machine T) 1 (lines_of text)

-- What `place` prints; document 02, d): "`place` and the C entry keep the six", so that T is theirs there.
pub data Prints (T : SchemeTable) (text : List ℕ) : List ℕ → Type 0 where
  -- "A refused add prints `X,number,line`"
  refused_add : {number n : ℕ} → load T text ≡ stopped number n → Prints T text (line (bytes "X" ∷ decimal number ∷ decimal n ∷ []))
  -- "a refused inference prints `NO,number,row`, row 0 for 10"
  refused_inference : {m : Machine} {number k : ℕ} {word : Slot → ℕ} {shape : Slot → Shape} → load T text ≡ loaded m →
      Judged (ruling m) m number k word shape → ¬ (number ≡ 0) → Prints T text (line (bytes "NO" ∷ decimal number ∷ decimal k ∷ []))
  -- "infers and prints the report"
  reported : {m : Machine} {word : Slot → ℕ} {shape : Slot → Shape} → load T text ≡ loaded m → Judged (ruling m) m 0 0 word shape → Prints T text (report m word shape)

-- The same of an infer call's outcome, whose buffer holds the report.
abbrev pub shown : Outcome → List ℕ
shown o = cond (eqb o.number 0) (take o.size o.buffer) (line (bytes "NO" ∷ decimal o.number ∷ decimal o.row ∷ []))

-- What the loader's C entry returns, and the buffer after it.
pub data Returns (T : SchemeTable) (text buffer : List ℕ) : ℕ → List ℕ → Type 0 where
  -- "A short buffer is checked first there and returns 11,000."
  short : length buffer < 6280 → Returns T text buffer 11000 buffer
  -- "with the buffer unchanged, the refusal's number × 1,000 + the line or row that `place` would print"
  refused_add : {number n : ℕ} → 6280 ≤ length buffer → load T text ≡ stopped number n → Returns T text buffer (number * 1000 + n) buffer
  refused_inference : {m : Machine} {o : Outcome} → 6280 ≤ length buffer → load T text ≡ loaded m → Infers m buffer o → ¬ (o.number ≡ 0) →
      Returns T text buffer (o.number * 1000 + o.row) o.buffer
  -- "100,000 + the report's length"
  reported : {m : Machine} {o : Outcome} → 6280 ≤ length buffer → load T text ≡ loaded m → Infers m buffer o → o.number ≡ 0 →
      Returns T text buffer (100000 + o.size) o.buffer

-- What the C entry that takes an owner's scheme file returns, and the buffer after it. Document 02, d); the order is docs/DECISIONS.md's.
pub data ReturnsUnder (file text buffer : List ℕ) : ℕ → List ℕ → Type 0 where
  -- "A short buffer is told first"
  short : length buffer < 6280 → ReturnsUnder file text buffer 11000 buffer
  -- "then what refuses the file, times 1,000 with 0 for its row"
  refused_file : 6280 ≤ length buffer → ¬ ((opened file).number ≡ 0) → ReturnsUnder file text buffer ((opened file).number * 1000) buffer
  -- "then all as under `placement_report`", the schemes being the file's
  accepted_file : {n : ℕ} {after : List ℕ} → (opened file).number ≡ 0 → Returns (opened file).machine.schemes text buffer n after → ReturnsUnder file text buffer n after
