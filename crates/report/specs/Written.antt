-- What `write` leaves in the buffer, and what it returns.
-- Document 01, "The report".
use Rattle.std.specs.Prelude.{ℕ, ◌+◌, ◌≤◌, ◌<◌, true, List, ◌++◌, ◌≡◌, ltb, leb, length, get_or, drop}
use Rattle.scheme.specs.Schemes.{words}
use Rattle.model.specs.Lists.{all_of}
use Rattle.model.specs.Machine.{Machine}
use Rattle.model.specs.Inference.{mentions}
use Rattle.model.specs.Report.{report}
use Rattle.report.specs.Codes.{coded_word, coded_shape}
use Rattle.report.specs.declared.Codes.{Codes}

-- There are at most eight schemes' names, and none is longer than five bytes.
pub record Short (names : List (List ℕ)) : Type 0 where
  pub few : length names ≤ 8
  pub short : all_of (λ s. leb (length s) 5) names ≡ true

-- The codes and the counts match a machine: it has that many parameters and rows, and mentions just the variables that have a word's code.
pub record Matches (m : Machine) (c : Codes) (params rows : ℕ) : Type 0 where
  pub params_counted : length m.params ≡ params
  pub rows_counted : length m.terms ≡ rows
  pub listed : (k : ℕ) → k < 64 → ltb (get_or c.variables k 9) 9 ≡ mentions m (k + words m.schemes)

-- The report of a machine with the words and shapes of the codes.
abbrev pub report_of : Machine → Codes → List ℕ
report_of m c = report m (coded_word c) (coded_shape c)

-- For every machine with these schemes' names that the codes match: its report stands at the front of the buffer, "Bytes beyond the report are unchanged", and what is
-- returned is "the report's length in bytes".
pub record Written (names : List (List ℕ)) (c : Codes) (params rows : ℕ) (before after : List ℕ) (returned : ℕ) : Type 0 where
  pub buffer : (m : Machine) → m.schemes.names ≡ names → Matches m c params rows → after ≡ report_of m c ++ drop (length (report_of m c)) before
  pub size : (m : Machine) → m.schemes.names ≡ names → Matches m c params rows → returned ≡ length (report_of m c)
