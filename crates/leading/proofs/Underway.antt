-- The loop for every machine that the arrays may be of, one law for each way through it.
use Prim.Native.Nat.{ℕ, zero, suc, ◌+◌, ◌-◌, ◌≤◌, ◌<◌}
use native.Mathlib.Omega.{arith}
use native.Mathlib.Numerals.{add-one}
use mathlib.Core.Bool.{true, false, false≢true}
use mathlib.Core.List.{List, []}
use mathlib.Core.Path.{◌≡◌, refl, sym, ap, subst, ◌∙◌}
use lib.ListN.{length, get_or, set, length-set}
use Rattle.model.specs.Machine.{Machine, term_at, term_in}
use Rattle.model.specs.WellFormed.{WellFormed}
use Rattle.model.specs.Inference.{Shape}
use Rattle.model.specs.declared.Term.TheVariants.{Lam}
use Rattle.model.specs.declared.TermRow.{TermRow}
use Rattle.report.specs.Codes.{coded_word, coded_shape, shape_of_code}
use Rattle.report.specs.declared.Codes.{Codes}
use Rattle.dryrun.specs.Expression.{leading_of}
use Rattle.environments.specs.declared.Datum.{Datum}
use Rattle.environments.specs.declared.Focus.{Focus}
use Rattle.environments.specs.declared.Frame.{Frame}
use Rattle.leading.specs.Leading.{RowsIn, AllLed, LamsStand}
use Rattle.leading.proofs.Lams.{leading_at, leads_none}
use Rattle.leading.proofs.Going.{Going, going_none, too_many, too_few, is_arrow, going_more, leads}

-- No code but 1 is ARROW's.
code_straight : (c : ℕ) → ¬ (c ≡ 1) → ¬ (shape_of_code c ≡ Shape.arrow)
code_straight zero other e = false≢true cc
code_straight (suc zero) other e = other refl
code_straight (suc (suc c)) other e = false≢true cc

-- What is known where the loop turns.
pub record Underway (terms : List TermRow) (count : ℕ) (codes : Codes) (numbers : List ℕ) (f : List Frame) (row j : ℕ) : Type 0 where
  pub low : j ≤ length numbers
  pub in_list : row < count
  pub lams : LamsStand terms count
  pub sized : length f ≡ length numbers
  pub going : (m : Machine) → WellFormed m → RowsIn m terms count → Going m (coded_word codes) (coded_shape codes) numbers f row j

module _ {terms : List TermRow} {count : ℕ} {codes : Codes} {numbers : List ℕ} where
  -- At the last row, with no number put.
  pub begins : {f : List Frame} → 0 < count → LamsStand terms count → length f ≡ length numbers → Underway terms count codes numbers f (count - 1) 0
  begins {f} some lams sized =
      record {
        low = omega arith;
        in_list = omega arith;
        lams = lams;
        sized = sized;
        going = λ m w rows.
            subst (λ (n : ℕ). Going m (coded_word codes) (coded_shape codes) numbers f (n - 1) 0) rows.counted (going_none m w (coded_word codes) (coded_shape codes) numbers f);
      }

  module _ {f : List Frame} {row j : ℕ} (at : Underway terms count codes numbers f row j) where
    -- The array's row is the machine's.
    row_in : {m : Machine} → RowsIn m terms count → row < length m.terms
    row_in rows = omega (arith, rows.counted, at.in_list)

    module _ (none : (p b : ℕ) → ¬ (term_in terms row ≡ Lam p b)) where
      no_lam : {m : Machine} → RowsIn m terms count → leading_of (leading_at m) (term_at m row) ≡ []
      no_lam {m} rows = leads_none (term_at m row) (λ p b is. none p b (sym (rows.same row at.in_list) ∙ is)) (leading_at m)

      -- The LAMs end before the numbers.
      pub past_last : j < length numbers → AllLed terms count codes numbers f false
      past_last more m w rows = too_many m w (coded_word codes) (coded_shape codes) numbers f row j (at.going m w rows) (row_in rows) more (no_lam rows)

      -- The numbers and the LAMs are at their end.
      pub both-end : length numbers ≤ j → AllLed terms count codes numbers f true
      both-end all m w rows = leads m w (coded_word codes) (coded_shape codes) numbers f row j (at.going m w rows) (row_in rows) at.sized (omega (arith, at.low)) (no_lam rows)

    module _ {p b : ℕ} (lam : term_in terms row ≡ Lam p b) where
      a_lam : {m : Machine} → RowsIn m terms count → term_at m row ≡ Lam p b
      a_lam rows = rows.same row at.in_list ∙ lam

      -- The numbers end before the LAMs.
      pub too_short : length numbers ≤ j → AllLed terms count codes numbers f false
      too_short all m w rows = too_few m w (coded_word codes) (coded_shape codes) numbers f row j (at.going m w rows) (row_in rows) p b (a_lam rows) (omega (arith, at.low))

      -- The LAM's parameter and its body may be looked up.
      pub stands : (p < 64) × (b < row)
      stands = at.lams row p b at.in_list lam

      -- The LAM's parameter has the code of ARROW.
      pub at_arrow : get_or codes.paramshapes p 0 ≡ 1 → AllLed terms count codes numbers f false
      at_arrow code m w rows =
          is_arrow m w (coded_word codes) (coded_shape codes) numbers f row j (at.going m w rows) (row_in rows) p b (a_lam rows) (ap shape_of_code code)

      -- The frame is put, and the loop turns.
      pub goes_on : j < length numbers → ¬ (get_or codes.paramshapes p 0 ≡ 1) →
          Underway terms count codes numbers (set f j (Frame.Argument (Focus.Datum (Datum.Number (get_or codes.paramwords p 0) (get_or numbers j 0))))) b (j + 1)
      goes_on more other =
          let new = Frame.Argument (Focus.Datum (Datum.Number (get_or codes.paramwords p 0) (get_or numbers j 0))) in
          record {
            low = omega arith;
            in_list = omega (arith, stands, at.in_list);
            lams = at.lams;
            sized = length-set f j new ∙ at.sized;
            going = λ m w rows.
                rw add-one
                (going_more m w (coded_word codes) (coded_shape codes) numbers f row j (at.going m w rows) (row_in rows) p b (a_lam rows) at.sized more
                (code_straight (get_or codes.paramshapes p 0) other));
          }
