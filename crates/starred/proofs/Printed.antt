-- What is printed of a program whose machine is written out, from facts that compute.
use Prim.Native.Nat.{ℕ}
use Prim.Native.String.{String}
use native.Mathlib.Omega.{arith}
use mathlib.Core.Bool.{true}
use mathlib.Core.List.{List, [], ◌∷◌}
use mathlib.Core.Path.{◌≡◌, subst}
use lib.Dec.{eqb}
use lib.ListN.{length}
use borrow.Author.Tests.{eqb-true}
use Rattle.scheme.specs.Six.{six_table}
use Rattle.scheme.proofs.Schemes.{plain_lowest}
use Rattle.scheme.proofs.Every.{every, every_at}
use Rattle.model.specs.Lists.{bytes}
use Rattle.model.specs.Number.{number_of, decimal}
use Rattle.model.specs.Word.{capital, spells, word_of, qualifier_of, scheme_of, operation_of, qualifier_word}
use Rattle.model.specs.Line.{floor, given, choose, exactly, int_line, any_line, arrow_line, param_line, lam_line, app_line, op_line, var_line, num_line, enc_line, type_line, leaf_line, term_line, line_of}
use Rattle.model.specs.Machine.{Machine, param_at, first_failing, type_refusal, param_refusal, term_refusal, settled, entered, added}
use Rattle.model.specs.Typing.{Assignment, FunctionsPlain}
use Rattle.model.specs.Strength.{whole}
use Rattle.model.specs.Inference.{ruling, Slot, Shape, Types, Refusal, FloorsMet, not_typable, typed}
use Rattle.model.specs.Report as Report
use Rattle.model.specs.Text.{Load, Prints, load, load_from, loaded, refused_inference, reported}
use Rattle.starred.specs.Starred.{Example, text_of, PrintsOutput}
use Rattle.starred.proofs.Closed.{closed, closed_sound}
use Rattle.starred.proofs.Typings.{Equations, follows_equations}
use Rattle.starred.proofs.Greatest.{EverySlot, words, shapes, within, greatest_typing}
use Rattle.starred.proofs.Refused.{refusal_number}

-- What the adds of a program come to, with all that it rests on open to computing.
unfoldable pub load_of : List String → Load
unfolding load_from added line_of type_line leaf_line term_line int_line any_line arrow_line param_line lam_line app_line op_line var_line num_line enc_line given choose exactly number_of capital spells word_of qualifier_of floor scheme_of operation_of entered settled first_failing type_refusal param_refusal term_refusal
load_of program = load six_table (text_of program)

-- The report is read from two typings: the first has its words and takes ANY as INT, the second takes ANY as an arrow.
module _ (m : Machine) (first second : Assignment (ruling m).Q) where
  -- Every typing passes the test against the two.
  abbrev pub AllWithin : Type 0
  AllWithin =
      (s : Assignment (ruling m).Q) → Equations (whole (ruling m)) m (length m.terms) s → FunctionsPlain (whole (ruling m)) m (length m.terms) s → EverySlot m (within m first second s)

  unfoldable pub report_of : List ℕ
  unfolding Report.report Report.lines Report.line Report.variable_line Report.param_line Report.row_line Report.shape_word qualifier_word decimal
  report_of = Report.report m (words m first second) (shapes m first second)

-- "a refused inference prints `NO,number,row`"
unfoldable pub refusal_of : ℕ → ℕ → List ℕ
unfolding Report.line decimal
refusal_of number k = Report.line (bytes "NO" ∷ decimal number ∷ decimal k ∷ [])

-- No parameter has a floor above PLAIN, so every word meets its floor.
abbrev pub WithoutFloors : Machine → Type 0
WithoutFloors m = every (length m.params) (λ p. eqb (param_at m p).floor 0) ≡ true

meets_no_floor : (m : Machine) → WithoutFloors m → (word : Slot → ℕ) → FloorsMet (ruling m) m word
meets_no_floor m none word p below =
    rw (eqb-true (param_at m p).floor 0 (every_at (length m.params) (λ p. eqb (param_at m p).floor 0) none p below)) (plain_lowest m.schemes _)

module _ (example : Example) (m : Machine) (load_is : load_of example.program ≡ loaded m) (closed_is : closed m ≡ true) where
  pub accepted_prints : WithoutFloors m → (first second : Assignment (ruling m).Q) → Types (ruling m) m first → Types (ruling m) m second →
      AllWithin m first second → report_of m first second ≡ text_of example.output → PrintsOutput example
  unfolding load_of report_of
  accepted_prints none first second typed-first typed-second all-within report_is =
      let answer =
      greatest_typing m first second typed-first typed-second
      (λ s typing. all-within s (follows_equations (whole (ruling m)) m (length m.terms) s (omega arith) typing.follows) typing.functions) in
      subst (Prints six_table (text_of example.program)) report_is (reported load_is (typed (closed_sound m closed_is) answer (meets_no_floor m none (words m first second))))

  pub refused_prints : {number k : ℕ} → Refusal (ruling m) m number k → refusal_of number k ≡ text_of example.output → PrintsOutput example
  unfolding load_of refusal_of
  refused_prints refusal line-is =
      subst (Prints six_table (text_of example.program)) line-is
      (refused_inference {word = λ x. 0} {shape = λ x. Shape.any} load_is (not_typable (closed_sound m closed_is) refusal) (refusal_number refusal))
