-- The literals of the rows that stand are at most 4294967295, as they were read.
use Prim.Native.Nat.{ℕ, ◌-◌, ◌≤◌}
use mathlib.Core.List.{List}
use lib.ListN.{length}
use Rattle.scheme.specs.Schemes.{SchemeTable}
use Rattle.model.specs.Line.{line_of}
use Rattle.model.specs.Machine.{Machine, fresh_machine, no_term_row, term_at, entered, added, redeclared, taken_back}
use Rattle.model.specs.Session.{Call, Outcome, Answers, adds, redeclares, takes_back, infers}
use Rattle.model.specs.declared.Term.{Term}
use Rattle.model.specs.declared.Term.TheVariants.{Lam, App, Op, Var, Num, Enc}
use Rattle.model.specs.declared.Line.{Line}
use Rattle.model.specs.declared.Line.TheVariants.{TypeLine, ParamLine, TermLine, NoForm}
use Rattle.model.proofs.Checks.{settled_keeps}
use Rattle.table.proofs.Codes.{TermCodes, LineCodes, line_codes}
use Rattle.answered.proofs.Entries.{each_appended, each_taken}

abbrev pub Literal : Term → Type 0
Literal (Lam p b) = Unit {0}
Literal (App f a) = Unit {0}
Literal (Op o l r) = Unit {0}
Literal (Var p) = Unit {0}
Literal (Num n) = n ≤ 4294967295
Literal (Enc s n) = n ≤ 4294967295

abbrev pub Literals : Machine → Type 0
Literals m = (i : ℕ) → Literal (term_at m i)

read_literal : (names : List (List ℕ)) (term : Term) → TermCodes names term → Literal term
read_literal names (Lam p b) codes = tt
read_literal names (App f a) codes = tt
read_literal names (Op o l r) codes = tt
read_literal names (Var p) codes = tt
read_literal names (Num n) codes = codes
read_literal names (Enc s n) codes = codes.2

pub fresh_literals : (T : SchemeTable) → Literals (fresh_machine T)
fresh_literals T i = tt

module _ (m : Machine) (literals : Literals m) where
  abbrev names : List (List ℕ)
  names = m.schemes.names

  entered_literals : (line : Line) → LineCodes names line → Literals (entered m line).machine
  unfolding entered
  entered_literals (TypeLine i form) codes = settled_keeps Literals m _ _ literals (λ e. literals)
  entered_literals (ParamLine p param) codes = settled_keeps Literals m _ _ literals (λ e. literals)
  entered_literals (TermLine i term) codes =
      settled_keeps Literals m _ _ literals (λ e.
      each_appended (λ row. Literal row.term) no_term_row tt m.terms (record { term = term }) literals (read_literal names term codes))
  entered_literals NoForm codes = settled_keeps Literals m _ _ literals (λ e. literals)

  pub answers_literals : {call : Call} {o : Outcome} {after : Machine} → Answers m call o after → Literals after
  unfolding added redeclared taken_back
  answers_literals (adds {line}) = entered_literals (line_of names line) (line_codes names line)
  answers_literals (redeclares {p} {code}) = settled_keeps Literals m _ _ literals (λ e. literals)
  answers_literals takes_back = settled_keeps Literals m _ _ literals (λ e. each_taken (λ row. Literal row.term) no_term_row tt (length m.terms - 1) m.terms literals)
  answers_literals (infers i) = literals
