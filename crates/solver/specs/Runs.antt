-- What the solver's functions answer, said by typings alone where they leave the state.
use Rattle.std.specs.Prelude.{ℕ, ◌+◌, ◌<◌, List, ◌≡◌, length, ⊤, Result, Ok, Err}
use Rattle.scheme.specs.Rule.{Ruled, top_at}
use Rattle.model.specs.Machine.{Machine, term_in, term_at}
use Rattle.model.specs.WellFormed.{WellFormed}
use Rattle.model.specs.Typing.{Ty, Typable}
use Rattle.model.specs.Strength.{whole}
use Rattle.model.specs.Inference.{ruling, Cause, Refusal, GreatestTyping}
use Rattle.model.specs.declared.Term.{Term}
use Rattle.model.specs.declared.TermRow.{TermRow}
use Rattle.layout.specs.Layout.{nodes}
use Rattle.graph.specs.Types.{Types, types_of, Parts, Reads}
use Rattle.graph.specs.Search.{Finite}
use Rattle.qualifiers.specs.Classes.{Qualifiers}
use Rattle.setup.specs.Descriptors.{Described}
use Rattle.setup.specs.Started.{Started}
use Rattle.setup.specs.Passes.{ParamsNoted, KindsNoted}
use Rattle.qualifiers.specs.declared.Apart.{Apart}
use Rattle.pending.specs.Pending.{Pending}
use Rattle.pending.specs.Shapes.{Fixed}
use Rattle.rows.specs.Steps.{Ready}
use Rattle.report.specs.Codes.{coded_word, coded_shape}
use Rattle.report.specs.declared.Codes.{Codes}
use Rattle.report.specs.Written.{Matches}
use Rattle.solver.specs.State.{After}
use Rattle.solver.specs.declared.Turn.{Turn}
use Rattle.solver.specs.declared.Turn.TheVariants.{Next, Whole, Least, Stopped}
use Rattle.solver.specs.declared.Refused.{Refused}

-- R is the ruling of a well-formed machine.
pub record Governed (R : List ℕ) (m : Machine) : Type 0 where
  pub ruled : Ruled m.schemes R
  pub is_well_formed : WellFormed m

-- The rows up to k have no typing, and the number says why.
abbrev pub Fails : Machine → ℕ → ℕ → Type 0
Fails m number k = ¬ Typable (whole (ruling m)) m (k + 1) × Cause (ruling m) m (k + 1) number

-- A run that ends at a row: with the number where every type is finite, and without one where there is no reading.
abbrev pub Halts : Types → List ℕ → ℕ → Turn → Type 0
Halts T kids number Next = ⊥
Halts T kids number Whole = ⊥
Halts T kids number (Least n) = (n ≡ number) × ((x : ℕ) → x < nodes → Finite T kids x)
Halts T kids number Stopped = (t : ℕ → Ty ℕ) (v : ℕ → ℕ) → Reads T kids t v → ⊥

-- The test at the end: every type is finite, and the shapes are fixed; or there is no reading.
abbrev pub Finishes : (R kids u k k' : List ℕ) (Q : Qualifiers) (P : Pending) → Turn → Type 0
Finishes R kids u k k' Q P Next = ⊥
Finishes R kids u k k' Q P Whole = ((x : ℕ) → x < nodes → Finite (types_of u k) kids x) × Fixed R u k k' Q P
Finishes R kids u k k' Q P (Least n) = ⊥
Finishes R kids u k k' Q P Stopped = (t : ℕ → Ty ℕ) (v : ℕ → ℕ) → Reads (types_of u k) kids t v → ⊥

-- The state after all the rows asked for, with every type finite and every bound met, and the nodes of the rows after them as they were. It had the
-- kinds k before the shapes were fixed.
pub record Ended (R : List ℕ) (m : Machine) (kids k : List ℕ) (P : Pending) (T : Types) (Q : Qualifiers) (rows : ℕ) : Type 0 where
  pub after : After R m kids (types_of T.parents k) Q P rows
  pub finite : (x : ℕ) → x < nodes → Finite (types_of T.parents k) kids x
  pub ready : Ready R rows kids (types_of T.parents k) Q P
  pub fixed : Fixed R T.parents k T.kinds Q P

-- The same by some descriptors, kinds and pending pairs, where nothing reads them any more.
pub record Completed (R : List ℕ) (m : Machine) (T : Types) (Q : Qualifiers) (rows : ℕ) : Type 0 where
  pub kids : List ℕ
  pub kinds : List ℕ
  pub pending : Pending
  pub parts : Parts kids
  pub ended : Ended R m kids kinds pending T Q rows

-- Row i of the machine is the term, and the arrays hold the nodes of its parameters.
pub record RowOf (R : List ℕ) (m : Machine) (q ty : List ℕ) (i : ℕ) (term : Term) : Type 0 where
  pub governed : Governed R m
  pub noted : ParamsNoted m.params q ty
  pub in_list : i < length m.terms
  pub same_term : term_at m i ≡ term

-- After row i's turn in a run over so many rows: the state is the one after it, and there are more; or all are taken; or it is the least row that
-- leaves no typing, or some such row.
abbrev pub TurnAnswers : (R : List ℕ) (m : Machine) (kids : List ℕ) (T : Types) (Q : Qualifiers) (P : Pending) (i rows : ℕ) → Turn → Type 0
TurnAnswers R m kids T Q P i rows Next =
    (i + 1 < rows) × After R m kids T Q P (i + 1) × Ready R (i + 1) kids T Q P
TurnAnswers R m kids T Q P i rows Whole = Typable (whole (ruling m)) m rows × Completed R m T Q rows
TurnAnswers R m kids T Q P i rows (Least number) = Refusal (ruling m) m number i
TurnAnswers R m kids T Q P i rows Stopped = Fails m 21 i

-- The descriptors are still those of every machine that has the row.
abbrev pub StillDescribed : (R q ty : List ℕ) (i : ℕ) (term : Term) (kids kids' : List ℕ) → Type 0
StillDescribed R q ty i term kids kids' = (m : Machine) → RowOf R m q ty i term → Described m kids → Described m kids'

-- The machine has so many type rows and parameters, whose nodes the arrays hold, and a row.
pub record LinesOf (R : List ℕ) (m : Machine) (q ty : List ℕ) (typecount paramcount : ℕ) : Type 0 where
  pub governed : Governed R m
  pub noted : ParamsNoted m.params q ty
  pub types : length m.types ≡ typecount
  pub params : length m.params ≡ paramcount
  pub some : 0 < length m.terms

-- The state before the lines.
pub record Begun (R : List ℕ) (m : Machine) (kids : List ℕ) (T : Types) (Q : Qualifiers) : Type 0 where
  pub described : Described m kids
  pub started : Started m (top_at R) T Q

-- After the lines the state stands for no row yet.
abbrev pub AfterLines : (R : List ℕ) (m : Machine) (kids : List ℕ) (T : Types) (Q : Qualifiers) (P : Pending) → Type 0
AfterLines R m kids T Q P = After R m kids T Q P 0 × Ready R 0 kids T Q P

-- It does; or the lines alone have no typing.
abbrev pub Lined : (R : List ℕ) (m : Machine) (kids : List ℕ) (T : Types) (Q : Qualifiers) (P : Pending) → Result ⊤ Apart → Type 0
Lined R m kids T Q P (Ok x) = AfterLines R m kids T Q P
Lined R m kids T Q P (Err e) = Refusal (ruling m) m 22 0

-- The arrays hold all of the machine: its lines, the kinds of its type rows, and its rows.
pub record Held (R : List ℕ) (m : Machine) (kinds q ty : List ℕ) (terms : List TermRow) (typecount paramcount termcount : ℕ) : Type 0 where
  pub lines : LinesOf R m q ty typecount paramcount
  pub noted : KindsNoted m.types kinds
  pub rows : length m.terms ≡ termcount
  pub same_term : (i : ℕ) → i < termcount → term_at m i ≡ term_in terms i

-- All rows are taken, or the least one that leaves no typing is told.
abbrev pub RowsTaken : (R : List ℕ) (m : Machine) (T : Types) (Q : Qualifiers) (termcount : ℕ) → Result ⊤ Refused → Type 0
RowsTaken R m T Q termcount (Ok x) = Completed R m T Q termcount
RowsTaken R m T Q termcount (Err refused) = Refusal (ruling m) m refused.number refused.row

-- The program is placed, with its words and shapes in the codes.
abbrev pub Placed : Machine → Codes → Type 0
Placed m codes = GreatestTyping (ruling m) m (coded_word codes) (coded_shape codes) × Matches m codes (length m.params) (length m.terms)

-- It is; or it is refused at the least row.
abbrev pub Solves : Machine → Result Codes Refused → Type 0
Solves m (Ok codes) = Placed m codes
Solves m (Err refused) = Refusal (ruling m) m refused.number refused.row
