-- When a call is refused: document 01's table of numbers with those that document 02 adds, and what demand 1 says of one call.
-- Document 01, "The four calls"; document 02, a) and d).
use Rattle.std.specs.Prelude.{ℕ, ◌+◌, ◌≤◌, ◌<◌, true, cond, List, [], ◌∷◌, ◌≡◌, eqb, length}
use Rattle.scheme.specs.Schemes.{words}
use Rattle.model.specs.Lists.{contains}
use Rattle.model.specs.Line.{line_of}
use Rattle.model.specs.Machine.{Machine, children, named, parts, used, bound}
use Rattle.model.specs.Closed.{Closed}
use Rattle.model.specs.Inference.{ruling, Refusal}
use Rattle.model.specs.Session.{Call, add, redeclare, take_back, infer, Outcome, Answers}
use Rattle.model.specs.declared.TypeForm.{TypeForm}
use Rattle.model.specs.declared.Param.{Param}
use Rattle.model.specs.declared.Term.{Term}
use Rattle.model.specs.declared.Term.TheVariants.{Lam}
use Rattle.model.specs.declared.Line.{Line}
use Rattle.model.specs.declared.Line.TheVariants.{TypeLine, ParamLine, TermLine, NoForm}
use Rattle.demands.specs.Floors.{SomeMeetsFloors}

-- What a line is on this machine: its words are those of the machine's scheme table.
abbrev pub read_by : Machine → List ℕ → Line
read_by m s = line_of m.schemes.names s

-- The table of numbers: on this machine the words of the number's row are true of the call. Which number is returned where several are is said below.
pub data Breaks (m : Machine) : Call → ℕ → Type 0 where
  -- 1: "line longer than 64 bytes, or none of the forms above"
  line_too_long : {s : List ℕ} → 64 < length s → Breaks m (add s) 1
  no_form : {s : List ℕ} → read_by m s ≡ NoForm → Breaks m (add s) 1
  -- 2: "own number is not the next in its list"
  type_not_next : {s : List ℕ} {i : ℕ} {form : TypeForm} → read_by m s ≡ TypeLine i form → ¬ (i ≡ length m.types) → Breaks m (add s) 2
  param_not_next : {s : List ℕ} {p : ℕ} {param : Param} → read_by m s ≡ ParamLine p param → ¬ (p ≡ length m.params) → Breaks m (add s) 2
  term_not_next : {s : List ℕ} {i : ℕ} {term : Term} → read_by m s ≡ TermLine i term → ¬ (i ≡ length m.terms) → Breaks m (add s) 2
  -- 3: "list full: 64 types, 64 parameters, 256 term rows"
  types_full : {s : List ℕ} {i : ℕ} {form : TypeForm} → read_by m s ≡ TypeLine i form → 64 ≤ length m.types → Breaks m (add s) 3
  params_full : {s : List ℕ} {p : ℕ} {param : Param} → read_by m s ≡ ParamLine p param → 64 ≤ length m.params → Breaks m (add s) 3
  terms_full : {s : List ℕ} {i : ℕ} {term : Term} → read_by m s ≡ TermLine i term → 256 ≤ length m.terms → Breaks m (add s) 3
  -- 4: "type row not declared before this line (in a T line: not below own number)"
  part_not_below : {s : List ℕ} {i : ℕ} {form : TypeForm} → read_by m s ≡ TypeLine i form → (t : ℕ) → contains t (parts form) ≡ true → ¬ (t < i) → Breaks m (add s) 4
  type_not_declared : {s : List ℕ} {p : ℕ} {param : Param} → read_by m s ≡ ParamLine p param → ¬ (param.typerow < length m.types) → Breaks m (add s) 4
  -- 5: "parameter not declared"
  named_not_declared : {s : List ℕ} {i : ℕ} {term : Term} → read_by m s ≡ TermLine i term → (p : ℕ) → contains p (named term) ≡ true → ¬ (p < length m.params) → Breaks m (add s) 5
  param_not_declared : {p code : ℕ} → ¬ (p < length m.params) → Breaks m (redeclare p code) 5
  -- 6: "child not below own number"
  child_not_below : {s : List ℕ} {i : ℕ} {term : Term} → read_by m s ≡ TermLine i term → (c : ℕ) → contains c (children term) ≡ true → ¬ (c < i) → Breaks m (add s) 6
  -- 7: "child already used, or one row named as both children"
  child_used : {s : List ℕ} {i : ℕ} {term : Term} → read_by m s ≡ TermLine i term → (c : ℕ) → contains c (children term) ≡ true → used m.terms c ≡ true → Breaks m (add s) 7
  both_children : {s : List ℕ} {i c : ℕ} {term : Term} → read_by m s ≡ TermLine i term → children term ≡ c ∷ c ∷ [] → Breaks m (add s) 7
  -- 8: "LAM of a parameter already bound"
  already_bound : {s : List ℕ} {i p b : ℕ} → read_by m s ≡ TermLine i (Lam p b) → bound m.terms p ≡ true → Breaks m (add s) 8
  -- 9: "take-back with no term row"
  without_term_row : m.terms ≡ [] → Breaks m take_back 9
  -- 12: "redeclare with a code above 70", document 02, d): "for a code above the last variable's"
  code_above : {p code : ℕ} → words m.schemes + 64 ≤ code → Breaks m (redeclare p code) 12
  -- 11: "report buffer shorter than 6,280 bytes"
  buffer_short : {buffer : List ℕ} → length buffer < 6280 → Breaks m (infer buffer) 11
  -- 10: "program not closed"
  program_open : {buffer : List ℕ} → ¬ Closed m → Breaks m (infer buffer) 10
  -- 21, 22, 23: "no typing"
  no_typing : {buffer : List ℕ} {number k : ℕ} → Refusal (ruling m) m number k → Breaks m (infer buffer) number
  -- 24, of document 02, a): no typing "meets every floor"
  floors_missed : {buffer : List ℕ} → ¬ SomeMeetsFloors m → Breaks m (infer buffer) 24

-- "Add checks 1 to 8 in that order; redeclare 5, then 12; infer 11, 10, then 21 to 23"; document 02, a): 24 "after 21 to 23".
abbrev pub checks : Call → List ℕ
checks (add line) = 1 ∷ 2 ∷ 3 ∷ 4 ∷ 5 ∷ 6 ∷ 7 ∷ 8 ∷ []
checks (redeclare p code) = 5 ∷ 12 ∷ []
checks take_back = 9 ∷ []
checks (infer buffer) = 11 ∷ 10 ∷ 21 ∷ 22 ∷ 23 ∷ 24 ∷ []

-- The numbers that stand in front of one in a list; all where it does not stand there.
abbrev pub in_front_of : ℕ → List ℕ → List ℕ
in_front_of number [] = []
in_front_of number (n ∷ ns) = cond (eqb n number) [] (n ∷ in_front_of number ns)

-- "the lent bytes": the report buffer that a call is given; only an infer has one.
abbrev pub lent : Call → List ℕ
lent (add line) = []
lent (redeclare p code) = []
lent take_back = []
lent (infer buffer) = buffer

-- Demand 1 of one call: it is refused exactly where the table has a number for it, with the number that is checked first, and then changes nothing.
pub record RefusedExactly (m : Machine) (call : Call) (o : Outcome) (after : Machine) : Type 0 where
  -- "Refused are: .. Each has its number in document 01"
  pub refused : ¬ (o.number ≡ 0) → Breaks m call o.number
  -- nothing that is checked before the returned number is broken
  pub in_order : (n : ℕ) → contains n (in_front_of o.number (checks call)) ≡ true → ¬ Breaks m call n
  -- "Accepted is everything else"
  pub accepted : o.number ≡ 0 → (n : ℕ) → ¬ Breaks m call n
  pub everything_else : ((n : ℕ) → ¬ Breaks m call n) → o.number ≡ 0
  -- "a refused call leaves the table and the lent bytes as it found them"
  pub untouched : ¬ (o.number ≡ 0) → (after ≡ m) × (o.buffer ≡ lent call)

-- The machine has an answer to the call.
abbrev pub HasAnswer : Machine → Call → Type 0
HasAnswer m call = (o : Outcome) × (after : Machine) × Answers m call o after
