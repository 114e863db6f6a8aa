-- The machine that a call leaves is the one that it describes where it is accepted, so that a list's calls stand on what the accepted ones describe.
use mathlib.Core.Bool.{Bool, true, false, cond}
use mathlib.Core.List.{List, [], ◌∷◌, ◌++◌}
use mathlib.Core.Path.{◌≡◌, refl, subst}
use lib.Dec.{eqb}
use Rattle.model.specs.Line.{line_of}
use Rattle.model.specs.Machine.{Machine, settled, entered, added, redeclared, taken_back}
use Rattle.model.specs.Session.{Call, Outcome, Answers, adds, redeclares, takes_back, infers, Session, next}
use Rattle.model.specs.declared.Line.{Line}
use Rattle.model.specs.declared.Line.TheVariants.{TypeLine, ParamLine, TermLine, NoForm}
use Rattle.demands.specs.Standing.{appended, described, standing}

entered_described : (m : Machine) (line : Line) → (entered m line).machine ≡ cond (eqb (entered m line).number 0) (appended m line) m
unfolding entered settled
entered_described m (TypeLine i form) = refl
entered_described m (ParamLine p param) = refl
entered_described m (TermLine i term) = refl
entered_described m NoForm = refl

either_same : {A : Type 0} (t : Bool) (a : A) → a ≡ cond t a a
either_same true a = refl
either_same false a = refl

pub answers_described : {m after : Machine} {call : Call} {o : Outcome} → Answers m call o after → after ≡ cond (eqb o.number 0) (described m call) m
unfolding added redeclared taken_back settled
answers_described {m} (adds {line}) = entered_described m (line_of m.schemes.names line)
answers_described redeclares = refl
answers_described takes_back = refl
answers_described {m} {o = o} (infers i) = either_same (eqb o.number 0) m

pub session_standing : {m : Machine} {call : Call} {o : Outcome} (before rest : List (Call × Outcome)) →
    Session m (before ++ ((call, o) ∷ rest)) → Answers (standing m before) call o (standing m (before ++ ((call, o) ∷ [])))
session_standing {m} {call} {o} [] rest (next a s) = subst (λ (after : Machine). Answers m call o after) (answers_described a) a
session_standing {m} {call} {o} ((call', o') ∷ before) rest (next a s) =
    session_standing {m = cond (eqb o'.number 0) (described m call') m} before rest (subst (λ (after : Machine). Session after (before ++ ((call, o) ∷ rest))) (answers_described a) s)
