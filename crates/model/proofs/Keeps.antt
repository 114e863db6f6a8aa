-- "no call changes it": every call leaves the machine's scheme table.
use mathlib.Core.Path.{◌≡◌, refl}
use Rattle.model.specs.Line.{line_of}
use Rattle.model.specs.Machine.{Machine, entered, added, redeclared, taken_back}
use Rattle.model.specs.Session.{Call, Outcome, Answers, adds, redeclares, takes_back, infers}
use Rattle.model.specs.declared.Line.{Line}
use Rattle.model.specs.declared.Line.TheVariants.{TypeLine, ParamLine, TermLine, NoForm}
use Rattle.model.proofs.Checks.{settled_keeps}

module _ (m : Machine) where
  abbrev Kept : Machine → Type 0
  Kept after = after.schemes ≡ m.schemes

  entered_keeps : (line : Line) → Kept (entered m line).machine
  unfolding entered
  entered_keeps (TypeLine i form) = settled_keeps Kept m _ _ refl (λ e. refl)
  entered_keeps (ParamLine p param) = settled_keeps Kept m _ _ refl (λ e. refl)
  entered_keeps (TermLine i term) = settled_keeps Kept m _ _ refl (λ e. refl)
  entered_keeps NoForm = settled_keeps Kept m _ _ refl (λ e. refl)

  pub answers_keep : {call : Call} {o : Outcome} {after : Machine} → Answers m call o after → after.schemes ≡ m.schemes
  unfolding added redeclared taken_back
  answers_keep (adds {line}) = entered_keeps (line_of m.schemes.names line)
  answers_keep redeclares = settled_keeps Kept m _ _ refl (λ e. refl)
  answers_keep takes_back = settled_keeps Kept m _ _ refl (λ e. refl)
  answers_keep (infers i) = refl
