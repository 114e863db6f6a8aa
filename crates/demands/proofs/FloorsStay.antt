-- The floor that a parameter was added with stays: entries are added behind it, and a redeclare replaces its qualifier alone.
use Prim.Native.Nat.{ℕ, ◌<◌}
use native.Mathlib.Decide.{ℕ_discrete}
use mathlib.Core.Bool.{Bool, true, false, cond}
use mathlib.Core.List.{[], ◌∷◌}
use mathlib.Core.Path.{◌≡◌, refl, ap, ◌∙◌}
use lib.Dec.{eqb}
use lib.ListN.{length, get_or, set, get_or-append}
use lib.Seq.{get_or-set_same, get_or-set_other}
use Rattle.model.specs.Line.{line_of}
use Rattle.model.specs.Machine.{Machine, no_param, param_at, with_qualifier}
use Rattle.model.specs.Session.{Call, add, redeclare, take_back, infer, Outcome, Answers}
use Rattle.model.specs.declared.Param.{Param}
use Rattle.model.specs.declared.Line.{Line}
use Rattle.model.specs.declared.Line.TheVariants.{TypeLine, ParamLine, TermLine, NoForm}
use Rattle.demands.specs.Standing.{appended, described}
use Rattle.demands.proofs.Standing.{answers_described}

module _ (m : Machine) (p : ℕ) (declared : p < length m.params) where
  -- The machine has parameter p with the floor that it has in m.
  abbrev Stays : Machine → Type 0
  Stays after = (param_at after p).floor ≡ (param_at m p).floor

  appended_stays : (line : Line) → Stays (appended m line)
  appended_stays (TypeLine i form) = refl
  appended_stays (ParamLine own param) = ap (λ (param : Param). param.floor) (get_or-append m.params (param ∷ []) no_param p declared)
  appended_stays (TermLine i term) = refl
  appended_stays NoForm = refl

  redeclared_stays : (q code : ℕ) → (get_or (set m.params q (with_qualifier code (param_at m q))) p no_param).floor ≡ (param_at m p).floor
  redeclared_stays q code = by (ℕ_discrete p q)
    where
      by : Dec (p ≡ q) → (get_or (set m.params q (with_qualifier code (param_at m q))) p no_param).floor ≡ (param_at m p).floor
      by (yes same) = rw (← same, get_or-set_same m.params p (with_qualifier code (param_at m p)) no_param declared)
      by (no other) = ap (λ (param : Param). param.floor) (get_or-set_other m.params q p (with_qualifier code (param_at m q)) no_param other)

  described_stays : (call : Call) → Stays (described m call)
  described_stays (add line) = appended_stays (line_of m.schemes.names line)
  described_stays (redeclare q code) = redeclared_stays q code
  described_stays take_back = refl
  described_stays (infer buffer) = refl

  either_stays : (accepted : Bool) (call : Call) → Stays (cond accepted (described m call) m)
  either_stays true call = described_stays call
  either_stays false call = refl

pub floor_stays : {m after : Machine} {call : Call} {o : Outcome} → Answers m call o after → (p : ℕ) → p < length m.params →
    (param_at after p).floor ≡ (param_at m p).floor
floor_stays {m} {call = call} {o} answer p declared =
    ap (λ (after : Machine). (param_at after p).floor) (answers_described answer) ∙ either_stays m p declared (eqb o.number 0) call
