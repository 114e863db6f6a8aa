-- Every list of calls has answers: the three calls that change the machine by their definitions, and infer by the contract of the code that is proved to return.
use Prim.Native.Nat.{ℕ, ◌≤◌, ◌<◌}
use native.Mathlib.Omega.{arith}
use native.Mathlib.Decide.{dec_lt}
use mathlib.Core.List.{List, [], ◌∷◌}
use mathlib.Core.Logic.{∥∥₁_prop, ∥∥₁_elim, ∥∥₁_map}
use mathlib.Core.Path.{refl, ap, subst}
use lib.ListN.{length}
use Rattle.scheme.specs.Schemes.{SchemeTable, Sound}
use Rattle.scheme.specs.Six.{six_table}
use Rattle.scheme.proofs.Six.{six_sound}
use Rattle.model.specs.Machine.{Machine, fresh_machine}
use Rattle.model.specs.WellFormed.{WellFormed}
use Rattle.model.specs.SchemeFile.{opened_with, opened}
use Rattle.model.specs.Inference.{ruling, Slot, Shape, Judged, not_closed, not_typable, below_floor, typed}
use Rattle.model.specs.Session.{Call, add, redeclare, take_back, infer, Outcome, Infers, short, refused, accepted, Answers, adds, redeclares, takes_back, infers, done, next}
use Rattle.model.proofs.Opened.{opened_sound}
use Rattle.table.proofs.WellFormed.{fresh_well_formed, answers_well_formed}
use Rattle.inference.proofs.Corollaries.{cause_number}
use Rattle.answered.specs.Judgement.{HasJudgement}
use Rattle.answered.specs.Answers.{HasAnswers}
use Rattle.answered.proofs.Existence.{has_judgement}
use Rattle.answered.proofs.Literals.{Literals, fresh_literals, answers_literals}
use Rattle.answered.proofs.Holding.{table_of, lists_table, table_ready, table_owned}

-- Something is judged of each machine that the calls reach: of the table in which it stands.
machine_judged : (m : Machine) → WellFormed m → Literals m → ∥ HasJudgement m ∥₁
machine_judged m w literals =
    subst (λ (m' : Machine). ∥ HasJudgement m' ∥₁) (lists_table m w)
    (has_judgement (table_of m) (table_owned m w literals) (table_ready m w))

-- It is the answer for a buffer that is long enough.
long_answered : {m : Machine} {number k : ℕ} {word : Slot → ℕ} {shape : Slot → Shape} (buffer : List ℕ) → 6280 ≤ length buffer → Judged (ruling m) m number k word shape → (o : Outcome) × Infers m buffer o
long_answered buffer long (not_closed {word} {shape} never) = (_, refused {word = word} {shape = shape} long (not_closed never) (λ e. omega arith))
long_answered buffer long (not_typable {word = word} {shape = shape} closed refusal) = (_, refused {word = word} {shape = shape} long (not_typable closed refusal) (λ e. omega (arith, (cause_number refusal.cause).0)))
long_answered buffer long (below_floor closed a missed) = (_, refused long (below_floor closed a missed) (λ e. omega arith))
long_answered buffer long (typed closed a met) = (_, accepted long (typed closed a met))

infer_answered : {m : Machine} (buffer : List ℕ) → HasJudgement m → (o : Outcome) × Infers m buffer o
infer_answered {m} buffer j = go (dec_lt (length buffer) 6280)
  where
    go : Dec (length buffer < 6280) → (o : Outcome) × Infers m buffer o
    go (yes h) = (_, short h)
    go (no h) = long_answered buffer (omega arith) j.judged

call_answered : (m : Machine) → WellFormed m → Literals m → (call : Call) → ∥ ((o : Outcome) × (after : Machine) × Answers m call o after) ∥₁
call_answered m w literals (add line) = ∣ (_, _, adds) ∣₁
call_answered m w literals (redeclare p code) = ∣ (_, _, redeclares) ∣₁
call_answered m w literals take_back = ∣ (_, _, takes_back) ∣₁
call_answered m w literals (infer buffer) = ∥∥₁_map (machine_judged m w literals) (λ j. let o = infer_answered buffer j in (o.0, m, infers o.1))

list_answered : (m : Machine) → WellFormed m → Literals m → (calls : List Call) → HasAnswers m calls
list_answered m w literals [] = ∣ ([], refl, done) ∣₁
list_answered m w literals (call ∷ calls) =
    ∥∥₁_elim (call_answered m w literals call) ∥∥₁_prop (λ a.
    ∥∥₁_map (list_answered a.1 (answers_well_formed m w a.2) (answers_literals m literals a.2) calls) (λ s.
    ((call, a.0) ∷ s.0, ap (λ (l : List Call). call ∷ l) s.1, next a.2 s.2)))

-- Once for every sound scheme table, which every table that is accepted is.
pub every_list_answered : (T : SchemeTable) → Sound T → (calls : List Call) → HasAnswers (fresh_machine T) calls
every_list_answered T sound = list_answered (fresh_machine T) (fresh_well_formed T sound) (fresh_literals T)

pub six_list_answered : (calls : List Call) → HasAnswers (fresh_machine six_table) calls
six_list_answered = every_list_answered six_table six_sound

-- A refused file leaves a machine as well: that of the six.
pub opened_list_answered : (file : List ℕ) (calls : List Call) → HasAnswers (opened file).machine calls
unfolding opened_with
opened_list_answered file = every_list_answered (opened file).machine.schemes (opened_sound file)
