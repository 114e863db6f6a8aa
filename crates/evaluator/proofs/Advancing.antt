-- One move, by what is looked at.
use Prim.Native.Nat.{ℕ, ◌+◌, ◌≤◌, ◌<◌}
use native.Mathlib.Omega.{arith}
use mathlib.Core.List.{List, ◌∷◌}
use mathlib.Core.Logic.{◌⊎◌, inl, inr}
use mathlib.Core.Path.{◌≡◌, ap, subst, ◌∙◌}
use lib.ListN.{length, get_or}
use Rattle.std.specs.Prelude.{Result, Ok, Err}
use Rattle.model.specs.Machine.{term_in}
use Rattle.model.specs.declared.TermRow.{TermRow}
use Rattle.environments.specs.declared.Datum.{Datum}
use Rattle.environments.specs.declared.Focus.{Focus}
use Rattle.environments.specs.declared.Frame.{Frame}
use Rattle.environments.specs.declared.Cell.{Cell}
use Rattle.environments.proofs.Turns.{row_in_list, row_place, called_function, called_place, left_operation}
use Rattle.dryrun.specs.Run.{most_contexts}
use Rattle.moves.specs.Moves.{Waits, TurnsRow, TurnsRound, Applies, Operates}
use Rattle.moves.specs.declared.Point.{Point}
use Rattle.moves.specs.declared.Refusal.{Refusal}
use Rattle.moves.proofs.Tops.{looks}
use Rattle.evaluator.specs.Evaluation.{Underway, Advances}

-- What is known of a point under some frame is known under the frame by its form.
pub underway_as : {terms : List TermRow} {words : List ℕ} {budget : ℕ} {c : List Cell} {x y : Frame} {f : List Frame} {p : Point} → x ≡ y → Underway terms words budget c (x ∷ f) p → Underway terms words budget c (y ∷ f) p
underway_as {terms} {words} {budget} {c} {f = f} {p} is = subst (λ (x : Frame). Underway terms words budget c (x ∷ f) p) is

-- A frame of either form that waits.
pub either_waits : (top : Frame) → ((k : Focus) × (top ≡ Frame.Argument k)) ⊎ ((o : ℕ) × (k : Focus) × (top ≡ Frame.Right o k)) → Waits top
either_waits top (inl (k, is)) = rw is tt
either_waits top (inr (o, k, is)) = rw is tt

-- A frame that holds what is a known value.
pub called_is : {x : Frame} {u v : Datum} → x ≡ Frame.Called u → u ≡ v → x ≡ Frame.Called v
called_is is same = is ∙ ap Frame.Called same

module _ {terms : List TermRow} {words : List ℕ} {budget : ℕ} {c : List Cell} {f : List Frame} {p : Point} (u : Underway terms words budget c f p) where
  -- The steps made are within the budget.
  pub made_within : p.applications + p.operations ≤ budget
  made_within = u.stands.within

  pub own_row : {i place : ℕ} → p.focus ≡ Focus.Row i place → (i < 256) × (place ≤ p.applications)
  own_row at =
      let st = looks u.stands at in (
        omega (arith, row_in_list u.machine u.job.is_well_formed u.word budget u.start u.job.safe st, u.job.is_well_formed.terms_fit),
        row_place u.machine u.job.is_well_formed u.word budget u.start u.job.safe st,
      )

pub held_row : {terms : List TermRow} {words : List ℕ} {budget : ℕ} {c : List Cell} {f : List Frame} {p : Point} {v : Datum} {i held : ℕ} →
    Underway terms words budget c (Frame.Called (Datum.Function i held) ∷ f) p → p.focus ≡ Focus.Datum v → (i < 256) × (held ≤ p.applications)
held_row {budget = budget} {i = i} u at =
    let st = looks u.stands at in
    let (i', l, same, in_list, x, b, lam) = called_function u.machine u.job.is_well_formed u.word budget u.start u.job.safe st in
    let own : i ≡ i' = cc same in
    (omega (arith, u.job.is_well_formed.terms_fit), called_place u.machine u.job.is_well_formed u.word budget u.start u.job.safe st)

pub known_operation : {terms : List TermRow} {words : List ℕ} {budget : ℕ} {c : List Cell} {f : List Frame} {p : Point} {o : ℕ} {x v : Datum} →
    Underway terms words budget c (Frame.Left o x ∷ f) p → p.focus ≡ Focus.Datum v → o < 5
known_operation {budget = budget} u at = left_operation u.machine u.job.is_well_formed u.word budget u.start u.job.safe (looks u.stands at)

module _ (terms : List TermRow) (words : List ℕ) {budget : ℕ} {c : List Cell} {f : List Frame} {p : Point} where
  pub by_row : {f' : List Frame} {r : Result Point Refusal} {i place : ℕ} → p.focus ≡ Focus.Row i place → TurnsRow (term_in terms i) (get_or words i 0) i place c f f' p r → Advances terms words budget c f c f' p r
  by_row {i = i} at turned m word start job rows st =
      let (is, said) = rows i (row_in_list m job.is_well_formed word budget start job.safe (looks st at)) in turned m word budget start job is said at st

  pub by_round : {f' : List Frame} {q : Point} → TurnsRound f f' p q → Advances terms words budget c f c f' p (Ok q)
  by_round turned m word start job rows st = turned m word budget start c job st

  module _ {v : Datum} (low : length f ≤ most_contexts) (at : p.focus ≡ Focus.Datum v) where
    pub by_call : {c' : List Cell} {r : Result Point Refusal} {i held : ℕ} → Applies (term_in terms i) held v budget c c' p r → Advances terms words budget c (Frame.Called (Datum.Function i held) ∷ f) c' f p r
    by_call {i = i} applied m word start job rows st =
        let (i', l, same, in_list, x, b, lam) = called_function m job.is_well_formed word budget start job.safe (looks st at) in
        let own : i ≡ i' = cc same in
        applied m word start f i job low (rows i (omega arith)).0 at st

    -- No number is called.
    pub no_call : {u : Datum} → ((i l : ℕ) → ¬ (u ≡ Datum.Function i l)) → Advances terms words budget c (Frame.Called u ∷ f) c f p (Err Refusal.Limit)
    no_call other m word start job rows st =
        let (i, l, same, in_list, x, b, lam) = called_function m job.is_well_formed word budget start job.safe (looks st at) in absurd (other i l same)

    pub by_operation : {r : Result Point Refusal} {o : ℕ} {x : Datum} → Operates o x v budget p r → Advances terms words budget c (Frame.Left o x ∷ f) c f p r
    by_operation operated m word start job rows st = operated m word start c f job low at st
