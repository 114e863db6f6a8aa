-- One law for each way through a move at a row.
use Prim.Native.Nat.{ℕ, ◌+◌, ◌<◌}
use mathlib.Core.List.{List, ◌∷◌}
use mathlib.Core.Path.{◌≡◌, refl, subst, ◌∙◌}
use lib.ListN.{length}
use Rattle.std.specs.Prelude.{Ok, Err}
use Rattle.scheme.specs.Schemes.{words}
use Rattle.model.specs.Machine.{Machine, term_at}
use Rattle.model.specs.WellFormed.{TermStands}
use Rattle.model.specs.Inference.{Slot, row}
use Rattle.model.specs.declared.Term.{Term}
use Rattle.model.specs.declared.Term.TheVariants.{Lam, App, Op, Var, Num, Enc}
use Rattle.dryrun.specs.Expression.{Expression}
use Rattle.dryrun.specs.Run.{most_contexts}
use Rattle.environments.specs.Standing.{cell_in}
use Rattle.environments.specs.Weights.{frame_weight, point_weight, weight}
use Rattle.environments.specs.declared.Datum.{Datum}
use Rattle.environments.specs.declared.Focus.{Focus}
use Rattle.environments.specs.declared.Frame.{Frame}
use Rattle.environments.specs.declared.Cell.{Cell}
use Rattle.environments.proofs.Turns.{at_lam, at_num, at_enc, at_var, at_app, at_op, deep, app_open, op_open, row_in_list}
use Rattle.environments.proofs.Weights.{value_lighter, pushed_lighter, lighter_remains}
use Rattle.moves.specs.Moves.{Sought, leads_on, stops, Job, Stands, counts_of, left, TurnsRow}
use Rattle.moves.specs.declared.Point.{Point}
use Rattle.moves.specs.declared.Refusal.{Refusal}
use Rattle.moves.proofs.Seeking.{sought_found}
use Rattle.moves.proofs.Tops.{looks}

-- The point at a value.
abbrev pub valued : Point → Datum → Point
valued p v = record { focus = Focus.Datum v; applications = p.applications; operations = p.operations }

-- The point at a row.
abbrev pub descended : Point → ℕ → ℕ → Point
descended p x place = record { focus = Focus.Row x place; applications = p.applications; operations = p.operations }

-- A row that is looked at names rows below its own number.
children_below : {m : Machine} {word : Slot → ℕ} {budget : ℕ} {start : Expression} {c : List Cell} {f : List Frame} {p : Point} {term : Term} {i place : ℕ} → Job m start → Stands m word budget start c f p →
    p.focus ≡ Focus.Row i place → term_at m i ≡ term → TermStands (words m.schemes) (length m.params) i term
children_below {m} {word} {budget} {start} {i = i} job st at is =
    let w = job.is_well_formed in
    subst (TermStands (words m.schemes) (length m.params) i) is (w.terms_stand i (row_in_list m w word budget start job.safe (looks st at)))

module _ (f : List Frame) (p : Point) {i place : ℕ} where
  value_falls : (budget : ℕ) (v : Datum) → p.focus ≡ Focus.Row i place → left budget f (valued p v) < left budget f p
  value_falls budget v at =
      lighter_remains budget (counts_of p) (point_weight f (Focus.Datum v)) (point_weight f p.focus) (rw at (value_lighter f i place v))

  pushed_falls : {x a : ℕ} (new : Frame) (budget : ℕ) → p.focus ≡ Focus.Row i place → x < i → a < i → frame_weight new ≡ weight a + 1 →
      left budget (new ∷ f) (descended p x place) < left budget f p
  pushed_falls {x} {a} new budget at hx ha weighs =
      lighter_remains budget (counts_of p) (point_weight (new ∷ f) (Focus.Row x place)) (point_weight f p.focus) (rw at (pushed_lighter f new i x a place hx ha weighs))

module _ {term : Term} {own i place : ℕ} {c : List Cell} {f : List Frame} {p : Point} where
  pub on_lam : {x b : ℕ} {q : Point} → term ≡ Lam x b → q ≡ valued p (Datum.Function i place) → TurnsRow term own i place c f f p (Ok q)
  on_lam this eq m word budget start job is said at st =
      rw eq (leads_on (at_lam m job.is_well_formed word budget start job.safe (looks st at) (is ∙ this)) (value_falls f p budget (Datum.Function i place) at))

  pub on_num : {n : ℕ} {q : Point} → term ≡ Num n → q ≡ valued p (Datum.Number own n) → TurnsRow term own i place c f f p (Ok q)
  on_num {n} this eq m word budget start job is said at st =
      rw (eq, ← said) (leads_on (at_num m job.is_well_formed word budget start job.safe (looks st at) (is ∙ this)) (value_falls f p budget (Datum.Number (word (row i)) n) at))

  pub on_enc : {s n : ℕ} {q : Point} → term ≡ Enc s n → q ≡ valued p (Datum.Number own n) → TurnsRow term own i place c f f p (Ok q)
  on_enc {s} {n} this eq m word budget start job is said at st =
      rw (eq, ← said) (leads_on (at_enc m job.is_well_formed word budget start job.safe (looks st at) (is ∙ this)) (value_falls f p budget (Datum.Number (word (row i)) n) at))

  pub on_var : {x j : ℕ} {q : Point} → term ≡ Var x → Sought c x place j → q ≡ valued p (cell_in c j).datum → TurnsRow term own i place c f f p (Ok q)
  on_var {x} {j} this sought eq m word budget start job is said at st =
      rw eq
      (leads_on (at_var m job.is_well_formed word budget start job.safe (looks st at) (is ∙ this) (sought_found m job.is_well_formed word c p.applications x sought))
      (value_falls f p budget (cell_in c j).datum at))

  pub deep_app : {x a : ℕ} → term ≡ App x a → most_contexts < length f → TurnsRow term own i place c f f p (Err Refusal.Limit)
  deep_app this h m word budget start job is said at st =
      let st' = looks st at in
      stops (deep m job.is_well_formed word budget start job.safe st' (app_open m job.is_well_formed word budget start job.safe st' (is ∙ this)) h)

  pub deep_op : {o l r : ℕ} → term ≡ Op o l r → most_contexts < length f → TurnsRow term own i place c f f p (Err Refusal.Limit)
  deep_op this h m word budget start job is said at st =
      let st' = looks st at in
      stops (deep m job.is_well_formed word budget start job.safe st' (op_open m job.is_well_formed word budget start job.safe st' (is ∙ this)) h)

  pub on_app : {x a : ℕ} {q : Point} → term ≡ App x a → q ≡ descended p x place → TurnsRow term own i place c f (Frame.Argument (Focus.Row a place) ∷ f) p (Ok q)
  on_app {x} {a} this eq m word budget start job is said at st =
      let (hx, ha) = children_below job st at (is ∙ this) in
      rw eq
      (leads_on {q = descended p x place} (at_app m job.is_well_formed word budget start job.safe (looks st at) (is ∙ this))
      (pushed_falls f p (Frame.Argument (Focus.Row a place)) budget at hx ha refl))

  pub on_op : {o l r : ℕ} {q : Point} → term ≡ Op o l r → q ≡ descended p l place → TurnsRow term own i place c f (Frame.Right o (Focus.Row r place) ∷ f) p (Ok q)
  on_op {o} {l} {r} this eq m word budget start job is said at st =
      let (five, hl, hr) = children_below job st at (is ∙ this) in
      rw eq
      (leads_on {q = descended p l place} (at_op m job.is_well_formed word budget start job.safe (looks st at) (is ∙ this))
      (pushed_falls f p (Frame.Right o (Focus.Row r place)) budget at hl hr refl))
