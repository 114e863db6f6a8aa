-- One law for each way through an application.
use Prim.Native.Nat.{ℕ, suc, ◌+◌, ◌≤◌, ◌<◌}
use native.Mathlib.Omega.{arith}
use mathlib.Core.List.{List, ◌∷◌}
use mathlib.Core.Path.{◌≡◌, refl, sym, ap, subst, ◌∙◌}
use lib.ListN.{set}
use Rattle.std.specs.Prelude.{Ok, Err}
use Rattle.model.specs.Machine.{term_at}
use Rattle.model.specs.declared.Term.{Term}
use Rattle.model.specs.declared.Term.TheVariants.{Lam}
use Rattle.dryrun.specs.Run.{most_steps}
use Rattle.environments.specs.Standing.{Standing}
use Rattle.environments.specs.Weights.{point_weight}
use Rattle.environments.specs.declared.Datum.{Datum}
use Rattle.environments.specs.declared.Focus.{Focus}
use Rattle.environments.specs.declared.Frame.{Frame}
use Rattle.environments.specs.declared.Cell.{Cell}
use Rattle.environments.proofs.Turns.{spent, called_function, applies_on}
use Rattle.environments.proofs.Weights.{standing_light, step_remains}
use Rattle.moves.specs.Moves.{Celled, Applies, Comes, leads_on, stops, counts_of}
use Rattle.moves.specs.declared.Point.{Point}
use Rattle.moves.specs.declared.Refusal.{Refusal}
use Rattle.moves.proofs.Arrays.{cell_kept, cell_new}
use Rattle.moves.proofs.Tops.{looks}

-- The point at a function's body.
abbrev pub entered : Point → ℕ → Point
entered p b = record { focus = Focus.Row b (p.applications + 1); applications = p.applications + 1; operations = p.operations }

module _ {term : Term} {held budget : ℕ} {argument : Datum} {c : List Cell} {p : Point} where
  pub spent_at : p.applications + p.operations ≡ budget → Applies term held argument budget c c p (Err Refusal.Limit)
  spent_at all m word start f i job low is at st = stops (spent m job.is_well_formed word budget start job.safe (looks st at) all)

  -- What is called is a function, and its row a LAM.
  pub no_lam : ((x b : ℕ) → ¬ (term ≡ Lam x b)) → Applies term held argument budget c c p (Err Refusal.Limit)
  no_lam other m word start f i job low is at st =
      let (i', l, same, in_list, x, b, lam) = called_function m job.is_well_formed word budget start job.safe (looks st at) in
      let own : i ≡ i' = cc same in
      absurd (other x b (sym is ∙ ap (term_at m) own ∙ lam))

  pub bound_at : {x b : ℕ} {q : Point} → term ≡ Lam x b → ¬ (p.applications + p.operations ≡ budget) → p.applications + p.operations ≤ budget →
      p.applications < most_steps → Celled c → q ≡ entered p b → Applies term held argument budget c (set c p.applications (record { param = x; next = held; datum = argument })) p (Ok q)
  bound_at {x} {b} {q} this unspent within deep sized eq m word start f i job low is at st =
      let new : Cell = record { param = x; next = held; datum = argument } in
      let made = applies_on m job.is_well_formed word budget start job.safe (looks st at)
      {c' = set c p.applications new} {j = p.applications} {p = x} {b = b}
      unspent low (is ∙ this) (cell_kept c p.applications new) refl (cell_new c p.applications new (omega (arith, sized.size))) in
      rw eq (lands made)
    where
      lands : {c' : List Cell} → Standing m word budget start c' f (Focus.Row b (suc p.applications)) (counts_of (entered p b)) →
          Comes m word budget start (Frame.Called (Datum.Function i held) ∷ f) p c' f (Ok (entered p b))
      lands {c'} st' =
          let next : suc p.applications ≡ p.applications + 1 = omega arith in
          leads_on
          (subst (λ (n : ℕ). Standing m word budget start c' f (Focus.Row b n) (counts_of (entered p b))) next st')
          (step_remains budget (counts_of p) (counts_of (entered p b)) (point_weight f (Focus.Row b (p.applications + 1))) (point_weight (Frame.Called (Datum.Function i held) ∷ f) p.focus) (omega arith) (omega arith)
          (standing_light m job.is_well_formed word st' (omega arith)))
