-- Every move takes from what remains.
use Prim.Native.Nat.{ℕ, zero, suc, ◌+◌, ◌-◌, ◌*◌, ◌≤◌, ◌<◌}
use native.Mathlib.Omega.{arith}
use native.Mathlib.Decide.{ℕ_discrete}
use native.Mathlib.Nat.{suc-mul}
use mathlib.Core.List.{List, ◌∷◌}
use mathlib.Core.Path.{◌≡◌, refl, ap, ap₂}
use lib.ListN.{length}
use Rattle.model.specs.Machine.{Machine}
use Rattle.model.specs.WellFormed.{WellFormed}
use Rattle.model.specs.Inference.{Slot}
use Rattle.dryrun.specs.Run.{Counts, steps, most_contexts}
use Rattle.dryrun.specs.Expression.{Expression}
use Rattle.environments.specs.Standing.{Context, Stack, bottom, on_argument, on_called, on_right, on_left, Control, a_row, a_value, Standing}
use Rattle.environments.specs.Weights.{weight, control_weight, waiting_weight, frame_weight, frames_weight, point_weight, span, remaining}
use Rattle.environments.specs.declared.Datum.{Datum}
use Rattle.environments.specs.declared.Focus.{Focus}
use Rattle.environments.specs.declared.Frame.{Frame}
use Rattle.environments.specs.declared.Cell.{Cell}

weight_some : (i : ℕ) → 3 ≤ weight i
unfolding weight
weight_some zero = omega arith
weight_some (suc i) = omega (arith, weight_some i)

weight_below : (i c : ℕ) → c < i → 3 * weight c ≤ weight i
unfolding weight
weight_below zero c h = let z : ⊥ = omega arith in absurd z
weight_below (suc i) c h = go (ℕ_discrete c i) (λ low. weight_below i c low)
  where
    go : Dec (c ≡ i) → (c < i → 3 * weight c ≤ weight i) → 3 * weight c ≤ 3 * weight i
    go (yes e) rest = omega (arith, ap weight e)
    go (no e) rest = omega (arith, rest (omega arith))

-- What waits weighs at least as much as when it is looked at.
waiting_enough : (k : Focus) → control_weight k ≤ waiting_weight k
waiting_enough (Focus.Row i place) = omega arith
waiting_enough (Focus.Datum v) = omega arith

module _ (f : List Frame) where
  -- LAM, VAR, NUM, ENC: a value for a row.
  pub value_lighter : (i place : ℕ) (v : Datum) → point_weight f (Focus.Datum v) < point_weight f (Focus.Row i place)
  value_lighter i place v = omega (arith, weight_some i)

  -- APP and OP: a row, under a frame that waits for another.
  pub pushed_lighter : (new : Frame) (i x a place : ℕ) → x < i → a < i → frame_weight new ≡ weight a + 1 → point_weight (new ∷ f) (Focus.Row x place) < point_weight f (Focus.Row i place)
  unfolding frames_weight
  pushed_lighter new i x a place hx ha own = omega (arith, own, weight_below i x hx, weight_below i a ha, weight_some x)

  -- A frame that waits gets its value, and what it had waiting is looked at.
  pub turned_lighter : (top new : Frame) (k : Focus) (v : Datum) → frame_weight top ≡ waiting_weight k → frame_weight new ≡ 0 → point_weight (new ∷ f) k < point_weight (top ∷ f) (Focus.Datum v)
  unfolding frames_weight
  turned_lighter top new k v waits holds = omega (arith, waits, holds, waiting_enough k)

module _ (m : Machine) (w : WellFormed m) (word : Slot → ℕ) where
  row_light : (i : ℕ) → i < length m.terms → 3 * weight i ≤ weight 256
  row_light i h = weight_below 256 i (omega (arith, w.terms_fit))

  control_light : {c : List Cell} {count : ℕ} {k : Focus} {e : Expression} → Control m word c count k e → (control_weight k ≤ weight 256) × (waiting_weight k ≤ weight 256)
  control_light (a_row {i = i} h binds) = (omega (arith, row_light i h), omega (arith, row_light i h, weight_some i))
  control_light (a_value means) = (omega (arith, weight_some 256), omega (arith, weight_some 256))

  -- The frames of a run are lighter than the span of so many.
  stack_light : {c : List Cell} {count : ℕ} {f : List Frame} {R : List Context} → Stack m word c count f R → frames_weight f + weight 256 + 1 ≤ span (length f)
  unfolding frames_weight span
  stack_light bottom = omega arith
  stack_light (on_argument k s) = omega (arith, stack_light s, (control_light k).1)
  stack_light (on_called v s) = omega (arith, stack_light s)
  stack_light (on_right five k s) = omega (arith, stack_light s, (control_light k).1)
  stack_light (on_left five v s) = omega (arith, stack_light s)

  span_more : (d k : ℕ) → span d ≤ span (d + k)
  unfolding span
  span_more d zero = let e : d ≡ d + 0 = omega arith in omega (arith, ap span e)
  span_more d (suc k) = let e : d + suc k ≡ suc (d + k) = omega arith in omega (arith, span_more d k, ap span e)

  pub standing_light : {budget : ℕ} {start : Expression} {c : List Cell} {f : List Frame} {k : Focus} {made : Counts} →
      Standing m word budget start c f k made → length f ≤ suc most_contexts → point_weight f k < span (suc most_contexts)
  standing_light {f = f} st low =
      let whole : length f + (suc most_contexts - length f) ≡ suc most_contexts = omega arith in
      omega (arith, stack_light st.stack, (control_light st.control).0, span_more (length f) (suc most_contexts - length f), ap span whole)

-- A move that makes no step takes weight.
pub lighter_remains : (budget : ℕ) (made : Counts) (a b : ℕ) → a < b → remaining budget made a < remaining budget made b
lighter_remains budget made a b h = omega arith

-- A step takes more than all weights.
pub step_remains : (budget : ℕ) (made made' : Counts) (a b : ℕ) → steps made' ≡ suc (steps made) → steps made < budget → a < span (suc most_contexts) →
    remaining budget made' a < remaining budget made b
step_remains budget made made' a b one left light =
    let e : budget - steps made ≡ suc (budget - steps made') = omega arith in
    omega (arith, ap (λ (k : ℕ). k * span (suc most_contexts)) e, suc-mul (budget - steps made') (span (suc most_contexts)))
