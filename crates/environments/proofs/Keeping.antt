-- What is kept of frames, as their list: a frame put past them or in the place of one, and the last taken off.
use Prim.Native.Nat.{ℕ, ◌+◌, ◌-◌, ◌≤◌, ◌<◌}
use native.Mathlib.Omega.{arith}
use mathlib.Core.List.{List, ◌∷◌}
use mathlib.Core.Path.{◌≡◌, sym, ap, ◌∙◌}
use lib.ListN.{length, set, get_or, get_or-map}
use Rattle.std.proofs.lemmas.List.{map-set, length-map}
use Rattle.environments.specs.Frames.{stacked}
use Rattle.environments.specs.Kept.{frame_of, frames_of}
use Rattle.environments.specs.declared.Frame.{Frame}
use Rattle.environments.specs.declared.kept.Kept.{Kept}
use Rattle.environments.proofs.Stacking.{stacked_more, stacked_less, stacked_put}

module _ (k : List Kept) (d : ℕ) where
  -- What is put in a place of the array is put in that place of the frames.
  kept_set : (x : Kept) {frame : Frame} → frame_of x ≡ frame → frames_of (set k d x) ≡ set (frames_of k) d frame
  kept_set x is = map-set frame_of k d x ∙ ap (λ (y : Frame). set (frames_of k) d y) is

  pub kept_more : (x : Kept) {frame : Frame} → frame_of x ≡ frame → d < length k → stacked (frames_of (set k d x)) (d + 1) ≡ frame ∷ stacked (frames_of k) d
  kept_more x {frame} is h = ap (λ (f : List Frame). stacked f (d + 1)) (kept_set x is) ∙ stacked_more (frames_of k) d frame (omega (arith, length-map k frame_of))

  pub kept_less : {x : Frame} → 0 < d → x ≡ frame_of (get_or k (d - 1) (Kept.ArgumentRow 0 0)) → stacked (frames_of k) d ≡ x ∷ stacked (frames_of k) (d - 1)
  kept_less h is = stacked_less (frames_of k) d h ∙ ap (λ (y : Frame). y ∷ stacked (frames_of k) (d - 1)) (get_or-map frame_of k (d - 1) (Kept.ArgumentRow 0 0) ∙ sym is)

-- What is put in the place of the one that stands inside j others.
pub kept_put : (k : List Kept) (d j : ℕ) (x : Kept) {frame : Frame} → frame_of x ≡ frame → j < d → d ≤ length k → stacked (frames_of (set k (d - 1 - j) x)) d ≡ set (stacked (frames_of k) d) j frame
kept_put k d j x {frame} is within h =
    ap (λ (f : List Frame). stacked f d) (kept_set k (d - 1 - j) x is) ∙ stacked_put (frames_of k) (d - 1 - j) d j frame (omega arith) (omega (arith, length-map k frame_of))
