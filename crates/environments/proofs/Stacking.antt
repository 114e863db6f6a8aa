-- Frames of an array as a list: how many they are, with one more, and without the last.
use Prim.Native.Nat.{ℕ, zero, suc, ◌+◌, ◌-◌, ◌≤◌, ◌<◌}
use native.Mathlib.Omega.{arith}
use native.Mathlib.Numerals.{add-one}
use mathlib.Core.List.{List, ◌∷◌}
use mathlib.Core.Path.{◌≡◌, refl, ap, ap₂}
use lib.ListN.{length, set, take, get_or}
use lib.Seq.{get_or-set_same, get_or-set_other}
use Rattle.std.proofs.lemmas.List.{length-take, get_or-take}
use Rattle.environments.specs.Frames.{no_frame, frame_in, stacked}
use Rattle.environments.specs.declared.Frame.{Frame}

pub stacked_length : (f : List Frame) (d : ℕ) → length (stacked f d) ≡ d
unfolding stacked
stacked_length f zero = refl
stacked_length f (suc d) = ap suc (stacked_length f d)

-- A frame put past the first d leaves them.
pub stacked_set : (f : List Frame) (at d : ℕ) (x : Frame) → d ≤ at → stacked (set f at x) d ≡ stacked f d
unfolding stacked
stacked_set f at zero x h = refl
stacked_set f at (suc d) x h = ap₂ ◌∷◌ (get_or-set_other f at d x no_frame (omega arith)) (stacked_set f at d x (omega arith))

pub stacked_more : (f : List Frame) (d : ℕ) (x : Frame) → d < length f → stacked (set f d x) (d + 1) ≡ x ∷ stacked f d
unfolding stacked
stacked_more f d x h = rw add-one (ap₂ ◌∷◌ (get_or-set_same f d x no_frame h) (stacked_set f d d x (omega arith)))

-- The first d of an array's first n stand, and there is a next.
module _ (n : ℕ) (f : List Frame) (d : ℕ) {g : List Frame} (is : g ≡ stacked f d) (h : d < length (take n f)) where
  pub first_more : get_or (take n f) d no_frame ∷ g ≡ stacked f (d + 1)
  unfolding stacked
  first_more = rw add-one (ap₂ ◌∷◌ (get_or-take n f d no_frame (omega (arith, length-take n f))) is)

  pub first_within : length g < length f
  first_within = omega (arith, length-take n f, ap (λ (g : List Frame). length g) is, stacked_length f d)

pub stacked_less : (f : List Frame) (d : ℕ) → 0 < d → stacked f d ≡ frame_in f (d - 1) ∷ stacked f (d - 1)
unfolding stacked
stacked_less f zero h = let z : ⊥ = omega arith in absurd z
stacked_less f (suc d) h = let e : suc d - 1 ≡ d = omega arith in rw e refl

-- A frame put in the place of the one that stands inside j others.
pub stacked_put : (f : List Frame) (at d j : ℕ) (x : Frame) → at + suc j ≡ d → d ≤ length f → stacked (set f at x) d ≡ set (stacked f d) j x
unfolding stacked
stacked_put f at zero j x is h = let z : ⊥ = omega arith in absurd z
stacked_put f at (suc d) zero x is h =
    let same : at ≡ d = omega arith in
    ap₂ ◌∷◌ (rw same (get_or-set_same f d x no_frame h)) (stacked_set f at d x (omega arith))
stacked_put f at (suc d) (suc j) x is h = ap₂ ◌∷◌ (get_or-set_other f at d x no_frame (λ e. let z : ⊥ = omega arith in z)) (stacked_put f at d j x (omega arith) (omega arith))
