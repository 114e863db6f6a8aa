-- The bytes that are kept of a line as its parts come: with those of a part, cut to the room, they are the line's front.
use Prim.Native.Nat.{ℕ, ◌+◌, ◌-◌, ◌≤◌, ◌<◌, min}
use native.Mathlib.Omega.{arith}
use mathlib.Core.List.{List, ◌++◌}
use mathlib.Core.Path.{◌≡◌, refl, sym, ap, ◌∙◌}
use borrow.Rule.Slice.PartMut.{put_mid}
use lib.ListN.{length, take, length-append, length-take, length-drop}
use lib.Seq.{take_all, take_at, take-append-add}
use Rattle.std.proofs.lemmas.List.{take_min}
use Rattle.std.proofs.lemmas.Slice.{take-put_mid}
use Rattle.script.specs.Turns.{Kept}

module _ (before : List ℕ) (count : ℕ) (part : List ℕ) where
  -- No byte has room.
  pub keep_none : length before ≤ count → Kept before count part before count
  keep_none full =
      let whole : take count before ≡ before = take_all count before full in
      record {
        bytes = whole ∙ sym (take_at before part (length before) refl) ∙ ap (λ (l : List ℕ). take (length before) (l ++ part)) (sym whole);
        fits = λ h. h;
      }

  -- The first bytes of the part are copied behind those that are kept.
  pub keep_some : (size : ℕ) (copy : List ℕ) → count < length before → size ≡ min (length part) (length before - count) → copy ≡ take size part
      → Kept before count part (put_mid count (count + size - count) before copy) (count + size)
  keep_some size copy room most copied =
      let front : length (take count before) ≡ count = simp length-take (omega arith) in
      let as_many : length copy ≡ size = ap length copied ∙ simp length-take (omega arith) in
      let bound : size ≡ min (length before - count) (length part) = omega arith in
      let total : length (take count before) + (length before - count) ≡ length before = omega (arith, front) in
      record {
        bytes =
            take-put_mid count (count + size - count) before copy (count + size) (omega (arith, as_many)) (omega arith)
            ∙ ap (λ (l : List ℕ). take count before ++ l) (copied ∙ ap (λ (n : ℕ). take n part) bound ∙ take_min (length before - count) part)
            ∙ sym (take-append-add (take count before) part (length before - count))
            ∙ ap (λ (n : ℕ). take n (take count before ++ part)) total;
        fits = λ _. simp (length-append, length-take, length-drop) (omega (arith, as_many));
      }
