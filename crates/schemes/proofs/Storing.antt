-- The digits of the lines, stored one scheme after the other.
use Prim.Native.Nat.{ℕ, ◌+◌, ◌<◌}
use mathlib.Core.Bool.{true, ◌&&◌}
use mathlib.Core.List.{List, map}
use mathlib.Core.Path.{◌≡◌, ap, ◌∙◌}
use lib.Dec.{eqb}
use lib.ListN.{length, set}
use borrow.Author.Tests.{eqb-true}
use Rattle.scheme.proofs.Every.{every_at, and_left, and_right}
use Rattle.scheme.proofs.Filling.{filled_more}
use Rattle.model.specs.Lists.{all_of, same, bytes}
use Rattle.model.specs.Line.{fields, field}
use Rattle.model.specs.SchemeFile.{is_name, is_bit, is_bits, is_scheme_line}
use Rattle.derive.specs.declared.Bits.{Bits}
use Rattle.schemes.specs.Lines.{line_at, digits_at, well_formed, Formed}
use Rattle.schemes.specs.Stored.{Stored}

-- A scheme line has five digits.
line_bits : (s : List ℕ) → is_scheme_line s ≡ true → is_bits (field s 2) ≡ true
unfolding is_scheme_line
line_bits s h = and_right (eqb (length (fields s)) 3 && same (field s 0) (bytes "S") && is_name (field s 1)) (is_bits (field s 2)) h

bits_five : (s : List ℕ) → is_bits s ≡ true → length s ≡ 5
unfolding is_bits
bits_five s h = eqb-true (length s) 5 (and_left (eqb (length s) 5) (all_of is_bit s) h)

module _ (file : List ℕ) (n k : ℕ) (formed : Formed file n) (below : k < n) where
  pub formed_at : is_scheme_line (line_at file k) ≡ true
  unfolding well_formed
  formed_at = every_at n (λ k. is_scheme_line (line_at file k)) formed.formed k below

  pub formed_five : (l g : List ℕ) → l ≡ line_at file k → g ≡ field l 2 → length g ≡ 5
  formed_five l g at is = ap length is ∙ ap (λ (l : List ℕ). length (field l 2)) at ∙ bits_five (field (line_at file k) 2) (line_bits (line_at file k) formed_at)

pub stored_more : (file : List ℕ) (bits : List Bits) (k : ℕ) (d : Bits) (l g : List ℕ) → Stored file k bits → k < 8 → l ≡ line_at file k → g ≡ field l 2 → d.bits ≡ map (eqb 49) g → Stored file (k + 1) (set bits k d)
unfolding digits_at
stored_more file bits k d l g s room at is said = filled_more s room (said ∙ ap (map (eqb 49)) (is ∙ ap (λ (l : List ℕ). field l 2) at))
