-- What is returned under a scheme file is a function of the file, the text and the buffer; the text's front decides; the six's own file gives what
-- is returned under the six.
use Prim.Native.Nat.{ℕ}
use native.Mathlib.Omega.{arith}
use mathlib.Core.List.{List}
use mathlib.Core.Path.{◌≡◌, refl, ap, subst}
use lib.ListN.{take}
use Rattle.scheme.specs.Schemes.{SchemeTable}
use Rattle.scheme.specs.Six.{six_table}
use Rattle.model.specs.Machine.{Change}
use Rattle.model.specs.SchemeFile.{opened}
use Rattle.model.specs.Text.{Returns, ReturnsUnder, refused_file, accepted_file}
use Rattle.model.proofs.Opened.{opened_sound}
use Rattle.model.proofs.Files.{six_file, six_from_file}
use Rattle.text.proofs.Front.{returns_front}
use Rattle.text.proofs.Same.{returns_same}

module _ (file : List ℕ) where
  pub under_same : {text buffer b b' : List ℕ} {n n' : ℕ} → ReturnsUnder file text buffer n b → ReturnsUnder file text buffer n' b' → (n ≡ n') × (b ≡ b')
  under_same (ReturnsUnder.short h) (ReturnsUnder.short h') = (refl, refl)
  under_same (ReturnsUnder.short h) (refused_file h' z) = let none : ⊥ = omega arith in absurd none
  under_same (ReturnsUnder.short h) (accepted_file e r) = returns_same (opened file).machine.schemes (opened_sound file) (Returns.short h) r
  under_same (refused_file h z) (ReturnsUnder.short h') = let none : ⊥ = omega arith in absurd none
  under_same (refused_file h z) (refused_file h' z') = (refl, refl)
  under_same (refused_file h z) (accepted_file e r) = absurd (z e)
  under_same (accepted_file e r) (ReturnsUnder.short h) = returns_same (opened file).machine.schemes (opened_sound file) r (Returns.short h)
  under_same (accepted_file e r) (refused_file h z) = absurd (z e)
  under_same (accepted_file e r) (accepted_file e' r') = returns_same (opened file).machine.schemes (opened_sound file) r r'

  pub under_front : {text buffer b : List ℕ} {n : ℕ} → ReturnsUnder file (take 25025 text) buffer n b → ReturnsUnder file text buffer n b
  under_front (ReturnsUnder.short h) = ReturnsUnder.short h
  under_front (refused_file h z) = refused_file h z
  under_front (accepted_file e r) = accepted_file e (returns_front (opened_sound file) r)

six_number : (opened six_file).number ≡ 0
six_number = ap (λ (c : Change). c.number) six_from_file

six_schemes : (opened six_file).machine.schemes ≡ six_table
six_schemes = ap (λ (c : Change). c.machine.schemes) six_from_file

pub six_under : {text buffer b : List ℕ} {n : ℕ} → ReturnsUnder six_file text buffer n b → Returns six_table text buffer n b
six_under (ReturnsUnder.short h) = Returns.short h
six_under (refused_file h z) = absurd (z six_number)
six_under {text} {buffer} {b} {n} (accepted_file e r) = subst (λ (T : SchemeTable). Returns T text buffer n b) six_schemes r
