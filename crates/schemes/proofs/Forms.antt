-- The form of a scheme line, test by test.
use Prim.Native.Nat.{ℕ}
use mathlib.Core.Bool.{Bool, true, false, and-false}
use mathlib.Core.List.{List}
use mathlib.Core.Path.{◌≡◌, sym, ap, ◌∙◌}
use lib.ListN.{length}
use borrow.Author.Tests.{eq-eqb}
use Rattle.model.specs.Lists.{same, bytes}
use Rattle.model.specs.Line.{fields, field}
use Rattle.model.specs.SchemeFile.{is_name, is_bits, is_scheme_line}

module _ (s : List ℕ) where
  pub line_tag : (f : List ℕ) → f ≡ field s 0 → (p : Bool) → p ≡ same f (bytes "S") → p ≡ false → false ≡ is_scheme_line s
  unfolding is_scheme_line
  line_tag f at p is e = let e' : same (field s 0) (bytes "S") ≡ false = ap (λ (l : List ℕ). same l (bytes "S")) (sym at) ∙ sym is ∙ e in simp (e', and-false)

  pub line_name : (f : List ℕ) → f ≡ field s 1 → (p : Bool) → p ≡ is_name f → p ≡ false → false ≡ is_scheme_line s
  unfolding is_scheme_line
  line_name f at p is e = let e' : is_name (field s 1) ≡ false = ap is_name (sym at) ∙ sym is ∙ e in simp (e', and-false)

  pub line-is : (n : ℕ) → n ≡ length (fields s) → n ≡ 3 → (f : List ℕ) → f ≡ field s 0 → (p : Bool) → p ≡ same f (bytes "S") → p ≡ true → (g : List ℕ) → g ≡ field s 1 → (q : Bool) → q ≡ is_name g → q ≡ true →
      (h : List ℕ) → h ≡ field s 2 → (r : Bool) → r ≡ is_bits h → r ≡ is_scheme_line s
  unfolding is_scheme_line
  line-is n is e f at_f p is_p e_p g at_g q is_q e_q h at_h r is_r =
      let n' : length (fields s) ≡ 3 = sym is ∙ e in
      let p' : same (field s 0) (bytes "S") ≡ true = ap (λ (l : List ℕ). same l (bytes "S")) (sym at_f) ∙ sym is_p ∙ e_p in
      let q' : is_name (field s 1) ≡ true = ap is_name (sym at_g) ∙ sym is_q ∙ e_q in
      let r' : is_bits (field s 2) ≡ r = ap is_bits (sym at_h) ∙ sym is_r in
      simp (eq-eqb (length (fields s)) 3 n', p', q', r')
