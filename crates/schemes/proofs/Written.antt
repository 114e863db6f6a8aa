-- From what the loops found to the definition of a well-written file.
use Prim.Native.Nat.{ℕ, zero, suc, ◌+◌, ◌-◌, ◌≤◌, ◌<◌}
use native.Mathlib.Omega.{arith}
use mathlib.Core.Bool.{Bool, true, false, ◌&&◌, beq, and-false, and-true}
use mathlib.Core.List.{List, [], ◌∷◌, map}
use mathlib.Core.Path.{◌≡◌, refl, sym, ap, ◌∙◌}
use lib.Dec.{eqb, leb}
use lib.ListN.{length, get_or, length-map, get_or-map}
use borrow.Author.Tests.{ne_eqb, le-leb, lt-leb, leb-true, lt-ltb}
use Rattle.std.specs.Cmp.Lexicographic.{pointwise}
use Rattle.scheme.specs.Lists.{implies, every}
use Rattle.scheme.specs.Schemes.{supports, alike, bits_differ, fitting}
use Rattle.scheme.proofs.Every.{and_left, and_right, every_same, every_element}
use Rattle.model.specs.Lists.{all_of}
use Rattle.model.specs.Line.{field, lines_of}
use Rattle.model.specs.SchemeFile.{is_scheme_line, table_of, names_differ, well_written}
use Rattle.derive.specs.Orders.{bits_at}
use Rattle.derive.specs.Derives.{Holds}
use Rattle.derive.specs.declared.Bits.{Bits}
use Rattle.schemes.specs.Lines.{line_at, name_at, digits_at, well_formed, Formed}
use Rattle.schemes.specs.Pairs.{same_name, alike_at, alone, apart}
use Rattle.schemes.specs.Stored.{Stored}
use Rattle.schemes.proofs.Storing.{formed_five}

-- Two lists of n digits.
pointwise_every : (n : ℕ) (a b : List Bool) → length a ≡ n → length b ≡ n → pointwise beq a b ≡ every n (λ o. beq (get_or a o false) (get_or b o false))
pointwise_every zero [] [] p q = refl
pointwise_every zero [] (y ∷ ys) p q = absurd (omega arith)
pointwise_every zero (x ∷ xs) b p q = absurd (omega arith)
pointwise_every (suc n) [] b p q = absurd (omega arith)
pointwise_every (suc n) (x ∷ xs) [] p q = absurd (omega arith)
pointwise_every (suc n) (x ∷ xs) (y ∷ ys) p q = ap (λ rest. beq x y && rest) (pointwise_every n xs ys (omega arith) (omega arith))

module _ (file : List ℕ) (n : ℕ) (count : n ≡ length (lines_of file)) where
  formed_same : well_formed file n ≡ all_of is_scheme_line (lines_of file)
  unfolding well_formed line_at
  formed_same = ap (λ (k : ℕ). every k (λ k. is_scheme_line (get_or (lines_of file) k []))) count ∙ every_element is_scheme_line [] (lines_of file)

  pub names_count : length (table_of (lines_of file)).names ≡ n
  unfolding table_of
  names_count = length-map (lines_of file) (λ s. field s 1) ∙ sym count

  pub bits_count : length (table_of (lines_of file)).bits ≡ n
  unfolding table_of
  bits_count = length-map (lines_of file) (λ s. map (eqb 49) (field s 2)) ∙ sym count

  name_at_lem : (i : ℕ) → get_or (table_of (lines_of file)).names i [] ≡ name_at file i
  unfolding table_of name_at line_at
  name_at_lem i = get_or-map (λ (s : List ℕ). field s 1) (lines_of file) i []

  pub bits_at_lem : (i : ℕ) → get_or (table_of (lines_of file)).bits i [] ≡ digits_at file i
  unfolding table_of digits_at line_at
  bits_at_lem i = get_or-map (λ (s : List ℕ). map (eqb 49) (field s 2)) (lines_of file) i []

  names_same : apart (same_name file) n ≡ names_differ (table_of (lines_of file))
  unfolding apart alone same_name names_differ
  names_same =
      rw names_count
      (every_same n _ _ (λ i hi. every_same n _ _ (λ j hj. let a = name_at_lem i in let b = name_at_lem j in rw (a, b) refl)))

  module _ (bits : List Bits) (stored : Stored file n bits) where
    -- `==` on the digits of two schemes.
    pub digits_alike : Formed file n → (i j : ℕ) → i < n → j < n → pointwise beq (bits_at bits i) (bits_at bits j) ≡ alike_at bits i j
    unfolding alike_at digits_at
    digits_alike formed i j hi hj = pointwise_every 5 (bits_at bits i) (bits_at bits j) (many i hi) (many j hj)
      where
        many : (k : ℕ) → k < n → length (bits_at bits k) ≡ 5
        many k h = ap length (stored.held k h) ∙ length-map (field (line_at file k) 2) (eqb 49) ∙ formed_five file n k formed h _ _ refl refl

    digit_same : (i o : ℕ) → i < n → o < 5 → get_or (bits_at bits i) o false ≡ supports (table_of (lines_of file)) (suc i) o
    digit_same i o hi ho =
        let e : suc i - 1 ≡ i = omega arith in
        let a = bits_at_lem i in
        let b = stored.held i hi in
        let z : eqb (suc i) 0 ≡ false = ne_eqb (suc i) 0 (λ x. omega arith) in
        rw (e, a, b, z, lt-ltb o 5 ho) refl

    alike_same : (i j : ℕ) → i < n → j < n → alike_at bits i j ≡ alike (table_of (lines_of file)) (suc i) (suc j)
    unfolding alike_at
    alike_same i j hi hj =
        every_same 5 (λ o. beq (get_or (bits_at bits i) o false) (get_or (bits_at bits j) o false)) (λ o. beq (supports (table_of (lines_of file)) (suc i) o) (supports (table_of (lines_of file)) (suc j) o))
        (λ o ho. cc (digit_same i o hi ho, digit_same j o hj ho))

    bits_same : apart (alike_at bits) n ≡ bits_differ (table_of (lines_of file))
    unfolding apart alone bits_differ
    bits_same =
        rw names_count
        (every_same n _ _ (λ i hi. every_same n _ _ (λ j hj. ap (λ (b : Bool). implies b (eqb i j)) (alike_same i j hi hj))))

    pub holds : Holds (table_of (lines_of file)) (n + 1) bits
    holds = record { counted = omega (arith, names_count); same = λ i h. bits_at_lem i ∙ sym (stored.held i (omega arith)) }

  -- Each test that a file may fail, and the last one.
  pub unwritten_few : n < 1 → false ≡ well_written (lines_of file)
  unfolding well_written
  unwritten_few h = let e : length (lines_of file) < 1 = omega arith in simp (lt-leb 1 (length (lines_of file)) e)

  pub unwritten_many : 8 < n → false ≡ well_written (lines_of file)
  unfolding well_written
  unwritten_many h = let e : 8 < length (lines_of file) = omega arith in simp (lt-leb (length (lines_of file)) 8 e, and-false)

  pub unwritten_form : (p : Bool) → p ≡ well_formed file n → p ≡ false → false ≡ well_written (lines_of file)
  unfolding well_written
  unwritten_form p is e = let f : all_of is_scheme_line (lines_of file) ≡ false = sym formed_same ∙ sym is ∙ e in simp (f, and-false)

  pub unwritten_bits : (bits : List Bits) → Stored file n bits → (p : Bool) → p ≡ apart (alike_at bits) n → p ≡ false → false ≡ well_written (lines_of file)
  unfolding well_written
  unwritten_bits bits stored p is e = let f : bits_differ (table_of (lines_of file)) ≡ false = sym (bits_same bits stored) ∙ sym is ∙ e in simp (f, and-false)

  pub lines_formed : 1 ≤ n → n ≤ 8 → (p : Bool) → p ≡ well_formed file n → p ≡ true → Formed file n
  lines_formed some few p is e = record { counted = count; some = some; few = few; formed = sym is ∙ e }

  pub written_names : Formed file n → (bits : List Bits) → Stored file n bits → (p : Bool) → p ≡ apart (alike_at bits) n → p ≡ true → (q : Bool) → q ≡ apart (same_name file) n → q ≡ well_written (lines_of file)
  unfolding well_written
  written_names formed bits stored p is_p e_p q is_q =
      let a : 1 ≤ length (lines_of file) = omega (arith, formed.some) in
      let b : length (lines_of file) ≤ 8 = omega (arith, formed.few) in
      let f : all_of is_scheme_line (lines_of file) ≡ true = sym formed_same ∙ formed.formed in
      let g : names_differ (table_of (lines_of file)) ≡ q = sym names_same ∙ sym is_q in
      let h : bits_differ (table_of (lines_of file)) ≡ true = sym (bits_same bits stored) ∙ sym is_p ∙ e_p in
      simp (le-leb 1 (length (lines_of file)) a, le-leb (length (lines_of file)) 8 b, f, g, h, and-true)

  -- The lines of a well-written file.
  pub written_formed : well_written (lines_of file) ≡ true → Formed file n
  unfolding well_written
  written_formed h =
      let T = table_of (lines_of file) in
      let lines = lines_of file in
      let formed = and_left (fitting (length lines) && all_of is_scheme_line lines) (names_differ T) (and_left (fitting (length lines) && all_of is_scheme_line lines && names_differ T) (bits_differ T) h) in
      let fits = and_left (fitting (length lines)) (all_of is_scheme_line lines) formed in
      record {
        counted = count;
        some = omega (arith, leb-true 1 (length lines) (and_left (leb 1 (length lines)) (leb (length lines) 8) fits));
        few = omega (arith, leb-true (length lines) 8 (and_right (leb 1 (length lines)) (leb (length lines) 8) fits));
        formed = formed_same ∙ and_right (fitting (length lines)) (all_of is_scheme_line lines) formed;
      }
