-- The bytes of one entry, and of one call, one way of the code at a time.
use Prim.Native.Nat.{ℕ, ◌+◌, ◌-◌, ◌/◌, ◌%◌, ◌≤◌, ◌<◌, min}
use native.Mathlib.Decide.{dec_lt}
use native.Mathlib.Omega.{arith}
use mathlib.Core.Bool.{cond}
use mathlib.Core.List.{List, [], ◌∷◌}
use mathlib.Core.Path.{◌≡◌, ap, sym, ◌∙◌}
use lib.Dec.{ltb}
use lib.ListN.{length, get_or, take, drop, length-drop}
use lib.Seq.{take_all}
use borrow.Author.Tests.{eq-eqb, ne_eqb, lt-ltb, le-ltb}
use Rattle.model.specs.Machine.{Machine, type_at, param_at, term_at}
use Rattle.model.specs.Session.{add, redeclare, take_back}
use Rattle.model.specs.declared.TypeForm.{TypeForm}
use Rattle.model.specs.declared.TypeForm.TheVariants.{Arrow}
use Rattle.test_table_export.specs.Dump.{blank, pair_bytes, type_bytes, param_bytes, term_bytes, entry_at}
use Rattle.test_table_export.specs.Script.{four_bytes, call_of}

-- Two numbers of two bytes each.
module _ (x y a b d e : ℕ) (is_a : a ≡ x % 256) (is_b : b ≡ x / 256) (is-d : d ≡ y % 256) (is-e : e ≡ y / 256) where
  pub pair_made : (kind code : ℕ) → kind ∷ code ∷ a ∷ b ∷ d ∷ e ∷ 0 ∷ 0 ∷ 0 ∷ 0 ∷ [] ≡ pair_bytes kind code x y
  pair_made kind code = cc

  pub arrow_made : (form : TypeForm) (q q' : ℕ) → form ≡ Arrow q x q' y → 3 ∷ q ∷ a ∷ b ∷ q' ∷ d ∷ e ∷ 0 ∷ 0 ∷ 0 ∷ [] ≡ type_bytes form
  arrow_made form q q' f = cc

-- An entry that stands, and one that does not.
module _ (i n k : ℕ) (count : n ≡ k) (bytes : List ℕ) where
  pub standing : i < n → bytes ≡ cond (ltb i k) bytes blank
  standing h = rw (lt-ltb i k (rw count at h))

  pub absent : n ≤ i → blank ≡ cond (ltb i k) bytes blank
  absent h = rw (le-ltb i k (rw count at h))

-- The place of an entry among the 384.
module _ (m : Machine) (k : ℕ) where
  pub type_place : k < 64 → cond (ltb k (length m.types)) (type_bytes (type_at m k)) blank ≡ entry_at m k
  unfolding entry_at
  type_place h = rw (lt-ltb k 64 h)

  pub param_place : 64 ≤ k → k < 128 → cond (ltb (k - 64) (length m.params)) (param_bytes (param_at m (k - 64))) blank ≡ entry_at m k
  unfolding entry_at
  param_place h g = rw (le-ltb k 64 h, lt-ltb k 128 g)

  pub term_place : 64 ≤ k → 128 ≤ k → cond (ltb (k - 128) (length m.terms)) (term_bytes (term_at m (k - 128))) blank ≡ entry_at m k
  unfolding entry_at
  term_place h g = rw (le-ltb k 64 h, le-ltb k 128 g)

-- What the bytes of a call say.
module _ (s : List ℕ) where
  line_part : length s ≡ 72 → (b n : ℕ) → n ≡ min b 70 → take (n + 2 - 2) (drop 2 s) ≡ take b (drop 2 s)
  line_part whole b n e = go (dec_lt b 71)
    where
      rest : length (drop 2 s) ≡ 70
      rest = length-drop 2 s ∙ omega arith

      go : Dec (b < 71) → take (n + 2 - 2) (drop 2 s) ≡ take b (drop 2 s)
      go (yes h) = let same : n + 2 - 2 ≡ b = omega arith in rw same
      go (no h) = take_all (n + 2 - 2) (drop 2 s) (omega (arith, rest)) ∙ sym (take_all b (drop 2 s) (omega (arith, rest)))

  pub call_adds : length s ≡ 72 → get_or s 0 0 ≡ 0 → (b n : ℕ) → b ≡ get_or s 1 0 → n ≡ min b 70 → add (take (n + 2 - 2) (drop 2 s)) ≡ call_of s
  unfolding call_of
  call_adds whole tag b n is least = rw (eq-eqb (get_or s 0 0) 0 tag) (ap add (line_part whole b n least ∙ ap (λ (k : ℕ). take k (drop 2 s)) is))

  pub call_redeclares : (get_or s 0 0 ≡ 0 → ⊥) → get_or s 0 0 ≡ 1 → (p code : ℕ) → p ≡ four_bytes s 1 → code ≡ four_bytes s 5 → redeclare p code ≡ call_of s
  unfolding call_of
  call_redeclares other tag p code is_p is_code = rw (ne_eqb (get_or s 0 0) 0 other, eq-eqb (get_or s 0 0) 1 tag) (cc)

  pub call_takes_back : (get_or s 0 0 ≡ 0 → ⊥) → (get_or s 0 0 ≡ 1 → ⊥) → take_back ≡ call_of s
  unfolding call_of
  call_takes_back other other' = rw (ne_eqb (get_or s 0 0) 0 other, ne_eqb (get_or s 0 0) 1 other')
