-- The names of a scheme table as bytes: joined by commas they are parted into the same names again, since no capital is a comma.
use Prim.Native.Nat.{ℕ, zero, suc, ◌+◌, ◌*◌, ◌≤◌, ◌<◌}
use native.Mathlib.Omega.{arith}
use mathlib.Core.Bool.{true, false, not, ◌&&◌}
use mathlib.Core.List.{List, [], ◌∷◌, ◌++◌}
use mathlib.Core.Path.{◌≡◌, refl, ap, ◌∙◌}
use lib.Dec.{eqb, leb}
use lib.ListN.{length, get_or, length-append}
use borrow.Author.Tests.{leb-true, ne_eqb}
use Rattle.scheme.specs.Lists.{bytes, same, all_of}
use Rattle.scheme.specs.Schemes.{is_capital, is_name}
use Rattle.scheme.proofs.Every.{and_left, and_right}
use Rattle.model.specs.Line.{fields}
use Rattle.model.specs.Report.{joined}
use Rattle.answered.proofs.Entries.{each_joined, each-cons}

capital_between : (b : ℕ) → is_capital b ≡ true → (65 ≤ b) × (b ≤ 90)
capital_between b h = (leb-true 65 b (and_left _ (leb b 90) h), leb-true b 90 (and_right (leb 65 b) _ h))

no_comma : (b : ℕ) → is_capital b ≡ true → eqb b 44 ≡ false
no_comma b h = ne_eqb b 44 (λ e. omega (arith, (capital_between b h).0))

-- A name is one field: the last one, or the first where a comma follows.
last_field : (s : List ℕ) → all_of is_capital s ≡ true → fields s ≡ s ∷ []
last_field [] h = refl
last_field (b ∷ bs) h = rw (no_comma b (and_left _ (all_of is_capital bs) h), last_field bs (and_right (is_capital b) _ h)) refl

first_field : (s rest : List ℕ) → all_of is_capital s ≡ true → fields (s ++ (44 ∷ rest)) ≡ s ∷ fields rest
first_field [] rest h = refl
first_field (b ∷ bs) rest h = rw (no_comma b (and_left _ (all_of is_capital bs) h), first_field bs rest (and_right (is_capital b) _ h)) refl

name_capitals : (s : List ℕ) → is_name s ≡ true → all_of is_capital s ≡ true
unfolding is_name
name_capitals s h = and_right (leb 1 (length s) && leb (length s) 5) _ (and_left _ (not (same s (bytes "PLAIN"))) h)

pub fields_joined : (names : List (List ℕ)) → 1 ≤ length names → all_of is_name names ≡ true → fields (joined names) ≡ names
fields_joined [] some h = absurd (omega arith)
fields_joined (s ∷ []) some h = last_field s (name_capitals s (and_left _ true h))
fields_joined (s ∷ t ∷ rest) some h =
    first_field s (joined (t ∷ rest)) (name_capitals s (and_left _ (all_of is_name (t ∷ rest)) h))
    ∙ ap (λ (names : List (List ℕ)). s ∷ names) (fields_joined (t ∷ rest) (omega arith) (and_right (is_name s) _ h))

-- Five bytes and a comma for each name, but for the last one's comma.
pub joined_length : (names : List (List ℕ)) → 1 ≤ length names → all_of (λ s. leb (length s) 5) names ≡ true → length (joined names) + 1 ≤ 6 * length names
joined_length [] some h = absurd (omega arith)
joined_length (s ∷ []) some h = omega (arith, leb-true (length s) 5 (and_left _ true h))
joined_length (s ∷ t ∷ rest) some h =
    let short : length s ≤ 5 = leb-true (length s) 5 (and_left _ (all_of (λ s. leb (length s) 5) (t ∷ rest)) h) in
    let later = joined_length (t ∷ rest) (omega arith) (and_right (leb (length s) 5) _ h) in
    simp length-append (omega arith)

capitals_bytes : (s : List ℕ) → all_of is_capital s ≡ true → (i : ℕ) → get_or s i 0 < 256
capitals_bytes [] h i = omega arith
capitals_bytes (b ∷ bs) h zero = omega (arith, (capital_between b (and_left _ (all_of is_capital bs) h)).1)
capitals_bytes (b ∷ bs) h (suc i) = capitals_bytes bs (and_right (is_capital b) _ h) i

pub joined_bytes : (names : List (List ℕ)) → all_of is_name names ≡ true → (i : ℕ) → get_or (joined names) i 0 < 256
joined_bytes [] h i = omega arith
joined_bytes (s ∷ []) h i = capitals_bytes s (name_capitals s (and_left _ true h)) i
joined_bytes (s ∷ t ∷ rest) h i =
    each_joined (λ b. b < 256) 0 (omega arith) s (44 ∷ joined (t ∷ rest)) (capitals_bytes s (name_capitals s (and_left _ (all_of is_name (t ∷ rest)) h)))
    (each-cons (λ b. b < 256) 0 (omega arith) 44 (joined (t ∷ rest)) (omega arith) (joined_bytes (t ∷ rest) (and_right (is_name s) _ h)))
    i
