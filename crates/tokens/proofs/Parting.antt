-- The loops over a line's fields: what a byte that is a comma, or is none, does to the fields from there on.
use Prim.Native.Nat.{ℕ, zero, suc, ◌+◌, ◌-◌, ◌≤◌, ◌<◌}
use native.Mathlib.Omega.{arith}
use native.Mathlib.Decide.{dec_lt}
use native.Mathlib.Numerals.{add-one}
use mathlib.Core.Bool.{Bool, true, false, cond}
use mathlib.Core.List.{List, [], ◌∷◌}
use mathlib.Core.Path.{◌≡◌, refl, sym, ap, ◌∙◌}
use lib.Dec.{eqb, leb, leb-suc-suc}
use lib.ListN.{length, get_or, take, drop, length-drop}
use lib.Seq.{drop-cons, drop-drop, take_all}
use borrow.Author.Tests.{ne_eqb, le-leb, lt-leb}
use Rattle.std.specs.Prelude.{nat_eq, Option, Some, None, option_map, unwrap_or, slice_get}
use Rattle.std.proofs.lemmas.Option.{unwrap_or-slice_get}
use Rattle.std.specs.List.{slice_split, count_by, onto_first as slice_onto}
use Rattle.std.proofs.lemmas.List.Splits.{length-slice_split}
use Rattle.model.specs.Lists.{length_before}
use Rattle.model.specs.Line.{onto, fields, field}
use Rattle.numbers.specs.NumberTo.{next_place, bytes_to}
use Rattle.numbers.proofs.Ends.{next_within}
use Rattle.tokens.specs.Part.{fields_from, FieldTo}

-- A byte more in front of the first field leaves the later fields, and how many there are.
pub onto_first : (b : ℕ) (fs : List (List ℕ)) → get_or (onto b fs) 0 [] ≡ b ∷ get_or fs 0 []
onto_first b [] = refl
onto_first b (f ∷ fs) = refl

pub onto_later : (b : ℕ) (fs : List (List ℕ)) (k : ℕ) → (k ≡ 0 → ⊥) → get_or (onto b fs) k [] ≡ get_or fs k []
onto_later b fs zero h = absurd (h refl)
onto_later b [] (suc k) h = refl
onto_later b (f ∷ fs) (suc k) h = refl

onto_length : (b : ℕ) (fs : List (List ℕ)) → 0 < length fs → length (onto b fs) ≡ length fs
onto_length b [] h = absurd (omega arith)
onto_length b (f ∷ fs) h = refl

-- There is at least one field.
pub some_field : (s : List ℕ) → 0 < length (fields s)
some_field [] = omega arith
some_field (b ∷ bs) = by (eqb b 44) (some_field bs)
  where
    by : (t : Bool) → 0 < length (fields bs) → 0 < length (cond t ([] ∷ fields bs) (onto b (fields bs)))
    by true h = omega arith
    by false h = omega (arith, onto_length b (fields bs) h)

-- Byte i of the line is a comma, or is none.
module _ (s : List ℕ) (i : ℕ) (h : i < length s) where
  pub at_comma : get_or s i 0 ≡ 44 → fields (drop i s) ≡ [] ∷ fields (drop (i + 1) s)
  at_comma e = simp (drop-cons s i 0 h, e, add-one)

  pub at_other : (get_or s i 0 ≡ 44 → ⊥) → fields (drop i s) ≡ onto (get_or s i 0) (fields (drop (i + 1) s))
  at_other e = simp (drop-cons s i 0 h, ne_eqb (get_or s i 0) 44 e, add-one)

-- The fields from a place on.
pub from_within : (s : List ℕ) (i : ℕ) → i ≤ length s → fields_from s i ≡ fields (drop i s)
unfolding fields_from
from_within s i h = simp (le-leb i (length s) h)

pub from_past : (s : List ℕ) (i : ℕ) → length s < i → fields_from s i ≡ []
unfolding fields_from
from_past s i h = simp (lt-leb i (length s) h)

-- The next field: what stands before the next comma, and the fields after that.
from_next : (b : ℕ) (bs : List ℕ) (i : ℕ) → fields_from (b ∷ bs) (suc i) ≡ fields_from bs i
unfolding fields_from
from_next b bs i = simp leb-suc-suc

fields_first : (s : List ℕ) → fields s ≡ take (length_before 44 s) s ∷ fields_from s (suc (length_before 44 s))
unfolding fields_from
fields_first [] = refl
fields_first (b ∷ bs) = by (eqb b 44) (fields_first bs)
  where
    by : (t : Bool) → fields bs ≡ take (length_before 44 bs) bs ∷ fields_from bs (suc (length_before 44 bs)) →
        cond t ([] ∷ fields bs) (onto b (fields bs)) ≡ take (cond t 0 (suc (length_before 44 bs))) (b ∷ bs) ∷ fields_from (b ∷ bs) (suc (cond t 0 (suc (length_before 44 bs))))
    by true rest = ap (λ (fs : List (List ℕ)). [] ∷ fs) (sym (from_within (b ∷ bs) 1 (omega arith)))
    by false rest = ap (onto b) rest ∙ ap (λ (fs : List (List ℕ)). (b ∷ take (length_before 44 bs) bs) ∷ fs) (sym (from_next b bs (suc (length_before 44 bs))))

from_drop : (s : List ℕ) (from i : ℕ) → from ≤ length s → fields_from (drop from s) i ≡ fields_from s (from + i)
unfolding fields_from
from_drop s from i h = simp (drop-drop, length-drop) (ap (λ (t : Bool). cond t (fields (drop (from + i) s)) []) (by (dec_lt (length s) (from + i))))
  where
    by : Dec (length s < from + i) → leb i (length s - from) ≡ leb (from + i) (length s)
    by (yes past) = lt-leb i (length s - from) (omega arith) ∙ sym (lt-leb (from + i) (length s) past)
    by (no within) = le-leb i (length s - from) (omega arith) ∙ sym (le-leb (from + i) (length s) (omega arith))

module _ (s : List ℕ) (from : ℕ) (h : from ≤ length s) where
  pub field_first : fields_from s from ≡ bytes_to 44 s from ∷ fields_from s (next_place 44 s from + 1)
  field_first =
      let next : from + suc (length_before 44 (drop from s)) ≡ next_place 44 s from + 1 = omega arith in
      from_within s from h ∙ fields_first (drop from s) ∙ rw (from_drop s from (suc (length_before 44 (drop from s))) h, next)

  pub field_to : (to : ℕ) → to ≡ next_place 44 s from → FieldTo s from to
  field_to to is =
      let size : length_before 44 (drop from s) ≡ to - from = omega arith in
      let place : next_place 44 s from ≡ to = sym is in
      record { after = omega arith; within = omega (arith, next_within 44 s from h); place = is; parts = field_first ∙ rw (place, size) }

-- A line is cut at its commas as the library cuts a slice.
pub fields_split : (s : List ℕ) → slice_split (λ b. nat_eq b 44) s ≡ fields s
fields_split [] = refl
fields_split (b ∷ bs) = by (eqb b 44) (fields_split bs)
  where
    front : (fs : List (List ℕ)) → slice_onto b fs ≡ onto b fs
    front [] = refl
    front (f ∷ fs) = refl

    by : (t : Bool) → slice_split (λ b. nat_eq b 44) bs ≡ fields bs → cond t ([] ∷ slice_split (λ b. nat_eq b 44) bs) (slice_onto b (slice_split (λ b. nat_eq b 44) bs)) ≡ cond t ([] ∷ fields bs) (onto b (fields bs))
    by true e = ap (λ (fs : List (List ℕ)). [] ∷ fs) e
    by false e = ap (slice_onto b) e ∙ front (fields bs)

-- There is one field more than commas.
pub fields_counted : (s : List ℕ) (i commas : ℕ) → length s ≤ i → commas ≡ count_by (λ b. nat_eq b 44) (take i s) → commas + 1 ≡ length (fields s)
fields_counted s i commas end counted = rw (counted, take_all i s end) (sym (length-slice_split (λ b. nat_eq b 44) s) ∙ ap length (fields_split s))

-- The part at a place, which is empty where there is none.
pub part_or_empty : {R : Type 0} (now : R → List ℕ) (part : Option R) (empty : R) (s : List ℕ) (k : ℕ) → now empty ≡ [] → option_map now part ≡ slice_get (slice_split (λ b. nat_eq b 44) s) k → now (unwrap_or part empty) ≡ field s k
part_or_empty {R} now part empty s k none is =
    by part ∙ ap (unwrap_or (option_map now part)) none ∙ ap (λ (o : Option (List ℕ)). unwrap_or o []) is ∙ unwrap_or-slice_get (slice_split (λ b. nat_eq b 44) s) k [] ∙ ap (λ (fs : List (List ℕ)). get_or fs k []) (fields_split s)
  where
    by : (part : Option R) → now (unwrap_or part empty) ≡ unwrap_or (option_map now part) (now empty)
    by None = refl
    by (Some r) = refl

-- A text has at most one field more than bytes.
pub fields_most : (s : List ℕ) → length (fields s) ≤ suc (length s)
fields_most [] = omega arith
fields_most (b ∷ bs) = by (eqb b 44) (fields_most bs)
  where
    by : (t : Bool) → length (fields bs) ≤ suc (length bs) → length (cond t ([] ∷ fields bs) (onto b (fields bs))) ≤ suc (suc (length bs))
    by true h = omega arith
    by false h = omega (arith, onto_length b (fields bs) (some_field bs))
