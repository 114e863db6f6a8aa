-- The names of a file as one text: a comma and a name more give one field more.
use Prim.Native.Nat.{ℕ, ◌+◌, ◌≤◌, ◌<◌}
use native.Mathlib.Omega.{arith}
use native.Mathlib.Numerals.{add-one}
use mathlib.Core.Bool.{Bool, true, false, not, ◌&&◌, cond}
use mathlib.Core.List.{List, [], ◌∷◌, ◌++◌, map}
use mathlib.Core.Path.{◌≡◌, refl, sym, ap, ap₂, ◌∙◌}
use lib.Dec.{eqb, leb}
use lib.ListN.{length, take, length-append, length-map, get_or-map}
use lib.Seq.{take-suc}
use borrow.Author.Tests.{leb-true, ne_eqb}
use Rattle.scheme.proofs.Every.{and_left, and_right}
use Rattle.model.specs.Lists.{all_of, same, bytes}
use Rattle.model.specs.Line.{onto, fields, field, lines_of}
use Rattle.model.specs.SchemeFile.{is_capital, is_name, table_of}
use Rattle.scheme.proofs.Schemes.{name_short}
use Rattle.model.proofs.Opened.{line_name}
use Rattle.tokens.proofs.Parting.{some_field}
use Rattle.schemes.specs.Lines.{line_at, name_at, Formed}
use Rattle.schemes.specs.Stored.{NamesHeld}
use Rattle.schemes.proofs.Storing.{formed_at}

-- The fields of a text with a comma in it, and of one without.
onto_append : (b : ℕ) (fs gs : List (List ℕ)) → 0 < length fs → onto b (fs ++ gs) ≡ onto b fs ++ gs
onto_append b [] gs h = absurd (omega arith)
onto_append b (f ∷ fs) gs h = refl

fields_comma : (t s : List ℕ) → fields (t ++ (44 ∷ s)) ≡ fields t ++ fields s
fields_comma [] s = refl
fields_comma (b ∷ bs) s = by (eqb b 44) (fields_comma bs s)
  where
    by : (p : Bool) → fields (bs ++ (44 ∷ s)) ≡ fields bs ++ fields s →
        cond p ([] ∷ fields (bs ++ (44 ∷ s))) (onto b (fields (bs ++ (44 ∷ s)))) ≡ cond p ([] ∷ fields bs) (onto b (fields bs)) ++ fields s
    by true e = ap (λ (l : List (List ℕ)). [] ∷ l) e
    by false e = ap (onto b) e ∙ onto_append b (fields bs) (fields s) (some_field bs)

no_comma : (b : ℕ) → is_capital b ≡ true → eqb b 44 ≡ false
no_comma b h = ne_eqb b 44 (λ e. omega (arith, leb-true 65 b (and_left (leb 65 b) (leb b 90) h)))

fields_capitals : (s : List ℕ) → all_of is_capital s ≡ true → fields s ≡ s ∷ []
fields_capitals [] h = refl
fields_capitals (b ∷ bs) h =
    let first = no_comma b (and_left (is_capital b) (all_of is_capital bs) h) in
    let rest = fields_capitals bs (and_right (is_capital b) (all_of is_capital bs) h) in
    rw (first, rest) refl

-- A name is one field.
name_field : (s : List ℕ) → is_name s ≡ true → fields s ≡ s ∷ []
unfolding is_name
name_field s h = fields_capitals s (and_right (leb 1 (length s) && leb (length s) 5) (all_of is_capital s) (and_left (leb 1 (length s) && leb (length s) 5 && all_of is_capital s) (not (same s (bytes "PLAIN"))) h))

-- The name of a line.
module _ (file : List ℕ) (n k : ℕ) (formed : Formed file n) (below : k < n) where
  line_of_name : is_name (name_at file k) ≡ true
  unfolding name_at
  line_of_name = line_name (line_at file k) (formed_at file n k formed below)

  names_more : take (k + 1) (table_of (lines_of file)).names ≡ take k (table_of (lines_of file)).names ++ (name_at file k ∷ [])
  unfolding table_of name_at line_at
  names_more =
      let names : List (List ℕ) = map (λ s. field s 1) (lines_of file) in
      let size : length names ≡ length (lines_of file) = length-map (lines_of file) (λ s. field s 1) in
      rw (add-one, take-suc names k [] (omega (arith, formed.counted)), get_or-map (λ (s : List ℕ). field s 1) (lines_of file) k []) refl

  module _ (s : List ℕ) (is : s ≡ name_at file k) where
    name_here : is_name s ≡ true
    name_here = rw is line_of_name

    short : length s ≤ 5
    short = leb-true (length s) 5 (name_short s name_here)

    module _ (text : List ℕ) (held : NamesHeld file k text) where
      pub held_room : length text + 1 + length s ≤ 47
      held_room = omega (arith, held.room, formed.few, short)

      pub held_more : NamesHeld file (k + 1) (text ++ (44 ∷ s))
      held_more =
          record {
            room = omega (arith, held.room, short, length-append text (44 ∷ s));
            same =
                fields_comma text s
                ∙ ap₂ ◌++◌ held.same (name_field s name_here)
                ∙ ap (λ (name : List ℕ). take k (table_of (lines_of file)).names ++ (name ∷ [])) is
                ∙ sym names_more;
          }

-- The first name stands alone.
pub held_first : (file : List ℕ) (n : ℕ) → Formed file n → (s : List ℕ) → s ≡ name_at file 0 → NamesHeld file 1 s
held_first file n formed s is =
    let name = name_here file n 0 formed formed.some s is in
    record {
      room = omega (arith, short file n 0 formed formed.some s is);
      same = name_field s name ∙ ap (λ (name : List ℕ). name ∷ []) is ∙ sym (names_more file n 0 formed formed.some);
    }

pub first_room : (file : List ℕ) (n : ℕ) → Formed file n → (s : List ℕ) → s ≡ name_at file 0 → length s ≤ 47
first_room file n formed s is = omega (arith, short file n 0 formed formed.some s is)
