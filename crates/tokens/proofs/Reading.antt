-- A field's value by its kind, and the loop that reads the values of a form's fields.
use Prim.Native.Nat.{ℕ, ◌+◌, ◌-◌, ◌≤◌, ◌<◌}
use native.Mathlib.Omega.{arith}
use native.Mathlib.Numerals.{add-one}
use mathlib.Core.Bool.{Bool, true, false}
use mathlib.Core.List.{List, [], ◌∷◌}
use mathlib.Core.Path.{◌≡◌, refl, sym, ap, ◌∙◌}
use lib.Dec.{ltb}
use lib.ListN.{length, get_or, take, drop, set, length-set, drop_of_length-le}
use lib.Seq.{drop-cons}
use borrow.Author.Tests.{ne_eqb, ltb-true, ltb-false}
use Rattle.std.specs.Prelude.{Option, Some, None, Err}
use Rattle.model.specs.Lists.{length_before}
use Rattle.model.specs.Word.{operation_of}
use Rattle.model.specs.Line.{fields}
use Rattle.numbers.specs.NumberTo.{with_end, bytes_to, number_to}
use Rattle.tokens.specs.Part.{fields_from, FieldTo}
use Rattle.tokens.specs.Form.{most_fields, is_floor, word_in, value_of, value_at, no_values, put, told, onward, values_from, values_of}
use Rattle.tokens.specs.declared.values.Values.{Values}
use Rattle.tokens.proofs.Bounds.{value_read, value_missing}
use Rattle.tokens.proofs.Parting.{some_field, from_within, from_past, field_first}

-- What was read of a field, by its kind, is its value with its end.
module _ (names : List (List ℕ)) (kind : ℕ) (s : List ℕ) (from : ℕ) (r : Option (ℕ × ℕ)) where
  pub value_number : kind ≡ 110 → r ≡ number_to 44 65535 s from → r ≡ value_at names kind s from
  unfolding number_to value_of value_at
  value_number is e = e ∙ simp is

  pub value_literal : kind ≡ 108 → r ≡ number_to 44 4294967295 s from → r ≡ value_at names kind s from
  unfolding number_to value_of value_at
  value_literal is e = e ∙ simp is

  pub value_word : (to : ℕ) (v : Option ℕ) → FieldTo s from to → (kind ≡ 110 → ⊥) → (kind ≡ 108 → ⊥) → v ≡ word_in names kind (take (to - from) (drop from s)) → r ≡ with_end v to →
      r ≡ value_at names kind s from
  unfolding value_of value_at
  value_word to v f n l e is =
      let size : to - from ≡ length_before 44 (drop from s) = omega (arith, f.place) in
      is ∙ rw (e, size) (simp (ne_eqb kind 110 n, ne_eqb kind 108 l) (ap (with_end (word_in names kind (bytes_to 44 s from))) f.place))

pub ruleset values = (value_number, value_literal, value_word)

-- The letter of no other kind is that of an operation.
pub word_operation : (names : List (List ℕ)) (kind : ℕ) (s : List ℕ) (r : Option ℕ) → r ≡ operation_of s →
    (kind ≡ 113 → ⊥) → (kind ≡ 102 → ⊥) → (kind ≡ 115 → ⊥) → r ≡ word_in names kind s
unfolding word_in
word_operation names kind s r e q f m = simp (ne_eqb kind 113 q, ne_eqb kind 102 f, ne_eqb kind 115 m) e

-- The values so far, with those of the fields from `from` on, are the line's.
pub record Reading (names : List (List ℕ)) (kinds s : List ℕ) (start : ℕ) (v : Values) (k from : ℕ) : Type 0 where
  pub numbers : length v.number ≡ most_fields
  pub codes : length v.code ≡ most_fields
  pub rest : values_of names kinds (fields_from s start) ≡ values_from names v k (drop k kinds) (fields_from s from)

pub read_first : (names : List (List ℕ)) (kinds s : List ℕ) (start : ℕ) (v : Values) → v ≡ no_values → Reading names kinds s start v 0 start
unfolding values_of
read_first names kinds s start v e = rw e (record { numbers = refl; codes = refl; rest = refl })

fields_left : (names : List (List ℕ)) (v : Values) (k : ℕ) (fs : List (List ℕ)) → 0 < length fs → Err v ≡ values_from names v k [] fs
fields_left names v k [] h = absurd (omega arith)
fields_left names v k (f ∷ fs) h = refl

module _ (names : List (List ℕ)) (kinds s : List ℕ) (start : ℕ) (v : Values) (k from : ℕ) (r : Reading names kinds s start v k from) where
  -- No kind is left.
  pub read_end : length kinds ≤ k → told (ltb (length s) from) v ≡ values_of names kinds (fields_from s start)
  read_end h = by (ltb (length s) from) refl ∙ simp (← drop_of_length-le kinds h) (sym r.rest)
    where
      by : (t : Bool) → ltb (length s) from ≡ t → told t v ≡ values_from names v k [] (fields_from s from)
      by true e = simp (from_past s from (ltb-true (length s) from e))
      by false e =
          let within : from ≤ length s = ltb-false (length s) from e in
          simp (from_within s from within) (fields_left names v k (fields (drop from s)) (some_field (drop from s)))

  -- The next field, by its kind.
  module _ (h : k < length kinds) where
    -- Only a floor may be left out.
    pub read_short : length s < from → told (is_floor (get_or kinds k 0)) v ≡ values_of names kinds (fields_from s start)
    read_short past = sym (r.rest ∙ simp (drop-cons kinds k 0 h, from_past s from past))

    module _ (within : from ≤ length s) (x : Option (ℕ × ℕ)) (at : x ≡ value_at names (get_or kinds k 0) s from) where
      pub read_missing : x ≡ None → Err v ≡ values_of names kinds (fields_from s start)
      unfolding onward
      read_missing none = sym (r.rest ∙ simp (drop-cons kinds k 0 h, field_first s from within, value_missing names (get_or kinds k 0) s from x at none))

      module _ (n to : ℕ) (is : x ≡ Some (n, to)) where
        next : values_of names kinds (fields_from s start) ≡ values_from names (put (get_or kinds k 0) k n v) (k + 1) (drop (k + 1) kinds) (fields_from s (to + 1))
        unfolding onward
        next =
            let read = value_read names (get_or kinds k 0) s from x at n to is in
            r.rest ∙ simp (drop-cons kinds k 0 h, field_first s from within, read.0, read.1, add-one)

        -- The value is put where its kind says.
        put_next : (v' : Values) → put (get_or kinds k 0) k n v ≡ v' → length v'.number ≡ most_fields → length v'.code ≡ most_fields → Reading names kinds s start v' (k + 1) (to + 1)
        put_next v' p numbers codes = record { numbers = numbers; codes = codes; rest = rw p at next }

        pub read_number : get_or kinds k 0 ≡ 110 → Reading names kinds s start (record { number = set v.number k n; code = v.code; literal = v.literal }) (k + 1) (to + 1)
        read_number kind = put_next _ (simp kind) (length-set v.number k n ∙ r.numbers) r.codes

        pub read_literal : get_or kinds k 0 ≡ 108 → Reading names kinds s start (record { number = v.number; code = v.code; literal = n }) (k + 1) (to + 1)
        read_literal kind = put_next _ (simp kind) r.numbers r.codes

        pub read_code : (get_or kinds k 0 ≡ 110 → ⊥) → (get_or kinds k 0 ≡ 108 → ⊥) →
            Reading names kinds s start (record { number = v.number; code = set v.code k n; literal = v.literal }) (k + 1) (to + 1)
        read_code number literal =
            put_next _ (simp (ne_eqb (get_or kinds k 0) 110 number, ne_eqb (get_or kinds k 0) 108 literal)) r.numbers (length-set v.code k n ∙ r.codes)
