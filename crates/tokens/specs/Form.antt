-- The values that stand in a form's fields, by their kinds: one letter for each field.
-- Document 01, "Lines and the table"; document 02, a) and d).
use Rattle.std.specs.Prelude.{ℕ, ◌+◌, Bool, true, false, cond, List, [], ◌∷◌, eqb, set, replicate, Option, Some, None, Result, Ok, Err}
use Rattle.model.specs.Number.{number_of}
use Rattle.model.specs.Word.{word_of, qualifier_of, scheme_of, operation_of}
use Rattle.numbers.specs.NumberTo.{with_end, next_place, bytes_to}
use Rattle.tokens.specs.declared.values.Values.{Values}

-- The letters of the two kinds that have no code.
abbrev pub is_number : ℕ → Bool
is_number kind = eqb kind 110

abbrev pub is_literal : ℕ → Bool
is_literal kind = eqb kind 108

-- Document 02, a): "four fields mean PLAIN". So a floor may be left out where no field follows it, and its code stays 0.
abbrev pub is_floor : ℕ → Bool
is_floor kind = eqb kind 102

-- A word in a field: `q` is a qualifier, `f` a floor, which is a qualifier's word, `s` a scheme, and any other letter, as `o`, an operation.
unfoldable pub word_in : List (List ℕ) → ℕ → List ℕ → Option ℕ
word_in names kind s =
    cond (eqb kind 113) (qualifier_of names s)
    (cond (is_floor kind) (word_of names s)
    (cond (eqb kind 115) (scheme_of names s) (operation_of s)))

-- What stands in a field: `n` is a number, `l` a literal, and of any other kind it is a word.
unfoldable pub value_of : List (List ℕ) → ℕ → List ℕ → Option ℕ
value_of names kind s =
    cond (is_number kind) (number_of 65535 s)
    (cond (is_literal kind) (number_of 4294967295 s) (word_in names kind s))

-- That of the field that starts at a place, with the place where it ends.
unfoldable pub value_at : List (List ℕ) → ℕ → List ℕ → ℕ → Option (ℕ × ℕ)
value_at names kind s from = with_end (value_of names kind (bytes_to 44 s from)) (next_place 44 s from)

-- The most fields that a form has.
abbrev pub most_fields : ℕ
most_fields = 4

-- Before any field was read.
abbrev pub no_values : Values
no_values = record { number = replicate most_fields 0; code = replicate most_fields 0; literal = 0 }

-- Field k has the value n.
abbrev pub put : ℕ → ℕ → ℕ → Values → Values
put kind k n v =
    record {
      number = cond (is_number kind) (set v.number k n) v.number;
      code = cond (is_number kind) v.code (cond (is_literal kind) v.code (set v.code k n));
      literal = cond (is_number kind) v.literal (cond (is_literal kind) n v.literal);
    }

-- Whether all values are there; where they are not, those that were read are told.
abbrev pub told : Bool → Values → Result Values Values
told true v = Ok v
told false v = Err v

-- A field's value goes into the rest; without one the values stay as they are.
unfoldable pub onward : Option ℕ → Values → (ℕ → Result Values Values) → Result Values Values
onward (Some n) v rest = rest n
onward None v rest = Err v

-- The values with those of the fields from k on. They are all there where each field has one of its kind, and there are as many fields as kinds; or one fewer, where that is a floor.
abbrev pub values_from : List (List ℕ) → Values → ℕ → List ℕ → List (List ℕ) → Result Values Values
values_from names v k [] [] = Ok v
values_from names v k [] (f ∷ fs) = Err v
values_from names v k (kind ∷ kinds) [] = told (is_floor kind) v
values_from names v k (kind ∷ kinds) (f ∷ fs) = onward (value_of names kind f) v λ n. values_from names (put kind k n v) (k + 1) kinds fs

unfoldable pub values_of : List (List ℕ) → List ℕ → List (List ℕ) → Result Values Values
values_of names kinds fs = values_from names no_values 0 kinds fs
