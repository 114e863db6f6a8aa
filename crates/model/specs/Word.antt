-- The words of a line and of the report, with their codes.
-- Document 01, "Schemes and their order" and "Lines and the table"; document 02, a), c) and d).
use Rattle.std.specs.Prelude.{ℕ, ◌+◌, ◌-◌, Bool, ◌&&◌, cond, List, [], ◌∷◌, map, eqb, leb, length, get_or, Option, Some, None}
use Rattle.model.specs.Lists.{same, bytes}
use Rattle.model.specs.Number.{number_of}

-- "Qualifier words in lines and codes in redeclare follow the file": PLAIN, then the schemes' names.
abbrev pub qualifier_words : List (List ℕ) → List (List ℕ)
qualifier_words names = bytes "PLAIN" ∷ names

-- "`o` one of the five operations"
abbrev pub operation_words : List (List ℕ)
operation_words = bytes "ADD" ∷ bytes "MUL" ∷ bytes "EQ" ∷ bytes "LT" ∷ bytes "GT" ∷ []

-- Document 02, c): "in either case, also mixed". Each of the 26 small letters, `a` (97) to `z` (122), reads as its capital, which stands 32 below it;
-- every other byte reads as itself.
unfoldable pub capital : ℕ → ℕ
capital b = cond (leb 97 b && leb b 122) (b - 32) b

abbrev pub capitals : List ℕ → List ℕ
capitals s = map capital s

-- The bytes spell the word, which is in capitals. "The tags T, P, E and the `g` of a variable stay fixed": those are no words.
unfoldable pub spells : List ℕ → List ℕ → Bool
spells s word = same (capitals s) word

-- The place of the word in a list of words, counted from c.
abbrev pub place_in : ℕ → List (List ℕ) → List ℕ → Option ℕ
place_in c [] s = None
place_in c (word ∷ words) s = cond (spells s word) (Some c) (place_in (c + 1) words s)

-- The first value, and the second where there is none.
abbrev pub or_else : Option ℕ → Option ℕ → Option ℕ
or_else (Some n) other = Some n
or_else None other = other

-- "a named qualifier variable": its code is its number and the number of words, "variables after them".
abbrev pub variable_code : ℕ → Option ℕ → Option ℕ
variable_code n (Some k) = Some (k + n)
variable_code n None = None

-- "`g0` to `g63`", after n words
abbrev pub variable_of : ℕ → List ℕ → Option ℕ
variable_of n [] = None
variable_of n (b ∷ bs) = cond (eqb b 103) (variable_code n (number_of 63 bs)) None

-- Document 02, a): "one of the .. qualifier words".
unfoldable pub word_of : List (List ℕ) → List ℕ → Option ℕ
word_of names s = place_in 0 (qualifier_words names) s

-- "`q` is a qualifier word or `g0` to `g63`"
unfoldable pub qualifier_of : List (List ℕ) → List ℕ → Option ℕ
qualifier_of names s = or_else (word_of names s) (variable_of (length (qualifier_words names)) s)

-- "`s` one of the .. schemes": a qualifier word that is not PLAIN.
unfoldable pub scheme_of : List (List ℕ) → List ℕ → Option ℕ
scheme_of names s = place_in 1 names s

unfoldable pub operation_of : List ℕ → Option ℕ
operation_of s = place_in 0 operation_words s

-- The word of a qualifier's code, as the report has it. No code past the words is asked for.
unfoldable pub qualifier_word : List (List ℕ) → ℕ → List ℕ
qualifier_word names c = get_or (qualifier_words names) c []
