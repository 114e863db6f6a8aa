-- A scheme table: the schemes' names and what each supports, with the order, the meets and the highest schemes that follow from these.
-- Document 02, d).
use Rattle.std.specs.Prelude.{ℕ, suc, ◌-◌, ◌≤◌, Bool, true, false, not, ◌&&◌, ◌||◌, List, [], ◌≡◌, eqb, ltb, leb, length, get_or}
use Rattle.std.specs.Bool.{beq}
use Rattle.scheme.specs.Lists.{bytes, same, all_of, implies, every, every_pair, first}

-- "a name .. and five digits 0 or 1, for ADD, MUL, EQ, LT, GT supported": the names and the digits of the schemes, in the file's order.
pub record SchemeTable : Type 0 where
  pub names : List (List ℕ)
  pub bits : List (List Bool)

-- How many qualifiers there are. PLAIN has the code 0, and the schemes have 1, 2, .. in the file's order.
abbrev pub words : SchemeTable → ℕ
words T = suc (length T.names)

-- Whether a qualifier supports an operation, by their codes. Plain numbers allow every operation, so PLAIN supports all.
abbrev pub supports : SchemeTable → ℕ → ℕ → Bool
supports T c o = eqb c 0 || (ltb o 5 && get_or (get_or T.bits (c - 1) []) o false)

-- "One scheme is at or below another when it supports at least as much; PLAIN is below all." Only qualifiers' codes are at or below another.
unfoldable pub below : SchemeTable → ℕ → ℕ → Bool
below T a b = ltb a (words T) && (eqb a 0 || (not (eqb b 0) && every 5 (λ o. implies (supports T b o) (supports T a o))))

-- The qualifier that passes the test and that all others that pass are at or below. Where there is none it is `words T`, which is no code.
unfoldable pub greatest : SchemeTable → (ℕ → Bool) → ℕ
greatest T test = first (words T) (λ c. test c && every (words T) (λ d. implies (test d) (below T d c)))

abbrev pub exists : SchemeTable → ℕ → Bool
exists T c = ltb c (words T)

-- The greatest scheme: since PLAIN is below all, it is the greatest qualifier.
abbrev pub top_of : SchemeTable → ℕ
top_of T = greatest T (λ c. true)

-- The greatest lower bound of two qualifiers.
abbrev pub meet_of : SchemeTable → ℕ → ℕ → ℕ
meet_of T a b = greatest T (λ c. below T c a && below T c b)

-- The highest scheme that supports an operation. "An operation that no scheme supports has PLAIN as its highest."
abbrev pub highest_of : SchemeTable → ℕ → ℕ
highest_of T o = greatest T (λ c. supports T c o)

-- "a name of 1 to 5 capitals (not PLAIN)"
abbrev pub is_capital : ℕ → Bool
is_capital b = leb 65 b && leb b 90

unfoldable pub is_name : List ℕ → Bool
is_name s = leb 1 (length s) && leb (length s) 5 && all_of is_capital s && not (same s (bytes "PLAIN"))

-- "repeated name"
unfoldable pub names_differ : SchemeTable → Bool
names_differ T = every_pair (length T.names) (λ i j. implies (same (get_or T.names i []) (get_or T.names j [])) (eqb i j))

-- "repeated bits": two schemes support the same.
abbrev pub alike : SchemeTable → ℕ → ℕ → Bool
alike T a b = every 5 (λ o. beq (supports T a o) (supports T b o))

unfoldable pub bits_differ : SchemeTable → Bool
bits_differ T = every_pair (length T.names) (λ i j. implies (alike T (suc i) (suc j)) (eqb i j))

-- "1 to 8 lines"
abbrev pub fitting : ℕ → Bool
fitting n = leb 1 n && leb n 8

-- "no greatest scheme or two qualifiers without a greatest lower bound"
unfoldable pub has_meets : SchemeTable → Bool
has_meets T = exists T (top_of T) && every_pair (words T) (λ a b. exists T (meet_of T a b))

-- "an operation with supporters but no single highest one"
unfoldable pub has_highest : SchemeTable → Bool
has_highest T = every 5 (λ o. exists T (highest_of T o))

-- An accepted scheme table: what 25 to 27 leave. No sentence of document 02 names this.
pub record Sound (T : SchemeTable) : Type 0 where
  pub some : 1 ≤ length T.names
  pub few : length T.names ≤ 8
  pub named : all_of is_name T.names ≡ true
  pub names_apart : names_differ T ≡ true
  pub counted : length T.bits ≡ length T.names
  pub five : all_of (λ b. eqb (length b) 5) T.bits ≡ true
  pub differ : bits_differ T ≡ true
  pub meets : has_meets T ≡ true
  pub highest : has_highest T ≡ true
