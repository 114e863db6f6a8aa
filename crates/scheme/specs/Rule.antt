-- A ruling: what the solver reads of a scheme table, as 88 bytes. The meet of a and b stands at 9 * a + b; from 81 on the highest of the five
-- operations; at 86 the greatest qualifier; at 87 how many qualifiers there are.
use Rattle.std.specs.Prelude.{ℕ, ◌+◌, ◌*◌, ◌<◌, ◌≤◌, Bool, true, ◌&&◌, List, ◌≡◌, eqb, ltb, get_or}
use Rattle.scheme.specs.Schemes.{SchemeTable, words, top_of, meet_of, highest_of}

unfoldable pub meet_at : List ℕ → ℕ → ℕ → ℕ
meet_at R a b = get_or R (a * 9 + b) 0

unfoldable pub highest_at : List ℕ → ℕ → ℕ
highest_at R o = get_or R (81 + o) 0

unfoldable pub top_at : List ℕ → ℕ
top_at R = get_or R 86 0

unfoldable pub words_at : List ℕ → ℕ
words_at R = get_or R 87 0

-- A code is at or below another where it is the meet of the two.
unfoldable pub under : List ℕ → ℕ → ℕ → Bool
under R a b = ltb a (words_at R) && ltb b (words_at R) && eqb (meet_at R a b) a

-- The bytes are the ruling of the table.
pub record Ruled (T : SchemeTable) (R : List ℕ) : Type 0 where
  pub words_same : words_at R ≡ words T
  pub top_same : top_at R ≡ top_of T
  pub meets_same : (a b : ℕ) → a < words T → b < words T → meet_at R a b ≡ meet_of T a b
  pub highest_same : (o : ℕ) → o < 5 → highest_at R o ≡ highest_of T o

-- What the solver rests on.
pub record Lattice (R : List ℕ) : Type 0 where
  pub some : 1 ≤ words_at R
  pub few : words_at R ≤ 9
  pub top_code : top_at R < words_at R
  pub reflexive : (a : ℕ) → a < words_at R → under R a a ≡ true
  pub transitive : (a b c : ℕ) → under R a b ≡ true → under R b c ≡ true → under R a c ≡ true
  pub antisymmetric : (a b : ℕ) → under R a b ≡ true → under R b a ≡ true → a ≡ b
  pub plain_lowest : (a : ℕ) → a < words_at R → under R 0 a ≡ true
  pub top_greatest : (a : ℕ) → a < words_at R → under R a (top_at R) ≡ true
  pub meet_code : (a b : ℕ) → a < words_at R → b < words_at R → meet_at R a b < words_at R
  pub meet_left : (a b : ℕ) → a < words_at R → b < words_at R → under R (meet_at R a b) a ≡ true
  pub meet_right : (a b : ℕ) → a < words_at R → b < words_at R → under R (meet_at R a b) b ≡ true
  pub meet_greatest : (a b c : ℕ) → under R c a ≡ true → under R c b ≡ true → under R c (meet_at R a b) ≡ true
  pub highest_code : (o : ℕ) → o < 5 → highest_at R o < words_at R
