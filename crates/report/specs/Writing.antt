-- What each function of the writer leaves in the buffer.
use Rattle.std.specs.Prelude.{ℕ, zero, suc, ◌+◌, ◌*◌, ◌≤◌, ◌<◌, cond, List, [], ◌∷◌, ◌≡◌, ltb, length, get_or, take, drop}
use Rattle.std.proofs.lemmas.List.Edits.{sets}
use Rattle.model.specs.Lists.{bytes}
use Rattle.model.specs.Number.{decimal}
use Rattle.model.specs.Word.{qualifier_word}
use Rattle.model.specs.Report.{line, shape_word}
use Rattle.report.specs.Codes.{shape_of_code}

-- The buffer l has room for the text w at i.
pub record Room (l : List ℕ) (i : ℕ) (w : List ℕ) : Type 0 where
  pub fits : i + length w ≤ length l

-- The text w is written at i: the buffer l is l' after it, and the next place is i'.
pub record Wrote (l : List ℕ) (i : ℕ) (w l' : List ℕ) (i' : ℕ) : Type 0 where
  pub bytes : l' ≡ sets l i w
  pub end : i' ≡ i + length w

-- The text w stands at the front of the buffer l, which is size bytes of it.
pub record Front (w l : List ℕ) (size : ℕ) : Type 0 where
  pub bytes : take size l ≡ w
  pub fits : size ≤ length l

-- The first n words of a table: eight bytes each, of which the last says how many its word has.
unfoldable pub first_words : ℕ → List ℕ → List (List ℕ)
first_words zero table = []
first_words (suc n) table = take (get_or table 7 0) table ∷ first_words n (drop 8 table)

-- The words of a table of eight.
abbrev pub words_in : List ℕ → List (List ℕ)
words_in table = first_words 8 table

-- A table of eight words, none of them longer than five bytes.
pub record Tabled (table : List ℕ) : Type 0 where
  pub long : length table ≡ 64
  pub sized : (k : ℕ) → k < 8 → get_or table (8 * k + 7) 0 ≤ 5

-- The table has these words, and the empty word behind them.
abbrev pub Spelled : List ℕ → List (List ℕ) → Type 0
Spelled table words = (k : ℕ) → get_or (words_in table) k [] ≡ get_or words k []

-- `OK,parameters,rows`, and the other lines of a word and two numbers
unfoldable pub pair_text : List ℕ → ℕ → ℕ → List ℕ
pair_text word a b = line (word ∷ decimal a ∷ decimal b ∷ [])

-- `G,k,word`, or nothing where the code is no word's; the names are the schemes'
unfoldable pub variable_text : List (List ℕ) → ℕ → ℕ → List ℕ
variable_text names k code = cond (ltb code 9) (line (bytes "G" ∷ decimal k ∷ qualifier_word names code ∷ [])) []

-- `P,p,word,shape` or `E,i,word,shape`
unfoldable pub slot_text : List (List ℕ) → ℕ → ℕ → ℕ → ℕ → List ℕ
slot_text names tag i code shape = line ((tag ∷ []) ∷ decimal i ∷ qualifier_word names code ∷ shape_word (shape_of_code shape) ∷ [])

-- The same, with the codes from lists.
abbrev pub variable_at : List (List ℕ) → List ℕ → ℕ → List ℕ
variable_at names variables k = variable_text names k (get_or variables k 9)

abbrev pub slot_at : List (List ℕ) → ℕ → List ℕ → List ℕ → ℕ → List ℕ
slot_at names tag codes shapes i = slot_text names tag i (get_or codes i 0) (get_or shapes i 0)
