-- What inference answers of a machine, said by typings alone.
-- Document 01, "Typings" and "The report"; document 02, a).
use Rattle.std.specs.Prelude.{ℕ, ◌+◌, ◌<◌, Bool, true, ◌||◌, List, [], ◌∷◌, ◌≡◌, eqb, length}
use Rattle.model.specs.Lists.{any_of, contains}
use Rattle.model.specs.Machine.{Machine, param_at}
use Rattle.model.specs.Closed.{Closed}
use Rattle.model.specs.Typing.{Ty, Assignment, Typing, Typable}
use Rattle.model.specs.Strength.{Schemes, whole, unordered, erased, schemes_of}
use Rattle.model.specs.declared.TypeForm.{TypeForm}
use Rattle.model.specs.declared.TypeForm.TheVariants.{Int, Any, Arrow}

-- The schemes of the machine's table, which rule its typings.
abbrev pub ruling : Machine → Schemes
ruling m = schemes_of m.schemes

-- "it is 21 if none exists even when all qualifiers are ignored; else 22 if none exists even when "at or below" in OP is dropped; else 23"
pub data Cause (S : Schemes) (m : Machine) (k : ℕ) : ℕ → Type 0 where
  shapes : ¬ Typable (erased S) m k → Cause S m k 21
  qualifiers : Typable (erased S) m k → ¬ Typable (unordered S) m k → Cause S m k 22
  bounds : Typable (unordered S) m k → Cause S m k 23

-- "Refusal names the least row k for which the lines T and P and rows 0 to k have no typing. For those rows it is .."
pub record Refusal (S : Schemes) (m : Machine) (number k : ℕ) : Type 0 where
  pub in_list : k < length m.terms
  pub before : (j : ℕ) → j < k → Typable (whole S) m (j + 1)
  pub none : ¬ Typable (whole S) m (k + 1)
  pub cause : Cause S m (k + 1) number

-- "A slot is one of these variables, a parameter or a term row."
pub data Slot : Type 0 where
  variable : ℕ → Slot
  param : ℕ → Slot
  row : ℕ → Slot

-- The qualifiers' codes in a T line.
abbrev pub codes : TypeForm → List ℕ
codes Int = []
codes Any = []
codes (Arrow q t q' t') = q ∷ q' ∷ []

-- "in any T line or in the present qualifier of any parameter"
abbrev pub mentions : Machine → ℕ → Bool
mentions m c = any_of (λ row. contains c (codes row.form)) m.types || any_of (λ param. eqb c param.qualifier) m.params

-- The slots of the report.
abbrev pub Listed : Schemes → Machine → Slot → Type 0
Listed S m (variable k) = (k < 64) × (mentions m (k + S.words) ≡ true)
Listed S m (param p) = p < length m.params
Listed S m (row i) = i < length m.terms

-- What an assignment gives a slot. A variable has no type: INT stands for it, and no shape of it is reported.
abbrev pub slot_qualifier : {Q : Type 0} → Assignment Q → Slot → Q
slot_qualifier s (variable k) = s.variable k
slot_qualifier s (param p) = (s.param p).qualifier
slot_qualifier s (row i) = (s.row i).qualifier

abbrev pub type_of : {Q : Type 0} → Assignment Q → Slot → Ty Q
type_of s (variable k) = Ty.int
type_of s (param p) = (s.param p).type
type_of s (row i) = (s.row i).type

pub data IsInt {Q : Type 0} : Ty Q → Type 0 where
  is_int : IsInt Ty.int

pub data IsArrow {Q : Type 0} : Ty Q → Type 0 where
  is_arrow : {q : Q} {t : Ty Q} {q' : Q} {t' : Ty Q} → IsArrow (Ty.arrow q t q' t')

pub data Shape : Type 0 where
  int arrow any : Shape

-- The typings of the program.
abbrev pub Types : (S : Schemes) → Machine → Assignment S.Q → Type 0
Types S m s = Typing (whole S) m (length m.terms) s

-- "Shape is INT or ARROW where every typing has that; ANY where some typing has INT and another an arrow."
abbrev pub ShapeSays : (S : Schemes) → Machine → Slot → Shape → Type 0
ShapeSays S m x Shape.int = (s : Assignment S.Q) → Types S m s → IsInt (type_of s x)
ShapeSays S m x Shape.arrow = (s : Assignment S.Q) → Types S m s → IsArrow (type_of s x)
ShapeSays S m x Shape.any =
    ((s : Assignment S.Q) × Types S m s × IsInt (type_of s x)) × ((s : Assignment S.Q) × Types S m s × IsArrow (type_of s x))

-- The words and shapes that the typings of a program give: "the greatest qualifier that a typing of the program gives".
pub record GreatestTyping (S : Schemes) (m : Machine) (word : Slot → ℕ) (shape : Slot → Shape) : Type 0 where
  -- each word is one of the qualifiers' words
  pub worded : (x : Slot) → Listed S m x → word x < S.words
  -- "every typing has there one at or below it"
  pub greatest : (s : Assignment S.Q) → Types S m s → (x : Slot) → Listed S m x → S.AtOrBelow (slot_qualifier s x) (S.word (word x))
  pub shaped : (x : Slot) → Listed S m x → ShapeSays S m x (shape x)
  -- "The words with ANY taken as INT complete to a typing."
  pub together : (s : Assignment S.Q)
      × Types S m s
      × ((x : Slot) → Listed S m x → slot_qualifier s x ≡ S.word (word x))
      × ((x : Slot) → Listed S m x → shape x ≡ Shape.any → IsInt (type_of s x))

-- Document 02, a): a scheme of parameter p is "at or above the floor". Floors are no part of a typing.
abbrev pub MeetsFloor : (S : Schemes) → Machine → ℕ → S.Q → Type 0
MeetsFloor S m p q = S.AtOrBelow (S.word (param_at m p).floor) q

-- "the scheme meant is the one that the greatest typing gives": the parameter's word.
abbrev pub WordMeetsFloor : Schemes → Machine → (Slot → ℕ) → ℕ → Type 0
WordMeetsFloor S m word p = MeetsFloor S m p (S.word (word (param p)))

-- "the greatest typing meets every floor"
abbrev pub FloorsMet : Schemes → Machine → (Slot → ℕ) → Type 0
FloorsMet S m word = (p : ℕ) → p < length m.params → WordMeetsFloor S m word p

-- "the lowest such parameter's number": the first whose reported scheme "isn't at or above the floor".
pub record FloorMissed (S : Schemes) (m : Machine) (word : Slot → ℕ) (p : ℕ) : Type 0 where
  pub declared : p < length m.params
  pub before : (r : ℕ) → r < p → WordMeetsFloor S m word r
  pub missed : ¬ WordMeetsFloor S m word p

-- What is judged of a machine: "10, then 21 to 23", then 24 of document 02, a), else the words and shapes; with the row, or for 24 the
-- parameter, 0 outside 21 to 24.
pub data Judged (S : Schemes) (m : Machine) : ℕ → ℕ → (Slot → ℕ) → (Slot → Shape) → Type 0 where
  not_closed : {word : Slot → ℕ} {shape : Slot → Shape} → ¬ Closed m → Judged S m 10 0 word shape
  not_typable : {number k : ℕ} {word : Slot → ℕ} {shape : Slot → Shape} → Closed m → Refusal S m number k → Judged S m number k word shape
  -- "A program that has typings, but whose reported scheme for some parameter isn't at or above the floor, is turned down."
  below_floor : {p : ℕ} {word : Slot → ℕ} {shape : Slot → Shape} → Closed m → GreatestTyping S m word shape → FloorMissed S m word p → Judged S m 24 p word shape
  -- "otherwise it accepts exactly when the greatest typing meets every floor"
  typed : {word : Slot → ℕ} {shape : Slot → Shape} → Closed m → GreatestTyping S m word shape → FloorsMet S m word → Judged S m 0 0 word shape
