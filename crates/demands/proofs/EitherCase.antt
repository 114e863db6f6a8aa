-- Lines that differ in the case of words alone enter the same, so that lists of calls and texts with such lines are answered alike.
use Prim.Native.Nat.{ℕ, ◌+◌, ◌≤◌}
use native.Mathlib.Omega.{arith}
use mathlib.Core.Bool.{Bool, true, false, cond}
use mathlib.Core.List.{List, [], ◌∷◌, map}
use mathlib.Core.Path.{◌≡◌, refl, sym, ap, ap₂, subst, ◌∙◌}
use lib.Dec.{eqb, leb}
use lib.ListN.{length, length-map, get_or}
use Rattle.std.specs.Prelude.{Some}
use Rattle.scheme.specs.Schemes.{SchemeTable, Sound}
use Rattle.model.specs.Lists.{bytes}
use Rattle.model.specs.Number.{number_of}
use Rattle.model.specs.Word.{qualifier_words, capitals, spells, or_else, word_of, qualifier_of, scheme_of, operation_of}
use Rattle.model.specs.Line.{fields, field, floor, choose, exactly, int_line, any_line, arrow_line, param_line, lam_line, app_line, op_line, var_line, num_line, enc_line, type_line, leaf_line, term_line, line_of}
use Rattle.model.specs.Machine.{Machine, Change, fresh_machine, entered, added}
use Rattle.model.specs.Session.{Call, add, Outcome, returning, Answers, adds, Session, done}
use Rattle.model.specs.Text.{lines_of, Load, stopped, load_from, Prints, Returns}
use Rattle.model.specs.declared.Line.TheVariants.{NoForm}
use Rattle.model.proofs.Lists.{same_other}
use Rattle.model.proofs.Keeps.{answers_keep}
use Rattle.model.proofs.Answers.{answers_same}
use Rattle.model.proofs.Capitals.{capitals_length, fields_capitals, field_capitals, read_alike, spells_capitals, word_capitals, scheme_capitals, operation_capitals, number_capitals}
use Rattle.tokens.proofs.Bounds.{word_below, variable_cases, qualifier_cases}
use Rattle.text.proofs.Front.{prints_loaded, returns_loaded}
use Rattle.demands.specs.Traces.{calls_of, outcomes_of}
use Rattle.demands.specs.InTurn.{InTurn, none, next}
use Rattle.demands.specs.EitherCase.{SameButCase, SameCallButCase, same_call, both_add}

module _ (names : List (List ℕ)) {s t : List ℕ} (alike : SameButCase s t) where
  parts : map capitals (fields s) ≡ map capitals (fields t)
  parts = sym (fields_capitals s) ∙ ap fields alike.same_capitals ∙ fields_capitals t

  long : length s ≡ length t
  long = sym (capitals_length s) ∙ ap length alike.same_capitals ∙ capitals_length t

  count : length (fields s) ≡ length (fields t)
  count = sym (length-map (fields s) capitals) ∙ ap length parts ∙ length-map (fields t) capitals

  letters : (k : ℕ) → capitals (field s k) ≡ capitals (field t k)
  letters k = sym (field_capitals (fields s) k) ∙ ap (λ (fs : List (List ℕ)). get_or fs k []) parts ∙ field_capitals (fields t) k

  -- What is read of field k.
  numbers : (most k : ℕ) → number_of most (field s k) ≡ number_of most (field t k)
  numbers most k = read_alike (number_of most) (number_capitals most) (letters k)

  words : (k : ℕ) → word_of names (field s k) ≡ word_of names (field t k)
  words k = read_alike (word_of names) (word_capitals names) (letters k)

  qualifiers : (k : ℕ) → qualifier_of names (field s k) ≡ qualifier_of names (field t k)
  unfolding qualifier_of
  qualifiers k = ap₂ or_else (words k) (alike.same_variables (length (qualifier_words names)) k)

  schemes : (k : ℕ) → scheme_of names (field s k) ≡ scheme_of names (field t k)
  schemes k = read_alike (scheme_of names) (scheme_capitals names) (letters k)

  operations : (k : ℕ) → operation_of (field s k) ≡ operation_of (field t k)
  operations k = read_alike operation_of operation_capitals (letters k)

  kinds : (k : ℕ) (word : List ℕ) → spells (field s k) word ≡ spells (field t k) word
  kinds k word = read_alike (λ f. spells f word) (λ f. spells_capitals f word) (letters k)

  floors : floor names s ≡ floor names t
  unfolding floor
  floors = simp (count, words 4)

  pub lines_alike : line_of names s ≡ line_of names t
  unfolding line_of type_line leaf_line term_line int_line any_line arrow_line param_line lam_line app_line op_line var_line num_line enc_line exactly
  lines_alike = simp (long, alike.same_tag, kinds, count, numbers, qualifiers, floors, schemes, operations)

-- So they are added alike.
added_alike : (m : Machine) {s t : List ℕ} → SameButCase s t → added m s ≡ added m t
unfolding added
added_alike m alike = ap (entered m) (lines_alike m.schemes.names alike)

add_alike : (m : Machine) (s t : List ℕ) {o : Outcome} {after : Machine} → SameButCase s t → Answers m (add s) o after → Answers m (add t) o after
add_alike m s t alike adds = subst (λ (change : Change). Answers m (add t) (returning change.number) change.machine) (sym (added_alike m alike)) adds

answers_alike : {m after : Machine} {call call' : Call} {o : Outcome} → SameCallButCase call call' → Answers m call o after → Answers m call' o after
answers_alike same_call a = a
answers_alike {m} (both_add {s} {t} alike) a = add_alike m s t alike a

pub session_alike : {m : Machine} → Sound m.schemes → (trace trace' : List (Call × Outcome)) →
    InTurn SameCallButCase (calls_of trace) (calls_of trace') → Session m trace → Session m trace' → outcomes_of trace ≡ outcomes_of trace'
session_alike sound [] [] none done done = refl
session_alike {m = m} sound [] (_ ∷ rest') x8 _ _ = elim x8 [ ]
session_alike {m = m} sound ((call, o) ∷ rest) [] x12 _ _ = elim x12 [ ]
session_alike {m} sound ((call, o) ∷ rest) ((call', o') ∷ rest') (next alike more) (Session.next {after} a steps) (Session.next a' steps') =
    let same = answers_same sound (answers_alike alike a) a' in
    ap₂ ◌∷◌ same.0 (session_alike {m = after} (subst Sound (sym (answers_keep m a)) sound) rest rest' more steps (subst (λ (m : Machine). Session m rest') (sym same.1) steps'))

-- And loaded alike.
loads_alike : (m : Machine) (n : ℕ) {lines lines' : List (List ℕ)} → InTurn SameButCase lines lines' → load_from m n lines ≡ load_from m n lines'
unfolding load_from
loads_alike m n none = refl
loads_alike m n (next {x = s} {x' = t} {xs = rest} alike more) =
    ap (λ (change : Change). cond (eqb change.number 0) (load_from change.machine (n + 1) rest) (stopped change.number n)) (added_alike m alike)
    ∙ ap (λ (later : Load). cond (eqb (added m t).number 0) later (stopped (added m t).number n)) (loads_alike (added m t).machine (n + 1) more)

module _ {T : SchemeTable} {text text' : List ℕ} (alike : InTurn SameButCase (lines_of text) (lines_of text')) where
  pub prints_alike : {out : List ℕ} → Prints T text out → Prints T text' out
  prints_alike = prints_loaded (loads_alike (fresh_machine T) 1 alike)

  pub returns_alike : {buffer b : List ℕ} {n : ℕ} → Returns T text buffer n b → Returns T text' buffer n b
  returns_alike = returns_loaded (loads_alike (fresh_machine T) 1 alike)

-- A tag is the letter itself, and a variable begins with `g` itself.
pub other_tag : (names : List (List ℕ)) (s : List ℕ) → ¬ (field s 0 ≡ bytes "T") → ¬ (field s 0 ≡ bytes "P") → ¬ (field s 0 ≡ bytes "E") → line_of names s ≡ NoForm
unfolding line_of choose
other_tag names s t p e =
    simp (← same_other (field s 0) (bytes "T") t, ← same_other (field s 0) (bytes "P") p, ← same_other (field s 0) (bytes "E") e) (either (leb (length s) 64))
  where
    either : (short : Bool) → cond short NoForm NoForm ≡ NoForm
    either true = refl
    either false = refl

pub variable_letter : (names : List (List ℕ)) (s : List ℕ) (c : ℕ) → qualifier_of names s ≡ Some c → length (qualifier_words names) ≤ c → get_or s 0 0 ≡ 103
variable_letter names s c read above =
    qualifier_cases names s c read
    (λ word. absurd (omega (arith, word_below names s c word)))
    (λ variable. variable_cases (length (qualifier_words names)) s c variable (λ digits k begins number code. ap (λ (s : List ℕ). get_or s 0 0) begins))
