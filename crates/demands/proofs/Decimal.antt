-- Numbers as they are written hold digits alone and are read back, so that two lines of numbers that are the same have the same numbers.
use Prim.Native.Nat.{ℕ, ◌+◌}
use native.Mathlib.Omega.{arith}
use mathlib.Core.Bool.{true, false, false≢true}
use mathlib.Core.List.{List, [], ◌∷◌, ◌++◌, append_assoc}
use mathlib.Core.Path.{◌≡◌, refl, sym, ap, ◌∙◌}
use lib.ListN.{length}
use Rattle.std.specs.Prelude.{Some}
use Rattle.scheme.proofs.Every.{and_left, and_right}
use Rattle.model.specs.Lists.{all_of, bytes}
use Rattle.model.specs.Number.{is_digit, number_of, decimal}
use Rattle.model.specs.Machine.{Machine}
use Rattle.model.specs.Inference.{Slot, Shape}
use Rattle.model.specs.Report.{line, lines, variable_line, param_line, row_line, report}
use Rattle.model.proofs.Numerals.{number_numeral}
use Rattle.tokens.proofs.RoundTrip.{number_of_decimal}

pub number_digits : (most n : ℕ) (s : List ℕ) → number_of most s ≡ Some n → all_of is_digit s ≡ true
number_digits most n s e = (number_numeral most s n e).0.all_digits

pub decimal-digits : (n : ℕ) → all_of is_digit (decimal n) ≡ true
decimal-digits n = number_digits n n (decimal n) (number_of_decimal n n (omega arith))

decimal_same : (a b : ℕ) → decimal a ≡ decimal b → a ≡ b
decimal_same a b e =
    let read = number_of_decimal (a + b) a (omega arith) in
    let read' = number_of_decimal (a + b) b (omega arith) in
    cc

-- Digits up to a byte that is none.
parted : (xs ys : List ℕ) (c : ℕ) (rest rest' : List ℕ) → all_of is_digit xs ≡ true → all_of is_digit ys ≡ true → is_digit c ≡ false →
    xs ++ (c ∷ rest) ≡ ys ++ (c ∷ rest') → (xs ≡ ys) × (rest ≡ rest')
parted [] [] c rest rest' d d' h e = (refl, cc)
parted [] (y ∷ ys) c rest rest' d d' h e =
    let same : c ≡ y = cc in
    absurd (false≢true (sym h ∙ ap is_digit same ∙ and_left (is_digit y) (all_of is_digit ys) d'))
parted (x ∷ xs) [] c rest rest' d d' h e =
    let same : c ≡ x = cc in
    absurd (false≢true (sym h ∙ ap is_digit same ∙ and_left (is_digit x) (all_of is_digit xs) d))
parted (x ∷ xs) (y ∷ ys) c rest rest' d d' h e =
    let later = parted xs ys c rest rest' (and_right (is_digit x) (all_of is_digit xs) d) (and_right (is_digit y) (all_of is_digit ys) d') h (cc) in
    let same : x ≡ y = cc in
    (cc later.0, later.1)

-- The line that counts parameters and rows.
abbrev counting : ℕ → ℕ → List ℕ
counting a b = line (bytes "OK" ∷ decimal a ∷ decimal b ∷ [])

written : (a b : ℕ) (rest : List ℕ) → counting a b ++ rest ≡ bytes "OK," ++ (decimal a ++ (44 ∷ (decimal b ++ (10 ∷ rest))))
unfolding line
written a b rest = simp append_assoc

counts_same : (a b a' b' : ℕ) (rest rest' : List ℕ) → counting a b ++ rest ≡ counting a' b' ++ rest' → (a ≡ a') × (b ≡ b')
counts_same a b a' b' rest rest' e =
    let same = sym (written a b rest) ∙ e ∙ written a' b' rest' in
    let first = parted (decimal a) (decimal a') 44 (decimal b ++ (10 ∷ rest)) (decimal b' ++ (10 ∷ rest')) (decimal-digits a) (decimal-digits a') refl (cc) in
    let second = parted (decimal b) (decimal b') 10 rest rest' (decimal-digits b) (decimal-digits b') refl first.1 in
    (decimal_same a a' first.0, decimal_same b b' second.0)

-- A report begins with the line that counts the machine's parameters and rows.
report_begins : (m : Machine) (word : Slot → ℕ) (shape : Slot → Shape) (rest : List ℕ) →
    (more : List ℕ) × (report m word shape ++ rest ≡ counting (length m.params) (length m.terms) ++ more)
unfolding report
report_begins m word shape rest = (
  lines (variable_line m word shape) 0 64 ++ (lines (param_line m word shape) 0 (length m.params) ++ (lines (row_line m word shape) 0 (length m.terms) ++ rest)),
  simp append_assoc,
)

pub report_counts : (m : Machine) (word : Slot → ℕ) (shape : Slot → Shape) (a b : ℕ) (beyond rest : List ℕ) →
    report m word shape ++ beyond ≡ line (bytes "OK" ∷ decimal a ∷ decimal b ∷ []) ++ rest → (a ≡ length m.params) × (b ≡ length m.terms)
report_counts m word shape a b beyond rest e =
    let (more, front) = report_begins m word shape beyond in
    counts_same a b _ _ rest more (sym e ∙ front)
