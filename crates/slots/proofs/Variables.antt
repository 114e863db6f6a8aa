-- Filling the variables of one code after the other.
use Prim.Native.Nat.{ℕ, zero, suc, ◌+◌, ◌-◌, ◌<◌}
use native.Mathlib.Omega.{arith}
use native.Mathlib.Decide.{dec_lt}
use native.Mathlib.Numerals.{add-one}
use mathlib.Core.Bool.{Bool, true, false, cond, ◌||◌, or-false, or_assoc}
use mathlib.Core.List.{List, [], ◌∷◌}
use mathlib.Core.Path.{◌≡◌, refl, sym}
use lib.Dec.{eqb}
use lib.ListN.{length, get_or, take, set}
use lib.Seq.{get_or-set_same, get_or-set_other}
use borrow.Author.Tests.{eqb-true, eqb-false, ne_eqb}
use Rattle.model.specs.Lists.{any_of}
use Rattle.scheme.specs.Codes.{stands_for}
use Rattle.scheme.specs.declared.Standing.TheVariants.{Word, Variable, Nothing}
use Rattle.scheme.proofs.Codes.{stands_word, stands_variable, stands_nothing}
use Rattle.slots.specs.Filling.{VariablesFilled}

-- A test over one element more.
any_of_suc : {A : Type 0} (test : A → Bool) (l : List A) (i : ℕ) (d : A) → i < length l →
    any_of test (take (suc i) l) ≡ (any_of test (take i l) || test (get_or l i d))
any_of_suc test [] i d h = let z : ⊥ = omega arith in absurd z
any_of_suc test (x ∷ l) zero d h = or-false (test x)
any_of_suc test (x ∷ l) (suc i) d h = rw (any_of_suc test l i d (omega arith)) (sym (or_assoc (test x) (any_of test (take i l)) (test (get_or l i d))))

-- An entry that is filled by one test and then by another.
twice : (f g : Bool) (word a b c : ℕ) → b ≡ cond f word a → c ≡ cond g word b → c ≡ cond (f || g) word a
twice true true word a b c p q = q
twice true false word a b c p q = cc
twice false true word a b c p q = q
twice false false word a b c p q = cc

-- A variable's code, from what it stands for; a word's code and any other are no variable's.
module _ (first code : ℕ) where
  pub variable_code_lem : (k : ℕ) → stands_for first code ≡ Variable k → (k < 64) × (code ≡ k + first)
  variable_code_lem k e = go (dec_lt code first) (dec_lt (code - first) 64)
    where
      go : Dec (code < first) → Dec (code - first < 64) → (k < 64) × (code ≡ k + first)
      go (yes word) _ = let z : ◌≡◌ {A = ℕ} 0 1 = cc (stands_word first code word) in absurd (omega arith)
      go (no past) (yes below) = let same : code - first ≡ k = cc (stands_variable first code (omega arith) below) in (omega arith, omega arith)
      go (no past) (no above) = let z : ◌≡◌ {A = ℕ} 0 1 = cc (stands_nothing first code (omega arith) (omega arith)) in absurd (omega arith)

  module _ (k : ℕ) (h : k < 64) (e : k + first ≡ code) where
    pub word_unnamed : (w : ℕ) → stands_for first code ≡ Word w → ⊥
    word_unnamed w is = let z : ◌≡◌ {A = ℕ} 0 1 = cc (stands_variable first code (omega arith) (omega arith)) in omega arith

    pub nothing_unnamed : stands_for first code ≡ Nothing → ⊥
    nothing_unnamed is = let z : ◌≡◌ {A = ℕ} 0 1 = cc (stands_variable first code (omega arith) (omega arith)) in omega arith

module _ (first : ℕ) (words : List ℕ) where
  -- A code that names no variable.
  pub unnamed : (code : ℕ) (l : List ℕ) → ((k : ℕ) → k < 64 → k + first ≡ code → ⊥) → VariablesFilled first (λ c. eqb c code) words l l
  unnamed code l none = record { entries = λ k h. rw (ne_eqb (k + first) code (none k h)) }

  -- A code that names one.
  pub one_filled : (code j : ℕ) {l l' : List ℕ} → code ≡ j + first → j < length l → l' ≡ set l j (get_or words (j + first) 0) →
      VariablesFilled first (λ c. eqb c code) words l l'
  one_filled code j {l} {l'} is within stored = record { entries = λ k h. rw stored (go k (eqb (k + first) code) refl) }
    where
      go : (k : ℕ) (b : Bool) → eqb (k + first) code ≡ b → get_or (set l j (get_or words (j + first) 0)) k 9 ≡ cond b (get_or words (k + first) 0) (get_or l k 9)
      go k true e =
          let same : j ≡ k = omega (arith, eqb-true (k + first) code e) in
          rw same (get_or-set_same l k (get_or words (k + first) 0) 9 (omega arith))
      go k false e = get_or-set_other l j k (get_or words (j + first) 0) 9 (λ same. eqb-false (k + first) code e (omega arith))

  pub both_filled : {f g : ℕ → Bool} {a b c : List ℕ} → VariablesFilled first f words a b → VariablesFilled first g words b c →
      VariablesFilled first (λ x. f x || g x) words a c
  both_filled {f} {g} p q = record { entries = λ k h. twice (f (k + first)) (g (k + first)) _ _ _ _ (p.entries k h) (q.entries k h) }

  -- One row more of a list.
  pub more_filled : {A : Type 0} (test : ℕ → A → Bool) (rows : List A) (i : ℕ) (d : A) {a b c : List ℕ} → i < length rows →
      VariablesFilled first (λ x. any_of (test x) (take i rows)) words a b →
      VariablesFilled first (λ x. test x (get_or rows i d)) words b c →
      VariablesFilled first (λ x. any_of (test x) (take (i + 1) rows)) words a c
  more_filled test rows i d h p q =
      record { entries = λ k below. rw (add-one, any_of_suc (test (k + first)) rows i d h) ((both_filled p q).entries k below) }
