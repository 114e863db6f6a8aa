-- Values stored at some places, and marks of the numbers that rows name: one row more, whose own numbers are marked.
use Prim.Native.Nat.{ℕ, zero, suc, ◌≤◌, ◌<◌}
use native.Mathlib.Omega.{arith}
use mathlib.Core.Bool.{Bool, true, false, not, ◌&&◌, ◌||◌, or-true, or-false, or_assoc, false≢true}
use mathlib.Core.List.{List, [], ◌∷◌, ◌++◌}
use mathlib.Core.Path.{◌≡◌, refl, sym, ap, ap₂, ◌∙◌}
use lib.Dec.{eqb, ltb}
use lib.ListN.{length, get_or, set, replicate, length-set}
use lib.Seq.{get_or-set_same, get_or-set_other}
use borrow.Author.Tests.{eqb-true, eqb-false, lt-ltb, ltb-true}
use Rattle.scheme.proofs.Every.{and_left, and_right, and_both}
use Rattle.model.specs.Lists.{any_of, all_of, contains}
use Rattle.model.specs.Machine.{Machine, children, named, binds, used, bound, twice}
use Rattle.model.specs.declared.Term.{Term}
use Rattle.model.specs.declared.Term.TheVariants.{Lam, App, Op, Var, Num, Enc}
use Rattle.model.specs.declared.TermRow.{TermRow}
use Rattle.checks.specs.Standing.{Free}
use Rattle.checks.specs.Taken.{Tells}
use Rattle.checks.specs.Marks.{is_marked, stores, Marking, Marked, Within}
use Rattle.checks.specs.declared.marks.Marks.{Marks}
use Rattle.checks.proofs.Tests.{or_cases, or_neither}
use Rattle.checks.proofs.Passed.{TermPassed}

-- One value stored at each of some places.
module _ {A : Type 0} where
  pub length_stores : (cs : List ℕ) (a : A) (l : List A) → length (stores cs a l) ≡ length l
  length_stores [] a l = refl
  length_stores (c ∷ cs) a l = length_stores cs a (set l c a) ∙ length-set l c a

  pub stored_other : (cs : List ℕ) (a : A) (k : ℕ) (l : List A) (d : A) → contains k cs ≡ false → get_or (stores cs a l) k d ≡ get_or l k d
  stored_other [] a k l d h = refl
  stored_other (c ∷ cs) a k l d h =
      let neither = or_neither (eqb k c) (contains k cs) h in
      stored_other cs a k (set l c a) d neither.1 ∙ get_or-set_other l c k a d (eqb-false k c neither.0)

  pub stored_there : (cs : List ℕ) (a : A) (k : ℕ) (l : List A) (d : A) → k < length l → contains k cs ≡ true → get_or (stores cs a l) k d ≡ a
  stored_there [] a k l d within h = absurd (false≢true h)
  stored_there (c ∷ cs) a k l d within h = go (contains k cs) refl (stored_there cs a k (set l c a) d (rw length-set within))
    where
      go : (b : Bool) → contains k cs ≡ b → (contains k cs ≡ true → get_or (stores cs a (set l c a)) k d ≡ a) → get_or (stores cs a (set l c a)) k d ≡ a
      go true later rest = rest later
      go false none rest =
          or_cases (eqb k c) (contains k cs) h
          (λ here.
          let same : c ≡ k = sym (eqb-true k c here) in
          stored_other cs a k (set l c a) d none ∙ rw same (get_or-set_same l k a d within))
          rest

-- One value at every place.
pub repeated : {A : Type 0} (n k : ℕ) (a : A) → get_or (replicate n a) k a ≡ a
repeated zero k a = refl
repeated (suc n) zero a = refl
repeated (suc n) (suc k) a = repeated n k a

-- A test of each entry, of one more, and a test that finds the same.
any_appended : {A : Type 0} (test : A → Bool) (xs : List A) (a : A) → any_of test (xs ++ (a ∷ [])) ≡ (any_of test xs || test a)
any_appended test [] a = or-false (test a)
any_appended test (x ∷ xs) a = rw (any_appended test xs a) (sym (or_assoc (test x) (any_of test xs) (test a)))

any_same : (test test' : ℕ → Bool) → ((n : ℕ) → test n ≡ test' n) → (l : List ℕ) → any_of test l ≡ any_of test' l
any_same test test' same [] = refl
any_same test test' same (n ∷ l) = ap₂ (λ (a b : Bool). a || b) (same n) (any_same test test' same l)

pub all-below : (k n : ℕ) (l : List ℕ) → all_of (λ c. ltb c k) l ≡ true → contains n l ≡ true → n < k
all-below k n [] h there = absurd (false≢true there)
all-below k n (c ∷ l) h there =
    or_cases (eqb n c) (contains n l) there
    (λ here. rw (eqb-true n c here) (ltb-true c k (and_left _ _ h)))
    (λ later. all-below k n l (and_right (ltb c k) _ h) later)

-- One row more, where there is a mark for each of its numbers.
marks_more : (names : Term → List ℕ) (rows : List TermRow) (term : Term) (marks : List Bool) (k : ℕ) → length marks ≡ k → Marking names rows marks →
    all_of (λ n. ltb n k) (names term) ≡ true → Marking names (rows ++ (record { term = term } ∷ [])) (stores (names term) true marks)
marks_more names rows term marks k whole marked within n = go (contains n (names term)) refl
  where
    appended : any_of (λ row. contains n (names row.term)) (rows ++ (record { term = term } ∷ [])) ≡ (any_of (λ row. contains n (names row.term)) rows || contains n (names term))
    appended = any_appended (λ row. contains n (names row.term)) rows (record { term = term })

    go : (b : Bool) → contains n (names term) ≡ b → is_marked (stores (names term) true marks) n ≡ any_of (λ row. contains n (names row.term)) (rows ++ (record { term = term } ∷ []))
    go true there =
        let below : n < length marks = rw whole (all-below k n (names term) within there) in
        stored_there (names term) true n marks false below there ∙ sym (appended ∙ rw there (or-true (any_of (λ row. contains n (names row.term)) rows)))
    go false none = stored_other (names term) true n marks false none ∙ marked n ∙ sym (appended ∙ rw none (or-false (any_of (λ row. contains n (names row.term)) rows)))

pub marked_more : (rows : List TermRow) (term : Term) (marks : Marks) → Marked rows marks → Within term →
    Marked (rows ++ (record { term = term } ∷ [])) (record { used = stores (children term) true marks.used; bound = stores (binds term) true marks.bound })
marked_more rows term marks marked within =
    record {
      rows_whole = length_stores (children term) true marks.used ∙ marked.rows_whole;
      params_whole = length_stores (binds term) true marks.bound ∙ marked.params_whole;
      children_marked = marks_more children rows term marks.used 256 marked.rows_whole marked.children_marked within.children_within;
      binders_marked = marks_more binds rows term marks.bound 64 marked.params_whole marked.binders_marked within.binder_within;
    }

-- Before the first row nothing is marked.
pub marked_none : Marked [] (record { used = replicate 256 false; bound = replicate 64 false })
marked_none =
    record {
      rows_whole = refl;
      params_whole = refl;
      children_marked = λ n. repeated 256 n false;
      binders_marked = λ n. repeated 64 n false;
    }

-- There are marks for the numbers of a row that was accepted.
all_below_more : (k k' : ℕ) → k ≤ k' → (l : List ℕ) → all_of (λ n. ltb n k) l ≡ true → all_of (λ n. ltb n k') l ≡ true
all_below_more k k' more [] h = refl
all_below_more k k' more (n ∷ l) h =
    let below : n < k = ltb-true n k (and_left _ _ h) in
    and_both (ltb n k') _ (lt-ltb n k' (omega arith)) (all_below_more k k' more l (and_right (ltb n k) _ h))

bound_named : (term : Term) (k : ℕ) → all_of (λ p. ltb p k) (named term) ≡ true → all_of (λ p. ltb p k) (binds term) ≡ true
bound_named (Lam p b) k h = h
bound_named (App f a) k h = refl
bound_named (Op o l r) k h = refl
bound_named (Var p) k h = refl
bound_named (Num n) k h = refl
bound_named (Enc s n) k h = refl

pub passed_within : (m : Machine) (own : ℕ) (term : Term) → length m.params ≤ 64 → TermPassed m own term → Within term
passed_within m own term few passed =
    record {
      children_within = all_below_more own 256 (omega (arith, passed.next, passed.room)) (children term) passed.below;
      binder_within = all_below_more (length m.params) 64 few (binds term) (bound_named term _ passed.declared);
    }

-- A test of the marks tells what the rows tell.
pub marks_tell : (names : Term → List ℕ) (rows : List TermRow) (marks : List Bool) → Marking names rows marks → {finds : ℕ → Bool → Type 0} → Tells finds (is_marked marks) →
    Tells finds (λ n. any_of (λ row. contains n (names row.term)) rows)
marks_tell names rows marks marked tells n found asked = tells n found asked ∙ marked n

-- What the marks say of a term row is what the rows say.
pub free_by_marks : (m : Machine) (term : Term) (marks : Marks) (free free' : Bool) → Marked m.terms marks →
    free ≡ (not (any_of (is_marked marks.used) (children term)) && not (twice (children term))) → free' ≡ not (any_of (is_marked marks.bound) (binds term)) → Free m term free free'
free_by_marks m term marks free free' marked seven eight =
    record {
      seven = seven ∙ ap (λ (found : Bool). not found && not (twice (children term))) (any_same (is_marked marks.used) (used m.terms) marked.children_marked (children term));
      eight = eight ∙ ap not (any_same (is_marked marks.bound) (bound m.terms) marked.binders_marked (binds term));
    }

-- The first and the second of numbers that are all below one.
module _ (k : ℕ) {l : List ℕ} (all : all_of (λ n. ltb n k) l ≡ true) where
  pub first_within : {a : ℕ} {rest : List ℕ} → l ≡ a ∷ rest → a < k
  first_within {a} {rest} e = ltb-true a k (and_left _ _ (sym (ap (all_of (λ n. ltb n k)) e) ∙ all))

  pub second_within : {a b : ℕ} {rest : List ℕ} → l ≡ a ∷ b ∷ rest → b < k
  second_within {a} {b} {rest} e = ltb-true b k (and_left _ _ (and_right (ltb a k) _ (sym (ap (all_of (λ n. ltb n k)) e) ∙ all)))

-- What is stored at the numbers of a term that is known.
pub names_stored : {term known : Term} (u b : List Bool) → term ≡ known → (stores (children known) true u ≡ stores (children term) true u) × (stores (binds known) true b ≡ stores (binds term) true b)
names_stored u b e = (ap (λ (t : Term). stores (children t) true u) (sym e), ap (λ (t : Term). stores (binds t) true b) (sym e))
