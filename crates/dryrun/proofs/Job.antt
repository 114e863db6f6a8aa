-- An accepted job is typed at the reported words and has no free parameter, so its run is sound.
use Prim.Native.Nat.{ℕ, zero, suc, ◌<◌}
use native.Mathlib.Omega.{arith}
use mathlib.Core.Bool.{true, ◌||◌}
use mathlib.Core.List.{List, [], ◌∷◌}
use mathlib.Core.Path.{◌≡◌, refl, subst, subst₂}
use lib.Dec.{eqb}
use lib.ListN.{length}
use borrow.Author.Tests.{eq-eqb}
use Rattle.scheme.specs.Schemes.{words}
use Rattle.model.specs.Lists.{contains}
use Rattle.model.specs.Machine.{Machine, term_at}
use Rattle.model.specs.Closed.{Closed}
use Rattle.model.specs.WellFormed.{WellFormed, TermStands}
use Rattle.model.specs.Strength.{Schemes, whole}
use Rattle.model.specs.Typing.{Ty, int, Assignment, RowMeets}
use Rattle.model.specs.Inference.{Slot, param, row, Shape, GreatestTyping, ShapeSays, IsInt, is_int}
use Rattle.model.specs.declared.Term.{Term}
use Rattle.model.specs.declared.Term.TheVariants.{Lam, App, Op, Var, Num, Enc}
use Rattle.model.proofs.Unique.{Lawful}
use Rattle.dryrun.specs.Expression.{Expression, number, apply, row_expression, unfolded, leading_of, leading_from, applied}
use Rattle.dryrun.specs.Run.{last_row, leading, job, NoArrow}
use Rattle.dryrun.proofs.Typed.{Typed, by_cases}
use Rattle.dryrun.proofs.Progress.{Sound}
use Rattle.dryrun.proofs.Scoped.{job_none_free}

is_int_int : {Q : Type 0} {τ : Ty Q} → IsInt τ → τ ≡ int
is_int_int is_int = refl

module _ (S : Schemes) (m : Machine) (w : WellFormed m) (word : Slot → ℕ) (shape : Slot → Shape) (a : GreatestTyping S m word shape) where
  -- The typing that has the reported words.
  abbrev s : Assignment S.Q
  s = a.together.0

  rows_meet : (i : ℕ) → i < length m.terms → RowMeets (whole S) s (term_at m i) (s.row i)
  rows_meet i h = a.together.1.follows.rows_meet i h h

  -- A row's expression is typed as its row.
  row_typed : (below : ℕ → Expression) (i : ℕ) → i < length m.terms → ((j : ℕ) → j < i → Typed S s (below j) (s.row j).qualifier (s.row j).type) → (t : Term) →
      TermStands (words m.schemes) (length m.params) i t → RowMeets (whole S) s t (s.row i) → Typed S s (row_expression below (word (row i)) t) (s.row i).qualifier (s.row i).type
  row_typed below i h ih (Lam p b) (hp, hb) (plain, same) = (plain, (s.row b).qualifier, (s.row b).type, ih b hb, same)
  row_typed below i h ih (App f x) (hf, hx) same =
      ((s.row f).qualifier, (s.row x).qualifier, (s.row x).type, subst (λ (τ : Ty S.Q). Typed S s (below f) (s.row f).qualifier τ) same (ih f hf), ih x hx)
  row_typed below i h ih (Op o l r) (ho, hl, hr) (el, er, same, fits, eq, et) = (
    (s.row l).qualifier,
    subst (λ (τ : Ty S.Q). Typed S s (below l) (s.row l).qualifier τ) el (ih l hl),
    subst₂ (λ (q : S.Q) (τ : Ty S.Q). Typed S s (below r) q τ) same er (ih r hr),
    fits,
    eq,
    et,
  )
  row_typed below i h ih (Var p) hp (eq, et) = (eq, et)
  row_typed below i h ih (Num n) stands et = (a.worded (row i) h, a.together.2 (row i) h, et)
  row_typed below i h ih (Enc e n) stands (eq, et) = (a.worded (row i) h, a.together.2 (row i) h, et)

  unfolded_typed : (depth i : ℕ) → i < depth → i < length m.terms → Typed S s (unfolded m word depth i) (s.row i).qualifier (s.row i).type
  unfolding unfolded
  unfolded_typed zero i h in_list = let z : ⊥ = omega arith in absurd z
  unfolded_typed (suc depth) i h in_list =
      row_typed (unfolded m word depth) i in_list (λ j below. unfolded_typed depth j (omega arith) (omega arith)) (term_at m i) (w.terms_stand i in_list) (rows_meet i in_list)

  -- A leading parameter that is no ARROW has the type INT: for ANY the report's typing has INT.
  leading_int : (p : ℕ) → p < length m.params → ¬ (shape (param p) ≡ Shape.arrow) → (s.param p).type ≡ int
  leading_int p h no_arrow = go (shape (param p)) refl
    where
      go : (x : Shape) → shape (param p) ≡ x → (s.param p).type ≡ int
      go Shape.int e = is_int_int (subst (λ (x : Shape). ShapeSays S m (param p) x) e (a.shaped (param p) h) s a.together.1)
      go Shape.arrow e = absurd (no_arrow e)
      go Shape.any e = is_int_int (a.together.3 (param p) h e)

  number_typed : (n p : ℕ) → p < length m.params → (s.param p).type ≡ int → Typed S s (number n (word (param p))) (s.param p).qualifier (s.param p).type
  number_typed n p h e = (a.worded (param p) h, a.together.2 (param p) h, e)

  -- Typed at some qualifier and type.
  abbrev HasType : Expression → Type 0
  HasType e = (q : S.Q) × (τ : Ty S.Q) × Typed S s e q τ

  module _ (numbered : (p : ℕ) → p < length m.params → contains p (leading m) ≡ true → (s.param p).type ≡ int) where
    leads_typed : (depth i : ℕ) → ((j : ℕ) → j < i → (e : Expression) (q : S.Q) → Typed S s e q (s.row j).type → (numbers : List ℕ) →
        ((p : ℕ) → contains p (leading_from m depth j) ≡ true → contains p (leading m) ≡ true) → HasType (applied word e (leading_from m depth j) numbers)) →
        (t : Term) → TermStands (words m.schemes) (length m.params) i t → RowMeets (whole S) s t (s.row i) → (e : Expression) (q : S.Q) → Typed S s e q (s.row i).type → (numbers : List ℕ) →
        ((p : ℕ) → contains p (leading_of (leading_from m depth) t) ≡ true → contains p (leading m) ≡ true) → HasType (applied word e (leading_of (leading_from m depth) t) numbers)
    unfolding applied
    leads_typed depth i ih (Lam p b) (hp, hb) (plain, same) e q te [] sub = (q, (s.row i).type, te)
    leads_typed depth i ih (Lam p b) (hp, hb) (plain, same) e q te (n ∷ numbers) sub =
        ih b hb (apply e (number n (word (param p)))) (s.row b).qualifier
        (q, (s.param p).qualifier, (s.param p).type, subst (λ (τ : Ty S.Q). Typed S s e q τ) same te, number_typed n p hp (numbered p hp (sub p (own p (leading_from m depth b)))))
        numbers
        (λ x h. sub x (more x p (leading_from m depth b) h))
      where
        own : (p : ℕ) (ps : List ℕ) → contains p (p ∷ ps) ≡ true
        own p ps = rw (eq-eqb p p refl)

        more : (x p : ℕ) (ps : List ℕ) → contains x ps ≡ true → contains x (p ∷ ps) ≡ true
        more x p ps h = by_cases (λ b. (b || contains x ps) ≡ true) (eqb x p) (λ e. refl) (λ e. h)
    leads_typed depth i ih (App f x) stands meets e q te numbers sub = (q, (s.row i).type, te)
    leads_typed depth i ih (Op o l r) stands meets e q te numbers sub = (q, (s.row i).type, te)
    leads_typed depth i ih (Var p) stands meets e q te numbers sub = (q, (s.row i).type, te)
    leads_typed depth i ih (Num n) stands meets e q te numbers sub = (q, (s.row i).type, te)
    leads_typed depth i ih (Enc c n) stands meets e q te numbers sub = (q, (s.row i).type, te)

    -- What is typed as row i may be applied to numbers for the leading LAMs at row i.
    applied_typed : (depth i : ℕ) → i < depth → i < length m.terms → (e : Expression) (q : S.Q) → Typed S s e q (s.row i).type → (numbers : List ℕ) →
        ((p : ℕ) → contains p (leading_from m depth i) ≡ true → contains p (leading m) ≡ true) → HasType (applied word e (leading_from m depth i) numbers)
    unfolding leading_from
    applied_typed zero i h in_list e q te numbers sub = let z : ⊥ = omega arith in absurd z
    applied_typed (suc depth) i h in_list e q te numbers sub =
        leads_typed depth i (λ j below. applied_typed depth j (omega arith) (omega arith)) (term_at m i) (w.terms_stand i in_list) (rows_meet i in_list) e q te numbers sub

  pub job_typed : NoArrow m shape → 0 < length m.terms → (numbers : List ℕ) → HasType (job m word numbers)
  job_typed no_arrow some numbers =
      applied_typed (λ p h l. leading_int p h (no_arrow p l)) (length m.terms) (last_row m) (omega arith) (omega arith)
      (unfolded m word (length m.terms) (last_row m)) (s.row (last_row m)).qualifier (unfolded_typed (length m.terms) (last_row m) (omega arith) (omega arith)) numbers (λ p h. h)

-- An accepted job is where sound runs start.
pub job_sound : (S : Schemes) (lawful : Lawful S) (m : Machine) (w : WellFormed m) (closed : Closed m) (word : Slot → ℕ) (shape : Slot → Shape) (a : GreatestTyping S m word shape) →
    NoArrow m shape → (numbers : List ℕ) → Sound S lawful a.together.0 (job m word numbers)
job_sound S lawful m w closed word shape a no_arrow numbers =
    let (q, τ, typed) = job_typed S m w word shape a no_arrow closed.some_row numbers in
    record { q = q; τ = τ; typed = typed; none_free = job_none_free m w word closed numbers }
