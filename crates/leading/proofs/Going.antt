-- The loop over the leading LAMs: those from place j on are the ones from a row on, and the numbers before stand in their frames.
use Prim.Native.Nat.{ℕ, suc, ◌-◌, ◌≤◌, ◌<◌}
use native.Mathlib.Omega.{arith}
use native.Mathlib.Decide.{ℕ_discrete}
use mathlib.Core.List.{List, [], ◌∷◌}
use mathlib.Core.Path.{◌≡◌, refl, sym, ap, subst, ◌∙◌}
use lib.Dec.{eqb}
use lib.ListN.{length, get_or, set, drop, length-drop}
use lib.Seq.{drop-cons, get_or-set_same, get_or-set_other}
use borrow.Author.Tests.{eqb-true, eq-eqb}
use mathlib.Core.Bool.{true}
use Rattle.model.specs.Machine.{Machine, term_at}
use Rattle.model.specs.WellFormed.{WellFormed}
use Rattle.model.specs.Inference.{Slot, param, Shape}
use Rattle.model.specs.declared.Term.TheVariants.{Lam}
use Rattle.checks.proofs.Tests.{any_at, some_at}
use Rattle.dryrun.specs.Expression.{leading_of}
use Rattle.dryrun.specs.Run.{last_row, leading, NoArrow}
use Rattle.environments.specs.Standing.{row_of}
use Rattle.environments.specs.Frames.{no_frame}
use Rattle.environments.specs.declared.Datum.{Datum}
use Rattle.environments.specs.declared.Focus.{Focus}
use Rattle.environments.specs.declared.Frame.{Frame}
use Rattle.leading.specs.Leading.{Unfit, wrong_count, arrow, Leads}
use Rattle.leading.proofs.Lams.{leading_at, row_leads, leading_most}
use Rattle.leading.proofs.Numbers.{Numbered, Numbers, arguments, arguments_plugged, arguments_stack}

-- The first j numbers are put, and the next parameter is that of the LAM at the row.
pub record Going (m : Machine) (word : Slot → ℕ) (shape : Slot → Shape) (numbers : List ℕ) (f : List Frame) (row j : ℕ) : Type 0 where
  pub rest : drop j (leading m) ≡ leading_at m row
  pub passed : j ≤ length (leading m)
  pub no_arrow : (k : ℕ) → k < j → ¬ (shape (param (get_or (leading m) k 0)) ≡ Shape.arrow)
  pub filled : Numbers word f (leading m) numbers j

-- There are never more than 256 leading LAMs.
pub past_any : (m : Machine) → WellFormed m → (shape : Slot → Shape) (numbers : List ℕ) → 256 < length numbers → Unfit m shape numbers
past_any m w shape numbers h = wrong_count (λ e. let z : ⊥ = omega (arith, leading_most m w) in z)

module _ (m : Machine) (w : WellFormed m) (word : Slot → ℕ) (shape : Slot → Shape) (numbers : List ℕ) where
  -- Before any number is put.
  pub going_none : (f : List Frame) → Going m word shape numbers f (last_row m) 0
  going_none f = record { rest = refl; passed = omega arith; no_arrow = λ k h. let z : ⊥ = omega arith in absurd z; filled = λ k h. let z : ⊥ = omega arith in absurd z }

  module _ (f : List Frame) (row j : ℕ) (going : Going m word shape numbers f row j) (in_list : row < length m.terms) where
    -- At a row that is no LAM the leading LAMs are at their end.
    over : leading_of (leading_at m) (term_at m row) ≡ [] → length (leading m) ≡ j
    over none =
        let left : length (leading m) - j ≡ 0 = sym (length-drop j (leading m)) ∙ ap length (going.rest ∙ row_leads m w row in_list ∙ none) in
        omega (arith, going.passed)

    -- A number is left for no LAM.
    pub too_many : j < length numbers → leading_of (leading_at m) (term_at m row) ≡ [] → Unfit m shape numbers
    too_many h none = wrong_count (λ e. let z : ⊥ = omega (arith, over none) in z)

    module _ (p b : ℕ) (lam : term_at m row ≡ Lam p b) where
      -- What is left begins with the parameter of the LAM.
      next : drop j (leading m) ≡ p ∷ leading_at m b
      next = going.rest ∙ row_leads m w row in_list ∙ ap (leading_of (leading_at m)) lam

      -- So a parameter is left.
      more : j < length (leading m)
      more = let left : length (leading m) - j ≡ suc (length (leading_at m b)) = sym (length-drop j (leading m)) ∙ ap length next in omega arith

      -- The parameter is the next one, and those after it are the body's.
      split : get_or (leading m) j 0 ∷ drop (suc j) (leading m) ≡ p ∷ leading_at m b
      split = sym (drop-cons (leading m) j 0 more) ∙ next

      own : get_or (leading m) j 0 ≡ p
      own = ap (λ (l : List ℕ). get_or l 0 0) split

      after : drop (suc j) (leading m) ≡ leading_at m b
      after = ap (drop 1) split

      -- A LAM is left for no number.
      pub too_few : length numbers ≡ j → Unfit m shape numbers
      too_few h = wrong_count (λ e. let z : ⊥ = omega (arith, more) in z)

      -- The next parameter has the shape ARROW.
      pub is_arrow : shape (param p) ≡ Shape.arrow → Unfit m shape numbers
      is_arrow e = arrow p (any_at (λ k. eqb p k) (leading m) j 0 more (eq-eqb p (get_or (leading m) j 0) (sym own))) e

      -- One number more.
      pub going_more : length f ≡ length numbers → j < length numbers → ¬ (shape (param p) ≡ Shape.arrow) →
          Going m word shape numbers (set f j (Frame.Argument (Focus.Datum (Datum.Number (word (param p)) (get_or numbers j 0))))) b (suc j)
      going_more sized h straight =
          record {
            rest = after;
            passed = more;
            no_arrow = λ k below. no_arrow k (ℕ_discrete k j) below;
            filled = λ k below. filled k (ℕ_discrete k j) below;
          }
        where
          new : Frame
          new = Frame.Argument (Focus.Datum (Datum.Number (word (param p)) (get_or numbers j 0)))

          no_arrow : (k : ℕ) → Dec (k ≡ j) → k < suc j → ¬ (shape (param (get_or (leading m) k 0)) ≡ Shape.arrow)
          no_arrow k (yes e) below = rw (e, own) straight
          no_arrow k (no other) below = going.no_arrow k (omega arith)

          filled : (k : ℕ) → Dec (k ≡ j) → k < suc j → Numbered (set f j new) k (word (param (get_or (leading m) k 0))) (get_or numbers k 0)
          filled k (yes e) below = rw (e, own) (get_or-set_same f j new no_frame (omega arith))
          filled k (no other) below =
              get_or-set_other f j k new no_frame other ∙ going.filled k (omega arith)

    -- All numbers are put, and there is no further LAM.
    pub leads : length f ≡ length numbers → length numbers ≡ j → leading_of (leading_at m) (term_at m row) ≡ [] → Leads m word shape numbers f true
    leads sized all none =
        let same : length numbers ≡ length (leading m) = all ∙ sym (over none) in (
          same,
          λ p there e. no_arrow p there e,
          record {
            contexts = arguments word (leading m) numbers;
            stack = λ c. arguments_stack m word c f (leading m) numbers sized same (subst (Numbers word f (leading m) numbers) (sym all) going.filled);
            plugged = arguments_plugged word (row_of m word (last_row m)) (leading m) numbers;
          },
        )
      where
        no_arrow : NoArrow m shape
        no_arrow p there e =
            let (k, within, is) = some_at (λ k. eqb p k) (leading m) 0 there in
            going.no_arrow k (omega (arith, over none)) (ap (λ (q : ℕ). shape (param q)) (sym (eqb-true p (get_or (leading m) k 0) is)) ∙ e)
