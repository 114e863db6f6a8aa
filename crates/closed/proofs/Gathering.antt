-- The set of bound parameters: each turn adds the parameter that one row binds.
use Prim.Native.Nat.{ℕ, ◌+◌, ◌≤◌, ◌<◌}
use native.Mathlib.Numerals.{add-one}
use mathlib.Core.Bool.{Bool, true, false, ◌||◌, or-false, and-true}
use mathlib.Core.List.{List, []}
use mathlib.Core.Path.{◌≡◌, refl, ap, sym, ◌∙◌}
use lib.Dec.{eqb}
use lib.ListN.{length, drop, get_or, drop_of_length-le}
use lib.Seq.{drop-cons}
use Rattle.model.specs.Lists.{all_of, contains}
use Rattle.model.specs.Machine.{no_term_row, binds, bound}
use Rattle.model.specs.declared.TermRow.{TermRow}
use Rattle.model.specs.declared.Term.{Term}
use Rattle.model.specs.declared.Term.TheVariants.{Lam, Var}
use Rattle.table.specs.Lists.{lists}
use Rattle.table.specs.declared.Table.{Table}
use Rattle.table.proofs.Entries.{row_at}
use Rattle.closed.specs.Members.{member}
use Rattle.closed.specs.Reads.{reads}
use Rattle.closed.proofs.Bits.{none_member}

-- The set after a term.
abbrev pub With : (ℕ → Bool) → ℕ → ℕ → Type 0
With test before after = (q : ℕ) → q < 64 → member after q ≡ (test q || member before q)

pub with_lam : (term : Term) (p b before after : ℕ) → term ≡ Lam p b → With (λ q. eqb q p) before after → With (λ q. contains q (binds term)) before after
with_lam term p b before after e h q below = cc (h q below, or-false (eqb q p))

pub with_none : (term : Term) (set : ℕ) → binds term ≡ [] → With (λ q. contains q (binds term)) set set
with_none term set e q below = cc

swap : (a b c : Bool) → (a || b || c) ≡ (b || (a || c))
swap true true c = refl
swap true false c = refl
swap false b c = refl

-- The set of the rows below i, and what the rows from i on bind.
abbrev pub Gathered : Table → ℕ → ℕ → Type 0
Gathered t i set = (p : ℕ) → p < 64 → (member set p || bound (drop i (lists t).terms) p) ≡ bound (lists t).terms p

pub gathered_none : (t : Table) → Gathered t 0 0
gathered_none t p below = rw (none_member p)

module _ (t : Table) (i set : ℕ) (gathered : Gathered t i set) where
  pub gathered_more : (after : ℕ) → i < length (lists t).terms → With (λ q. contains q (binds (get_or t.terms i no_term_row).term)) set after → Gathered t (i + 1) after
  gathered_more after h w p below =
      let split : bound (drop i (lists t).terms) p ≡ (contains p (binds (get_or t.terms i no_term_row).term) || bound (drop (i + 1) (lists t).terms) p) =
      rw (add-one, drop-cons (lists t).terms i no_term_row, row_at t i h) in
      ap (λ (b : Bool). b || bound (drop (i + 1) (lists t).terms) p) (w p below)
      ∙ swap (contains p (binds (get_or t.terms i no_term_row).term)) (member set p) (bound (drop (i + 1) (lists t).terms) p)
      ∙ ap (λ (b : Bool). member set p || b) (sym split)
      ∙ gathered p below

  pub gathered_all : length (lists t).terms ≤ i → (p : ℕ) → p < 64 → member set p ≡ bound (lists t).terms p
  gathered_all h p below =
      sym (or-false (member set p))
      ∙ ap (λ (l : List TermRow). member set p || bound l p) (sym (drop_of_length-le (lists t).terms h))
      ∙ gathered p below

-- The parameter of a VAR.
pub reads_var : (set : ℕ) (term : Term) (p : ℕ) (found : Bool) → term ≡ Var p → found ≡ member set p → found ≡ all_of (member set) (reads term)
reads_var set term p found e f = cc (and-true (member set p))
