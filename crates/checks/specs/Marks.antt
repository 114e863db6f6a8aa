-- The numbers that the term rows name, as marks in a list: the entry under a number says whether some row names it.
use Rattle.std.specs.Prelude.{ℕ, Bool, true, false, List, [], ◌∷◌, ◌≡◌, ltb, length, get_or, set}
use Rattle.model.specs.Lists.{any_of, all_of, contains}
use Rattle.model.specs.Machine.{children, binds}
use Rattle.model.specs.declared.Term.{Term}
use Rattle.model.specs.declared.TermRow.{TermRow}
use Rattle.checks.specs.declared.marks.Marks.{Marks}

-- A number past the marks is not marked.
abbrev pub is_marked : List Bool → ℕ → Bool
is_marked marks n = get_or marks n false

-- One value stored at each of some places.
abbrev pub stores : {A : Type 0} → List ℕ → A → List A → List A
stores [] a l = l
stores (c ∷ cs) a l = stores cs a (set l c a)

-- Exactly the numbers that the rows name are marked.
abbrev pub Marking : (Term → List ℕ) → List TermRow → List Bool → Type 0
Marking names rows marks = (n : ℕ) → is_marked marks n ≡ any_of (λ row. contains n (names row.term)) rows

-- The rows that are some row's child, and the parameters that some LAM binds.
pub record Marked (rows : List TermRow) (marks : Marks) : Type 0 where
  pub rows_whole : length marks.used ≡ 256
  pub params_whole : length marks.bound ≡ 64
  pub children_marked : Marking children rows marks.used
  pub binders_marked : Marking binds rows marks.bound

-- There is a mark for each number that the row names.
pub record Within (term : Term) : Type 0 where
  pub children_within : all_of (λ c. ltb c 256) (children term) ≡ true
  pub binder_within : all_of (λ p. ltb p 64) (binds term) ≡ true
