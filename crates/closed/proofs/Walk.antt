-- The walk from the last row down. Its invariant: a row has a set where it is the last or the child of a row passed, that of the parameters in
-- scope there; the rows passed are children, and their VARs stand in the bodies of their LAMs.
use Prim.Native.Nat.{ℕ, ◌+◌, ◌-◌, ◌≤◌, ◌<◌}
use native.Mathlib.Decide.{ℕ_discrete}
use native.Mathlib.Omega.{arith}
use mathlib.Core.Bool.{Bool, true, false, ◌||◌, or-true, false≢true}
use mathlib.Core.List.{List}
use mathlib.Core.Path.{◌≡◌, refl, ap, sym, subst, ◌∙◌}
use Rattle.std.proofs.Common.{Option, None, Some}
use lib.Dec.{eqb}
use lib.ListN.{length, get_or, set, length-set}
use lib.Seq.{get_or-set_same, get_or-set_other}
use borrow.Author.Tests.{eq-eqb}
use Rattle.scheme.specs.Schemes.{words}
use Rattle.model.specs.Lists.{all_of, contains}
use Rattle.model.specs.Machine.{Machine, no_term_row, term_at, children, binds, used}
use Rattle.model.specs.Closed.{Closed, Inside}
use Rattle.model.specs.WellFormed.{TermStands, WellFormed}
use Rattle.model.specs.declared.TermRow.{TermRow}
use Rattle.model.specs.declared.Term.{Term}
use Rattle.model.specs.declared.Term.TheVariants.{Lam, App, Op, Var, Num, Enc}
use Rattle.scheme.proofs.Every.{and_left, and_both}
use Rattle.checks.specs.Children.{listed}
use Rattle.checks.specs.Marks.{stores}
use Rattle.checks.specs.declared.term.Children.{Children}
use Rattle.checks.specs.declared.term.Children.TheVariants.{One, Two}
use Rattle.checks.proofs.Tests.{any_at, some_at}
use Rattle.checks.proofs.Marking.{length_stores, stored_other, stored_there}
use Rattle.table.specs.Lists.{lists}
use Rattle.table.specs.declared.Table.{Table}
use Rattle.table.proofs.Entries.{row_at}
use Rattle.closed.specs.Members.{member}
use Rattle.closed.specs.Reads.{reads}
use Rattle.closed.specs.Decides.{Tree, DecidesTree}
use Rattle.closed.proofs.Scope.{Scope, scope_step, scope_last, parent_above}

-- A row that the rows from i on, or its being the last, make known.
pub data Reached (m : Machine) (i k : ℕ) : Type 0 where
  last : k + 1 ≡ length m.terms → Reached m i k
  of_parent : {j : ℕ} → i ≤ j → j < length m.terms → contains k (children (term_at m j)) ≡ true → Reached m i k

pub record Walked (m : Machine) (scopes : List (Option ℕ)) (i : ℕ) : Type 0 where
  pub whole : length scopes ≡ 256
  pub within : i ≤ length m.terms
  pub known : (k s : ℕ) → k < length m.terms → get_or scopes k None ≡ Some s → Reached m i k × Scope m k s
  pub given : (k : ℕ) → k < length m.terms → Reached m i k → (s : ℕ) × (get_or scopes k None ≡ Some s)
  pub passed_child : (k : ℕ) → i ≤ k → k + 1 < length m.terms → used m.terms k ≡ true
  pub passed_var : (v p : ℕ) → i ≤ v → v < length m.terms → term_at m v ≡ Var p → Inside m p v

none_some : (s : ℕ) → ◌≡◌ {A = Option ℕ} None (Some s) → ⊥
none_some s e = cc

module _ (m : Machine) (w : WellFormed m) where
  -- A VAR names one of at most 64 parameters.
  pub var_below : (r p : ℕ) → r < length m.terms → term_at m r ≡ Var p → p < 64
  var_below r p h var =
      let declared : p < length m.params = subst (TermStands (words m.schemes) (length m.params) r) var (w.terms_stand r h) in
      omega (arith, w.params_fit)

  -- Before the first turn only the last row has a set, and nothing is in scope there.
  pub walk_starts : (n : ℕ) (l : List (Option ℕ)) → n ≡ length m.terms → 0 < n → length l ≡ 256 → ((k : ℕ) → get_or l k None ≡ None) → Walked m (set l (n - 1) (Some 0)) n
  walk_starts n l count some whole none_at =
      record {
        whole = length-set l (n - 1) (Some 0) ∙ whole;
        within = omega arith;
        known = λ k s h e. only k s h e (ℕ_discrete k (n - 1));
        given = λ k h is. first k h is;
        passed_child = λ k past h. let z : ⊥ = omega arith in absurd z;
        passed_var = λ v p past h e. let z : ⊥ = omega arith in absurd z;
      }
    where
      is_last : (k : ℕ) → Reached m n k → k + 1 ≡ length m.terms
      is_last k (last e) = e
      is_last k (of_parent past below e) = let z : ⊥ = omega arith in absurd z

      first : (k : ℕ) → k < length m.terms → Reached m n k → (s : ℕ) × (get_or (set l (n - 1) (Some 0)) k None ≡ Some s)
      first k h is =
          let e : n - 1 ≡ k = omega (arith, is_last k is) in
          (0, rw e (get_or-set_same l k (Some 0) None (omega (arith, w.terms_fit))))

      only : (k s : ℕ) → k < length m.terms → get_or (set l (n - 1) (Some 0)) k None ≡ Some s → Dec (k ≡ n - 1) → Reached m n k × Scope m k s
      only k s h e (yes same) =
          let zero_is : Some 0 ≡ Some s = sym (rw same (get_or-set_same l (n - 1) (Some 0) None (omega (arith, w.terms_fit)))) ∙ e in
          let is : s ≡ 0 = cc in
          (last (omega arith), rw is (scope_last m w k (omega arith)))
      only k s h e (no other) = absurd (none_some s (sym (get_or-set_other l (n - 1) k (Some 0) None other ∙ none_at k) ∙ e))

  module _ (scopes : List (Option ℕ)) (i : ℕ) (walked : Walked m scopes i) (r : ℕ) (next : i ≡ r + 1) where
    row_stands : r < length m.terms
    row_stands = omega (arith, walked.within)

    -- A row that is no child of r is known after the turn where it was before.
    before_turn : (k : ℕ) → contains k (children (term_at m r)) ≡ false → Reached m r k → Reached m i k
    before_turn k none (last e) = last e
    before_turn k none (of_parent {j} past below e) = go (ℕ_discrete j r)
      where
        go : Dec (j ≡ r) → Reached m i k
        go (yes same) = absurd (false≢true (sym none ∙ subst (λ (n : ℕ). contains k (children (term_at m n)) ≡ true) same e))
        go (no other) = of_parent {j = j} (omega arith) below e

    after_turn : (k : ℕ) → Reached m i k → Reached m r k
    after_turn k (last e) = last e
    after_turn k (of_parent {j} past below e) = of_parent {j = j} (omega arith) below e

    module _ (scope : ℕ) (has : get_or scopes r None ≡ Some scope) where
      reached_row : Reached m i r
      reached_row = (walked.known r scope row_stands has).0

      row_used : Reached m i r → r + 1 < length m.terms → used m.terms r ≡ true
      row_used (last e) h = let z : ⊥ = omega arith in absurd z
      row_used (of_parent {j} past below e) h = any_at (λ row. contains r (children row.term)) m.terms j no_term_row below e

      pub row_scope : Scope m r scope
      row_scope = (walked.known r scope row_stands has).1

      -- The row hands its children a set, and a VAR finds its parameter in scope.
      pub turn : (cs : List ℕ) (s : ℕ) → children (term_at m r) ≡ cs → ((q : ℕ) → q < 64 → member s q ≡ (contains q (binds (term_at m r)) || member scope q)) →
          all_of (member scope) (reads (term_at m r)) ≡ true → Walked m (stores cs (Some s) scopes) r
      turn cs s kids grown found =
          record {
            whole = length_stores cs (Some s) scopes ∙ walked.whole;
            within = omega (arith, walked.within);
            known = λ k set h now. known_now k set h now (contains k cs) refl;
            given = λ k h is. given_now k h is (contains k cs) refl;
            passed_child = λ k past h. child_now k past h (ℕ_discrete k r);
            passed_var = λ v p past h e. var_now v p past h e (ℕ_discrete v r);
          }
        where
          hands : (c : ℕ) → contains c cs ≡ true → Scope m c s
          hands c there = scope_step m w r c row_stands (ap (contains c) kids ∙ there) scope s grown row_scope

          var : (p : ℕ) → term_at m r ≡ Var p → Inside m p r
          var p e = row_scope.inside p (var_below r p row_stands e) (and_left (member scope p) true (sym (ap (λ (t : Term). all_of (member scope) (reads t)) e) ∙ found))

          known_now : (k set : ℕ) → k < length m.terms → get_or (stores cs (Some s) scopes) k None ≡ Some set → (b : Bool) → contains k cs ≡ b → Reached m r k × Scope m k set
          known_now k set h now true there =
              let given : Some s ≡ Some set = sym (stored_there cs (Some s) k scopes None (omega (arith, w.terms_fit, walked.whole)) there) ∙ now in
              let is : set ≡ s = cc in
              (of_parent {j = r} (omega arith) row_stands (ap (contains k) kids ∙ there), rw is (hands k there))
          known_now k set h now false none =
              let before = walked.known k set h (sym (stored_other cs (Some s) k scopes None none) ∙ now) in
              (after_turn k before.0, before.1)

          given_now : (k : ℕ) → k < length m.terms → Reached m r k → (b : Bool) → contains k cs ≡ b → (set : ℕ) × (get_or (stores cs (Some s) scopes) k None ≡ Some set)
          given_now k h is true there = (s, stored_there cs (Some s) k scopes None (omega (arith, w.terms_fit, walked.whole)) there)
          given_now k h is false none =
              let before = walked.given k h (before_turn k (ap (contains k) kids ∙ none) is) in
              (before.0, stored_other cs (Some s) k scopes None none ∙ before.1)

          child_now : (k : ℕ) → r ≤ k → k + 1 < length m.terms → Dec (k ≡ r) → used m.terms k ≡ true
          child_now k past h (yes e) = subst (λ (n : ℕ). used m.terms n ≡ true) (sym e) (row_used reached_row (omega arith))
          child_now k past h (no e) = walked.passed_child k (omega arith) h

          var_now : (v p : ℕ) → r ≤ v → v < length m.terms → term_at m v ≡ Var p → Dec (v ≡ r) → Inside m p v
          var_now v p past h e (yes same) = subst (Inside m p) (sym same) (var p (ap (term_at m) (sym same) ∙ e))
          var_now v p past h e (no other) = walked.passed_var v p (omega arith) h e

      -- A VAR that does not find its parameter.
      pub not_inside : all_of (member scope) (reads (term_at m r)) ≡ false → Closed m → ⊥
      not_inside missing closed = go (term_at m r) refl missing
        where
          go : (term : Term) → term_at m r ≡ term → all_of (member scope) (reads term) ≡ false → ⊥
          go (Var p) e h =
              let held : member scope p ≡ true = row_scope.held p (var_below r p row_stands e) (closed.in_scope r p row_stands e) in
              false≢true (sym h ∙ and_both (member scope p) true held refl)
          go (Lam p b) e h = false≢true (sym h)
          go (App f a) e h = false≢true (sym h)
          go (Op o l t) e h = false≢true (sym h)
          go (Num n) e h = false≢true (sym h)
          go (Enc c n) e h = false≢true (sym h)

    -- A row that is not the last and that no row above has as its child.
    pub not_reached : get_or scopes r None ≡ None → Closed m → ⊥
    not_reached without closed = go (ℕ_discrete (r + 1) (length m.terms))
      where
        refute : Reached m i r → ⊥
        refute is = let (s, e) = walked.given r row_stands is in none_some s (sym without ∙ e)

        go : Dec (r + 1 ≡ length m.terms) → ⊥
        go (yes e) = refute (last e)
        go (no e) =
            let (j, below, parent) = some_at (λ row. contains r (children row.term)) m.terms no_term_row (closed.every_child r (omega (arith, row_stands))) in
            refute (of_parent {j = j} (omega (arith, parent_above m w j r below parent)) below parent)

  pub walk_ends : (scopes : List (Option ℕ)) (i : ℕ) → i ≡ 0 → Walked m scopes i → Tree m
  walk_ends scopes i e walked =
      record {
        every_child = λ k h. walked.passed_child k (omega arith) h;
        in_scope = λ v p h var. walked.passed_var v p (omega arith) h var;
      }

-- The turn of the code, whose row is the array's.
module _ (t : Table) (w : WellFormed (lists t)) (scopes : List (Option ℕ)) (i : ℕ) (walked : Walked (lists t) scopes i) (more : 0 < i) where
  last_row_lem : i - 1 < length (lists t).terms
  last_row_lem = omega (arith, walked.within)

  row_is : term_at (lists t) (i - 1) ≡ (get_or t.terms (i - 1) no_term_row).term
  row_is = ap (λ (row : TermRow). row.term) (row_at t (i - 1) last_row_lem)

  pub row_within : i - 1 < 256
  row_within = omega (arith, last_row_lem, w.terms_fit)

  child_within : (k : Children) (c : ℕ) → listed k ≡ children (get_or t.terms (i - 1) no_term_row).term → contains c (listed k) ≡ true → c < 256
  child_within k c kids there =
      omega (arith, row_within, parent_above (lists t) w (i - 1) c last_row_lem (ap (λ (term : Term). contains c (children term)) row_is ∙ ap (contains c) (sym kids) ∙ there))

  module _ (k : Children) (kids : listed k ≡ children (get_or t.terms (i - 1) no_term_row).term) where
    pub only_within : (a : ℕ) → k ≡ One a → a < 256
    only_within a e = child_within k a kids (cc (eq-eqb a a refl))

    pub first_within : (a b : ℕ) → k ≡ Two a b → a < 256
    first_within a b e = child_within k a kids (cc (eq-eqb a a refl))

    pub second_within : (a b : ℕ) → k ≡ Two a b → b < 256
    second_within a b e = child_within k b kids (cc (eq-eqb b b refl, or-true (eqb b a)))

  pub row_not_reached : get_or scopes (i - 1) None ≡ None → DecidesTree (lists t) false
  row_not_reached without = record { tree = λ e. absurd (false≢true e); no_tree = λ e. not_reached (lists t) w scopes i walked (i - 1) (omega arith) without }

  module _ (scope : ℕ) (has : get_or scopes (i - 1) None ≡ Some scope) (found : Bool) (test : found ≡ all_of (member scope) (reads (get_or t.terms (i - 1) no_term_row).term)) where
    pub var_not_found : found ≡ false → DecidesTree (lists t) false
    var_not_found h =
        record {
          tree = λ e. absurd (false≢true e);
          no_tree = λ e. not_inside (lists t) w scopes i walked (i - 1) (omega arith) scope has (ap (λ (term : Term). all_of (member scope) (reads term)) row_is ∙ sym test ∙ h);
        }

    pub row_turned : found ≡ true → (inner : ℕ) → ((q : ℕ) → q < 64 → member inner q ≡ (contains q (binds (get_or t.terms (i - 1) no_term_row).term) || member scope q)) →
        (k : Children) → listed k ≡ children (get_or t.terms (i - 1) no_term_row).term → (cs : List ℕ) → listed k ≡ cs → Walked (lists t) (stores cs (Some inner) scopes) (i - 1)
    row_turned h inner grown k kids cs are =
        turn (lists t) w scopes i walked (i - 1) (omega arith) scope has cs inner (ap children row_is ∙ sym kids ∙ are)
        (λ q below. grown q below ∙ ap (λ (term : Term). contains q (binds term) || member scope q) (sym row_is))
        (ap (λ (term : Term). all_of (member scope) (reads term)) row_is ∙ sym test ∙ h)
