-- One turn of the run: what each move of the code does to what the arrays stand for.
use Prim.Native.Nat.{ℕ, zero, suc, ◌+◌, ◌≤◌, ◌<◌}
use native.Mathlib.Omega.{arith}
use mathlib.Core.Bool.{false, false≢true}
use mathlib.Core.List.{List, [], ◌∷◌}
use mathlib.Core.Path.{◌≡◌, refl, sym, ap, ap₂, subst, ◌∙◌}
use lib.Dec.{eqb}
use lib.ListN.{length}
use borrow.Author.Tests.{eq-eqb, ne_eqb}
use Rattle.model.specs.Machine.{Machine, term_at}
use Rattle.model.specs.WellFormed.{WellFormed, TermStands}
use Rattle.scheme.specs.Schemes.{words}
use Rattle.model.specs.Inference.{ruling, Slot, row}
use Rattle.model.specs.declared.Term.{Term}
use Rattle.model.specs.declared.Term.TheVariants.{Lam, App, Op, Var, Num, Enc}
use Rattle.dryrun.specs.Expression.{Expression, number, function, apply, operate, Value, row_expression, unfolded}
use Rattle.dryrun.specs.Transition.{Rule, Kind, application, operation, calculated, result_tag, Step, applies, operates, in_function, in_argument, in_left, in_right, Tagged, Goes, over, on}
use Rattle.dryrun.specs.Run.{Counts, nothing_made, Outcome, a_number, a_function, refused, ended, most_contexts, largest_number, steps, counted, Fits, applying, in_range, Runs, ends_number, ends_function, out_of_budget, too_deep, overflows, steps_on, Reaches, itself, further}
use Rattle.environments.specs.Standing.{Safe, Env, without, extended, close, Context, argument, called, right, left, plug, cell_in, row_of, Binds, nothing, Means, Stack, bottom, on_argument, on_called, on_right, on_left, Control, a_row, a_value, Standing}
use Rattle.environments.specs.declared.Datum.{Datum}
use Rattle.environments.specs.declared.Focus.{Focus}
use Rattle.environments.specs.declared.Frame.{Frame}
use Rattle.environments.specs.declared.Cell.{Cell}
use Rattle.dryrun.specs.Free.{NoneFree}
use Rattle.dryrun.proofs.Determined.{Finished, value_stays}
use Rattle.environments.proofs.Close.{Good, good_none, good_extended, substituted_close}
use Rattle.environments.proofs.Contexts.{AllUpright, []ᵁ, ◌∷ᵁ◌, plug_step, plug_inside, plug_no_value, plug_none_free}

-- The first `count` cells stay.
abbrev pub Kept : List Cell → List Cell → ℕ → Type 0
Kept c c' count = (j : ℕ) → j < count → cell_in c j ≡ cell_in c' j

module _ (m : Machine) (w : WellFormed m) (word : Slot → ℕ) where
  -- Depth enough is depth enough.
  expression_same : (a b : ℕ → Expression) (tag i : ℕ) → ((j : ℕ) → j < i → a j ≡ b j) → (t : Term) → TermStands (words m.schemes) (length m.params) i t → row_expression a tag t ≡ row_expression b tag t
  expression_same a b tag i h (Lam p x) (hp, hx) = ap (function p) (h x hx)
  expression_same a b tag i h (App f x) (hf, hx) = ap₂ apply (h f hf) (h x hx)
  expression_same a b tag i h (Op o l r) (ho, hl, hr) = ap₂ (operate o) (h l hl) (h r hr)
  expression_same a b tag i h (Var p) stands = refl
  expression_same a b tag i h (Num n) stands = refl
  expression_same a b tag i h (Enc s n) stands = refl

  unfolded_same : (d d' i : ℕ) → i < d → i < d' → i < length m.terms → unfolded m word d i ≡ unfolded m word d' i
  unfolding unfolded
  unfolded_same zero d' i h h' k = let z : ⊥ = omega arith in absurd z
  unfolded_same (suc d) zero i h h' k = let z : ⊥ = omega arith in absurd z
  unfolded_same (suc d) (suc d') i h h' k =
      expression_same (unfolded m word d) (unfolded m word d') (word (row i)) i (λ j below. unfolded_same d d' j (omega arith) (omega arith) (omega arith)) (term_at m i) (w.terms_stand i k)

  -- A row's expression is made of its children's.
  pub row_expression_lem : (i : ℕ) → i < length m.terms → (t : Term) → term_at m i ≡ t → row_of m word i ≡ row_expression (row_of m word) (word (row i)) t
  unfolding unfolded
  row_expression_lem i h t is =
      unfolded_same (length m.terms) (suc (length m.terms)) i h (omega arith) h ∙ ap (row_expression (row_of m word) (word (row i))) is

  module _ {c c' : List Cell} {count count' : ℕ} (kept : Kept c c' count) (more : count ≤ count') where
    pub binds_kept : {place : ℕ} {σ : Env} → Binds m word c count place σ → Binds m word c' count' place σ
    binds_kept nothing = nothing
    binds_kept (Binds.a_number {j} {n} {tag} {σ} h low is rest) =
        rw (kept j h)
        (Binds.a_number {j = j} {n = n} {tag = tag} {σ = σ} (omega arith) (rw (← kept j h) low) (rw (← kept j h) is) (rw (← kept j h) (binds_kept rest)))
    binds_kept (Binds.a_function {j} {i} {place} {p} {b} {σ} {τ} h low is in_list lam none own rest) =
        rw (kept j h)
        (Binds.a_function {j = j} {i = i} {place = place} {p = p} {b = b} {σ = σ} {τ = τ} (omega arith) (rw (← kept j h) low) (rw (← kept j h) is) in_list lam none
        (binds_kept own) (rw (← kept j h) (binds_kept rest)))

    pub means_kept : {d : Datum} {e : Expression} → Means m word c count d e → Means m word c' count' d e
    means_kept Means.a_number = Means.a_number
    means_kept (Means.a_function h lam own) = Means.a_function h lam (binds_kept own)

    control_kept : {k : Focus} {e : Expression} → Control m word c count k e → Control m word c' count' k e
    control_kept (a_row h binds) = a_row h (binds_kept binds)
    control_kept (a_value means) = a_value (means_kept means)

    pub stack_cells : {f : List Frame} {R : List Context} → Stack m word c count f R → Stack m word c' count' f R
    stack_cells bottom = bottom
    stack_cells (on_argument k s) = on_argument (control_kept k) (stack_cells s)
    stack_cells (on_called v s) = on_called (means_kept v) (stack_cells s)
    stack_cells (on_right five k s) = on_right five (control_kept k) (stack_cells s)
    stack_cells (on_left five v s) = on_left five (means_kept v) (stack_cells s)

  binds_low : {c : List Cell} {count place : ℕ} {σ : Env} → Binds m word c count place σ → place ≤ count
  binds_low nothing = omega arith
  binds_low (Binds.a_number h low is rest) = h
  binds_low (Binds.a_function h low is in_list lam none own rest) = h

  binds_good : {c : List Cell} {count place : ℕ} {σ : Env} → Binds m word c count place σ → Good σ
  binds_good nothing = good_none
  binds_good (Binds.a_number {j} {σ = σ} h low is rest) = good_extended _ _ σ (λ q. refl) (binds_good rest)
  binds_good (Binds.a_function {j} {σ = σ} h low is in_list lam none own rest) = good_extended _ _ σ none (binds_good rest)

  pub means_value : {c : List Cell} {count : ℕ} {d : Datum} {e : Expression} → Means m word c count d e → Value e
  unfolding close
  means_value Means.a_number = Value.a_number
  means_value (Means.a_function h lam own) = Value.a_function

  stack_upright : {c : List Cell} {count : ℕ} {f : List Frame} {R : List Context} → Stack m word c count f R → AllUpright R
  stack_upright bottom = []ᵁ
  stack_upright (on_argument k s) = tt ∷ᵁ stack_upright s
  stack_upright (on_called v s) = means_value v ∷ᵁ stack_upright s
  stack_upright (on_right five k s) = tt ∷ᵁ stack_upright s
  stack_upright (on_left five v s) = means_value v ∷ᵁ stack_upright s

  stack_length : {c : List Cell} {count : ℕ} {f : List Frame} {R : List Context} → Stack m word c count f R → length R ≡ length f
  stack_length bottom = refl
  stack_length (on_argument k s) = ap suc (stack_length s)
  stack_length (on_called v s) = ap suc (stack_length s)
  stack_length (on_right five k s) = ap suc (stack_length s)
  stack_length (on_left five v s) = ap suc (stack_length s)

  -- What is looked at becomes a value.
  lam_control : {c : List Cell} {count i place p b : ℕ} {e : Expression} → term_at m i ≡ Lam p b → Control m word c count (Focus.Row i place) e →
      Control m word c count (Focus.Datum (Datum.Function i place)) e
  lam_control {i = i} {p = p} {b} lam (a_row h binds) = rw (row_expression_lem i h (Lam p b) lam) (a_value (Means.a_function h lam binds))

  num_control : {c : List Cell} {count i place n : ℕ} {e : Expression} → term_at m i ≡ Num n → Control m word c count (Focus.Row i place) e →
      Control m word c count (Focus.Datum (Datum.Number (word (row i)) n)) e
  unfolding close
  num_control {i = i} {n = n} is (a_row h binds) = rw (row_expression_lem i h (Num n) is) (a_value Means.a_number)

  enc_control : {c : List Cell} {count i place x n : ℕ} {e : Expression} → term_at m i ≡ Enc x n → Control m word c count (Focus.Row i place) e →
      Control m word c count (Focus.Datum (Datum.Number (word (row i)) n)) e
  unfolding close
  enc_control {i = i} {x = x} {n} is (a_row h binds) = rw (row_expression_lem i h (Enc x n) is) (a_value Means.a_number)

  -- Where a parameter is bound, what the code finds of it.
  pub record Found (c : List Cell) (count place x j : ℕ) : Type 0 where
    pub found : (σ : Env) → Binds m word c count place σ → NoneFree (σ x) → Means m word c count (cell_in c j).datum (σ x)

  var_control : {c : List Cell} {count i place x j : ℕ} {e : Expression} → term_at m i ≡ Var x → Found c count place x j → NoneFree e → Control m word c count (Focus.Row i place) e →
      Control m word c count (Focus.Datum (cell_in c j).datum) e
  unfolding close
  var_control {i = i} {x = x} is found none (a_row {σ = σ} h binds) =
      let same = row_expression_lem i h (Var x) is in
      rw same (a_value (found.found σ binds (rw same at none)))

  -- The search for a parameter: at the cell that binds it, and past a cell that binds another.
  pub found_here : (c : List Cell) (count j x : ℕ) → (cell_in c j).param ≡ x → Found c count (suc j) x j
  found_here c count j x is = record { found = λ σ binds none. go σ refl binds none }
    where
      go : {place : ℕ} (σ : Env) → place ≡ suc j → Binds m word c count place σ → NoneFree (σ x) → Means m word c count (cell_in c j).datum (σ x)
      go σ at nothing none = let z : ⊥ = omega arith in absurd z
      go σ at (Binds.a_number {j = k} h low holds rest) none =
          let same : k ≡ j = omega arith in
          rw (eq-eqb x (cell_in c k).param (cc (same, is))) (rw (← same) (rw holds Means.a_number))
      go σ at (Binds.a_function {j = k} {p = p} {b} {τ = τ} h low holds in_list lam closed own rest) none =
          let same : k ≡ j = omega arith in
          rw (eq-eqb x (cell_in c k).param (cc (same, is))) (rw (← same) (rw holds (Means.a_function in_list lam own)))

  -- No search of a run ends at place 0: the parameter would stand free.
  pub found_nowhere : (c : List Cell) (count x j : ℕ) → Found c count 0 x j
  found_nowhere c count x j = record { found = λ σ binds none. go σ refl binds none }
    where
      go : {place : ℕ} (σ : Env) → place ≡ 0 → Binds m word c count place σ → NoneFree (σ x) → Means m word c count (cell_in c j).datum (σ x)
      go σ at nothing none = absurd (false≢true (sym (none x) ∙ eq-eqb x x refl))
      go σ at (Binds.a_number h low holds rest) none = let z : ⊥ = omega arith in absurd z
      go σ at (Binds.a_function h low holds in_list lam closed own rest) none = let z : ⊥ = omega arith in absurd z

  pub found_past : (c : List Cell) (count j x k : ℕ) → ¬ ((cell_in c j).param ≡ x) → Found c count (cell_in c j).next x k → Found c count (suc j) x k
  found_past c count j x k other rest = record { found = λ σ binds none. go σ refl binds none }
    where
      go : {place : ℕ} (σ : Env) → place ≡ suc j → Binds m word c count place σ → NoneFree (σ x) → Means m word c count (cell_in c k).datum (σ x)
      go σ at nothing none = let z : ⊥ = omega arith in absurd z
      go σ at (Binds.a_number {j = i} {σ = ρ} h low holds below) none =
          let same : i ≡ j = omega arith in
          let off : eqb x (cell_in c i).param ≡ false = ne_eqb x (cell_in c i).param (λ e. other (cc (same, e))) in
          rw off (rest.found ρ (rw same at below) (rw off at none))
      go σ at (Binds.a_function {j = i} {σ = ρ} h low holds in_list lam closed own below) none =
          let same : i ≡ j = omega arith in
          let off : eqb x (cell_in c i).param ≡ false = ne_eqb x (cell_in c i).param (λ e. other (cc (same, e))) in
          rw off (rest.found ρ (rw same at below) (rw off at none))

  -- A step between two values is an application of a function, or an operation on numbers of one tag.
  applies_function : {W : Rule} {k : ℕ} {kind : Kind} (v e : Expression) {x : Expression} → Value v → Value e → Step W k kind (apply v e) x → (p : ℕ) × (b : Expression) × (v ≡ function p b)
  applies_function v e hv he (applies {p = p} {e = b} h) = (p, b, refl)
  applies_function v e hv he (in_function s) = absurd (value_stays hv s)
  applies_function v e hv he (in_argument h s) = absurd (value_stays he s)

  operates_numbers : {W : Rule} {k : ℕ} {kind : Kind} (o : ℕ) (v e : Expression) {x : Expression} → Value v → Value e → Step W k kind (operate o v e) x →
      (a : ℕ) × (b : ℕ) × (tag : ℕ) × (v ≡ number a tag) × (e ≡ number b tag) × W o tag
  operates_numbers o v e hv he (operates {x = a} {y = b} {tag = tag} h) = (a, b, tag, refl, refl, h)
  operates_numbers o v e hv he (in_left s) = absurd (value_stays hv s)
  operates_numbers o v e hv he (in_right h s) = absurd (value_stays he s)

  means_function : {c : List Cell} {count q : ℕ} {d : Datum} {v x : Expression} → Means m word c count d v → v ≡ function q x →
      (i : ℕ) × (l : ℕ) × (d ≡ Datum.Function i l) × (i < length m.terms) × (p : ℕ) × (b : ℕ) × (term_at m i ≡ Lam p b)
  means_function Means.a_number e = let z : ◌≡◌ {A = ℕ} 0 1 = cc e in let no : ⊥ = omega arith in absurd no
  means_function (Means.a_function {i} {place = l} {p} {b} h lam own) e = (i, l, refl, h, p, b, lam)

  means_number : {c : List Cell} {count a t : ℕ} {d : Datum} {v : Expression} → Means m word c count d v → v ≡ number a t → d ≡ Datum.Number t a
  unfolding close
  means_number {a = a} {t = t} (Means.a_number {n} {tag}) e = let (en, et) : (n ≡ a) × (tag ≡ t) = (cc e, cc e) in rw (en, et) refl
  means_number (Means.a_function h lam own) e = let z : ◌≡◌ {A = ℕ} 0 1 = cc e in let no : ⊥ = omega arith in absurd no

  number_means : {c : List Cell} {count n tag : ℕ} {v : Expression} → Means m word c count (Datum.Number tag n) v → v ≡ number n tag
  number_means Means.a_number = refl

  -- One cell more.
  binds_new : {c c' : List Cell} {count next j p : ℕ} {d : Datum} {e : Expression} {τ : Env} → Kept c c' count → Means m word c count d e → NoneFree e → Binds m word c count next τ → j ≡ count →
      cell_in c' j ≡ record { param = p; next = next; datum = d } → Binds m word c' (count + 1) (suc j) (extended p e τ)
  binds_new {c} {c'} {count} {next} {j} {p} {τ = τ} kept Means.a_number none rest at is =
      let ep : (cell_in c' j).param ≡ p = ap (λ (x : Cell). x.param) is in
      let en : (cell_in c' j).next ≡ next = ap (λ (x : Cell). x.next) is in
      rw (← ep)
      (Binds.a_number {j = j} {σ = τ} (omega arith) (omega (arith, en, binds_low rest)) (ap (λ (x : Cell). x.datum) is) (rw en (binds_kept {count' = count + 1} kept (omega arith) rest)))
  binds_new {c} {c'} {count} {next} {j} {p} {τ = τ} kept (Means.a_function {p = q} {b} {τ = ρ} h lam own) none rest at is =
      let ep : (cell_in c' j).param ≡ p = ap (λ (x : Cell). x.param) is in
      let en : (cell_in c' j).next ≡ next = ap (λ (x : Cell). x.next) is in
      rw (← ep)
      (Binds.a_function {j = j} {p = q} {b = b} {σ = τ} {τ = ρ} (omega arith) (omega (arith, en, binds_low rest)) (ap (λ (x : Cell). x.datum) is) h lam none
      (binds_kept {count' = count + 1} kept (omega arith) own) (rw en (binds_kept {count' = count + 1} kept (omega arith) rest)))

  -- The top frame is the innermost context.
  module _ {c : List Cell} {count : ℕ} {f : List Frame} where
    argument_top : {Q : List Context} {k : Focus} → Stack m word c count (Frame.Argument k ∷ f) Q →
        (e : Expression) × (R : List Context) × (Q ≡ argument e ∷ R) × Control m word c count k e × Stack m word c count f R
    argument_top (on_argument {e = e} {R = R} control s) = (e, R, refl, control, s)

    called_top : {Q : List Context} {v : Datum} → Stack m word c count (Frame.Called v ∷ f) Q →
        (e : Expression) × (R : List Context) × (Q ≡ called e ∷ R) × Means m word c count v e × Stack m word c count f R
    called_top (on_called {e = e} {R = R} means s) = (e, R, refl, means, s)

    right_top : {o : ℕ} {Q : List Context} {k : Focus} → Stack m word c count (Frame.Right o k ∷ f) Q →
        (o < 5) × (e : Expression) × (R : List Context) × (Q ≡ right o e ∷ R) × Control m word c count k e × Stack m word c count f R
    right_top (on_right {e = e} {R = R} five control s) = (five, e, R, refl, control, s)

    left_top : {o : ℕ} {Q : List Context} {v : Datum} → Stack m word c count (Frame.Left o v ∷ f) Q →
        (o < 5) × (e : Expression) × (R : List Context) × (Q ≡ left o e ∷ R) × Means m word c count v e × Stack m word c count f R
    left_top (on_left {e = e} {R = R} five means s) = (five, e, R, refl, means, s)

  reaches_step : {W : Rule} {e e' e'' : Expression} {made made' : Counts} {k : ℕ} {kind : Kind} → Reaches W e made e' made' → Step W k kind e' e'' → Fits kind → Reaches W e made e'' (counted kind made')
  reaches_step itself s fits = further s fits itself
  reaches_step (further s' fits' r) s fits = further s' fits' (reaches_step r s fits)

  module _ (budget : ℕ) (start : Expression) (safe : Safe m start) where
    abbrev State : List Cell → List Frame → Focus → Counts → Type 0
    State = Standing m word budget start

    abbrev Ends : Outcome → Type 0
    Ends = Runs (Tagged (ruling m)) budget start nothing_made

    -- The same expression, seen otherwise.
    moved : {c : List Cell} {f f' : List Frame} {k k' : Focus} {made : Counts} (st : State c f k made) (R : List Context) (e : Expression) →
        plug st.contexts st.expression ≡ plug R e → Control m word c made.applications k' e → Stack m word c made.applications f' R → State c f' k' made
    moved {made = made} st R e same control stack =
        record {
          expression = e;
          contexts = R;
          control = control;
          stack = stack;
          reached = subst (λ (x : Expression). Reaches (Tagged (ruling m)) start nothing_made x made) same st.reached;
          within = st.within;
          tail = λ o r. st.tail o (subst (λ (x : Expression). Runs (Tagged (ruling m)) budget x made o) (sym same) r);
        }

    here_none_free : {c : List Cell} {f : List Frame} {k : Focus} {made : Counts} (st : State c f k made) → NoneFree st.expression
    here_none_free st = plug_none_free st.contexts st.expression (safe.none_free st.reached)

    module _ {c : List Cell} {f : List Frame} {i place : ℕ} {made : Counts} (st : State c f (Focus.Row i place) made) where
      pub at_lam : {p b : ℕ} → term_at m i ≡ Lam p b → State c f (Focus.Datum (Datum.Function i place)) made
      at_lam lam = moved st st.contexts st.expression refl (lam_control lam st.control) st.stack

      pub at_num : {n : ℕ} → term_at m i ≡ Num n → State c f (Focus.Datum (Datum.Number (word (row i)) n)) made
      at_num is = moved st st.contexts st.expression refl (num_control is st.control) st.stack

      pub at_enc : {x n : ℕ} → term_at m i ≡ Enc x n → State c f (Focus.Datum (Datum.Number (word (row i)) n)) made
      at_enc is = moved st st.contexts st.expression refl (enc_control is st.control) st.stack

      pub at_var : {x j : ℕ} → term_at m i ≡ Var x → Found c made.applications place x j → State c f (Focus.Datum (cell_in c j).datum) made
      at_var is found = moved st st.contexts st.expression refl (var_control is found (here_none_free st) st.control) st.stack

      -- A frame is pushed.
      pub at_app : {x a : ℕ} → term_at m i ≡ App x a → State c (Frame.Argument (Focus.Row a place) ∷ f) (Focus.Row x place) made
      unfolding close
      at_app {x} {a} is = go st.control refl
        where
          go : {e : Expression} → Control m word c made.applications (Focus.Row i place) e → e ≡ st.expression → State c (Frame.Argument (Focus.Row a place) ∷ f) (Focus.Row x place) made
          go (a_row {σ = σ} h binds) at =
              let (hx, ha) = subst (TermStands (words m.schemes) (length m.params) i) is (w.terms_stand i h) in
              moved st (argument (close σ (row_of m word a)) ∷ st.contexts) (close σ (row_of m word x))
              (ap (plug st.contexts) (sym at ∙ ap (close σ) (row_expression_lem i h (App x a) is)))
              (a_row (omega arith) binds)
              (on_argument (a_row (omega arith) binds) st.stack)

      pub at_op : {o l r : ℕ} → term_at m i ≡ Op o l r → State c (Frame.Right o (Focus.Row r place) ∷ f) (Focus.Row l place) made
      unfolding close
      at_op {o} {l} {r} is = go st.control refl
        where
          go : {e : Expression} → Control m word c made.applications (Focus.Row i place) e → e ≡ st.expression → State c (Frame.Right o (Focus.Row r place) ∷ f) (Focus.Row l place) made
          go (a_row {σ = σ} h binds) at =
              let (ho, hl, hr) = subst (TermStands (words m.schemes) (length m.params) i) is (w.terms_stand i h) in
              moved st (right o (close σ (row_of m word r)) ∷ st.contexts) (close σ (row_of m word l))
              (ap (plug st.contexts) (sym at ∙ ap (close σ) (row_expression_lem i h (Op o l r) is)))
              (a_row (omega arith) binds)
              (on_right ho (a_row (omega arith) binds) st.stack)

      -- No frame more: what is no value has its next step inside, in more contexts than are allowed.
      pub deep : (Finished st.expression → ⊥) → most_contexts < length f → Ends (refused 30 made)
      deep open-e h = go (safe.goes st.reached)
        where
          go : Goes (Tagged (ruling m)) (plug st.contexts st.expression) → Ends (refused 30 made)
          go (over v) = absurd (plug_no_value st.contexts st.expression open-e v)
          go (on s) =
              let (c', e', inner, at) = plug_inside (stack_upright st.stack) st.expression open-e s in
              st.tail _ (too_deep s (omega (arith, stack_length st.stack)))

      pub row_in_list : i < length m.terms
      row_in_list = go st.control
        where
          go : {e : Expression} → Control m word c made.applications (Focus.Row i place) e → i < length m.terms
          go (a_row h binds) = h

      -- Its parameters are bound in cells that there are.
      pub row_place : place ≤ made.applications
      row_place = go st.control
        where
          go : {e : Expression} → Control m word c made.applications (Focus.Row i place) e → place ≤ made.applications
          go (a_row h binds) = binds_low binds

      pub app_open : {x a : ℕ} → term_at m i ≡ App x a → Finished st.expression → ⊥
      unfolding close
      app_open {x} {a} is = go st.control
        where
          go : {e : Expression} → Control m word c made.applications (Focus.Row i place) e → Finished e → ⊥
          go (a_row {σ = σ} h binds) fin = subst (λ (e : Expression). Finished (close σ e)) (row_expression_lem i h (App x a) is) fin

      pub op_open : {o l r : ℕ} → term_at m i ≡ Op o l r → Finished st.expression → ⊥
      unfolding close
      op_open {o} {l} {r} is = go st.control
        where
          go : {e : Expression} → Control m word c made.applications (Focus.Row i place) e → Finished e → ⊥
          go (a_row {σ = σ} h binds) fin = subst (λ (e : Expression). Finished (close σ e)) (row_expression_lem i h (Op o l r) is) fin

    -- A value is looked at.
    value_means : {c : List Cell} {count : ℕ} {v : Datum} {e : Expression} → Control m word c count (Focus.Datum v) e → Means m word c count v e
    value_means (a_value means) = means

    -- Under no frame the run is over.
    bottom_only : {c : List Cell} {count : ℕ} {R : List Context} → Stack m word c count [] R → R ≡ []
    bottom_only bottom = refl

    module _ {c : List Cell} {made : Counts} where
      pub ends_with_number : {n t : ℕ} → State c [] (Focus.Datum (Datum.Number t n)) made → Ends (ended (a_number n t) made)
      ends_with_number {n} {t} st = st.tail _ (rw (bottom_only st.stack) (go (value_means st.control)))
        where
          go : {e : Expression} → Means m word c made.applications (Datum.Number t n) e → Runs (Tagged (ruling m)) budget e made (ended (a_number n t) made)
          go Means.a_number = ends_number

      pub ends_with_function : {i l : ℕ} → State c [] (Focus.Datum (Datum.Function i l)) made → Ends (ended a_function made)
      unfolding close
      ends_with_function {i} {l} st = st.tail _ (rw (bottom_only st.stack) (go (value_means st.control)))
        where
          go : {e : Expression} → Means m word c made.applications (Datum.Function i l) e → Runs (Tagged (ruling m)) budget e made (ended a_function made)
          go (Means.a_function h lam own) = ends_function

    module _ {c : List Cell} {f : List Frame} {v : Datum} {made : Counts} where
      -- The frame waits for a function: its argument is next.
      pub take_argument : {k : Focus} → State c (Frame.Argument k ∷ f) (Focus.Datum v) made → State c (Frame.Called v ∷ f) k made
      take_argument st =
          let (e, R, at, control, s) = argument_top st.stack in
          moved st (called st.expression ∷ R) e (ap (λ (Q : List Context). plug Q st.expression) at) control (on_called (value_means st.control) s)

      -- The frame waits for a left operand: the right one is next.
      pub take_right : {o : ℕ} {k : Focus} → State c (Frame.Right o k ∷ f) (Focus.Datum v) made → State c (Frame.Left o v ∷ f) k made
      take_right {o = o} st =
          let (five, e, R, at, control, s) = right_top st.stack in
          moved st (left o st.expression ∷ R) e (ap (λ (Q : List Context). plug Q st.expression) at) control (on_left five (value_means st.control) s)

    module _ {c : List Cell} {x : Frame} {f : List Frame} {v : Datum} {made : Counts} (st : State c (x ∷ f) (Focus.Datum v) made) where
      -- Exactly the budget's steps were made, and a context stands around the value, so the run is not over.
      pub spent : steps made ≡ budget → Ends (refused 30 made)
      spent all = st.tail _ (out_of_budget (go st.stack (omega arith)) all)
        where
          go : {g : List Frame} {R : List Context} → Stack m word c made.applications g R → 0 < length g → ¬ Value (plug R st.expression)
          go bottom some = let z : ⊥ = omega arith in absurd z
          go (on_argument {R = R} k s) some = plug_no_value R _ (λ h. h)
          go (on_called {R = R} v s) some = plug_no_value R _ (λ h. h)
          go (on_right {R = R} five k s) some = plug_no_value R _ (λ h. h)
          go (on_left {R = R} five v s) some = plug_no_value R _ (λ h. h)

    module _ {c : List Cell} {f : List Frame} {u v : Datum} {made : Counts} (st : State c (Frame.Called u ∷ f) (Focus.Datum v) made) where
      -- A called frame holds a function.
      pub called_function : (i : ℕ) × (l : ℕ) × (u ≡ Datum.Function i l) × (i < length m.terms) × (p : ℕ) × (b : ℕ) × (term_at m i ≡ Lam p b)
      called_function = let (e, R, at, means, s) = called_top st.stack in inner e R at means s (safe.goes st.reached)
        where
          inner : (e : Expression) (R : List Context) → st.contexts ≡ called e ∷ R → Means m word c made.applications u e → Stack m word c made.applications f R →
              Goes (Tagged (ruling m)) (plug st.contexts st.expression) →
              (i : ℕ) × (l : ℕ) × (u ≡ Datum.Function i l) × (i < length m.terms) × (p : ℕ) × (b : ℕ) × (term_at m i ≡ Lam p b)
          inner e R at means s (over h) = absurd (plug_no_value R (apply e st.expression) (λ h. h) (rw at at h))
          inner e R at means s (on step) =
              let (c', e', st', eq) = plug_inside (stack_upright s) (apply e st.expression) (λ h. h) (rw at at step) in
              let (p, b, same) = applies_function e st.expression (means_value means) (means_value (value_means st.control)) st' in
              means_function means same

    module _ {c : List Cell} {f : List Frame} {v : Datum} {i l : ℕ} {made : Counts} (st : State c (Frame.Called (Datum.Function i l) ∷ f) (Focus.Datum v) made) where
      -- Where its parameters are bound there are cells.
      pub called_place : l ≤ made.applications
      called_place = let (e, R, at, means, s) = called_top st.stack in low means
        where
          low : {e : Expression} → Means m word c made.applications (Datum.Function i l) e → l ≤ made.applications
          low (Means.a_function h lam own) = binds_low own

      -- One application: the function's parameter is bound in a new cell.
      pub applies_on : {c' : List Cell} {j p b : ℕ} → ¬ (steps made ≡ budget) → length f ≤ most_contexts → term_at m i ≡ Lam p b →
          Kept c c' made.applications → j ≡ made.applications → cell_in c' j ≡ record { param = p; next = l; datum = v } → State c' f (Focus.Row b (suc j)) (counted application made)
      unfolding close
      applies_on {c'} {j} {p} {b} unspent shallow lam kept at_j new = let (e, R, at, means, s) = called_top st.stack in bound_in means s (sym at)
        where
          bound_in : {e : Expression} {R : List Context} → Means m word c made.applications (Datum.Function i l) e →
              Stack m word c made.applications f R → called e ∷ R ≡ st.contexts → State c' f (Focus.Row b (suc j)) (counted application made)
          bound_in {R = R} (Means.a_function {p = q} {b = x} {τ = τ} h lam' own) s at =
              let same_p : q ≡ p = cc (lam, lam') in
              let same_b : x ≡ b = cc (lam, lam') in
              let e = st.expression in
              let step : Step (Tagged (ruling m)) (length R + 0) application (plug R (apply (function q (close (without q τ) (row_of m word x))) e)) (plug R (close (extended p e τ) (row_of m word b))) =
              subst (λ (y : Expression). Step (Tagged (ruling m)) (length R + 0) application (plug R (apply (function q (close (without q τ) (row_of m word x))) e)) (plug R y))
              (substituted_close q e (row_of m word x) τ (binds_good own) ∙ ap₂ (λ (q x : ℕ). close (extended q e τ) (row_of m word x)) same_p same_b)
              (plug_step (stack_upright s) (applies (means_value (value_means st.control)))) in
              let shallow' : length R + 0 ≤ most_contexts = omega (arith, stack_length s) in
              let whole : plug R (apply (function q (close (without q τ) (row_of m word x))) e) ≡ plug st.contexts e = ap (λ (Q : List Context). plug Q e) at in
              let step' = subst (λ (y : Expression). Step (Tagged (ruling m)) (length R + 0) application y (plug R (close (extended p e τ) (row_of m word b)))) whole step in
              record {
                expression = close (extended p e τ) (row_of m word b);
                contexts = R;
                control = a_row {i = b} (omega (arith, (subst (TermStands (words m.schemes) (length m.params) i) lam (w.terms_stand i h)).1, h)) (binds_new kept (value_means st.control) (here_none_free st) own at_j new);
                stack = stack_cells {count' = made.applications + 1} kept (omega arith) s;
                reached = reaches_step st.reached step' applying;
                within = omega (arith, st.within);
                tail = λ o r. st.tail o (steps_on unspent shallow' step' applying r);
              }

    module _ {c : List Cell} {f : List Frame} {o : ℕ} {u v : Datum} {made : Counts} (st : State c (Frame.Left o u ∷ f) (Focus.Datum v) made) where
      -- The operation of a frame that holds a left operand is one of the five.
      pub left_operation : o < 5
      left_operation = (left_top st.stack).0

      -- The operands of an operation are numbers of one tag, under which it works; and what its step is.
      pub record Operands : Type 0 where
        pub x : ℕ
        pub y : ℕ
        pub tag : ℕ
        pub left_is : u ≡ Datum.Number tag x
        pub right_is : v ≡ Datum.Number tag y
        pub R : List Context
        pub stack : Stack m word c made.applications f R
        pub step : Step (Tagged (ruling m)) (length R + 0) (operation (calculated o x y)) (plug st.contexts st.expression) (plug R (number (calculated o x y) (result_tag o tag)))

      pub operands : Operands
      operands = let (five, e, R, at, means, s) = left_top st.stack in inner e R at means s (safe.goes st.reached)
        where
          inner : (e : Expression) (R : List Context) → st.contexts ≡ left o e ∷ R → Means m word c made.applications u e → Stack m word c made.applications f R →
              Goes (Tagged (ruling m)) (plug st.contexts st.expression) → Operands
          inner e R at means s (over h) = absurd (plug_no_value R (operate o e st.expression) (λ h. h) (rw at at h))
          inner e R at means s (on step) =
              let (c', e', st', eq) = plug_inside (stack_upright s) (operate o e st.expression) (λ h. h) (rw at at step) in
              let (a, b, tag, ev, ee, works) = operates_numbers o e st.expression (means_value means) (means_value (value_means st.control)) st' in
              let whole : plug R (operate o (number a tag) (number b tag)) ≡ plug st.contexts st.expression = rw (← ee, ← ev, at) refl in
              record {
                x = a;
                y = b;
                tag = tag;
                left_is = means_number means ev;
                right_is = means_number (value_means st.control) ee;
                R = R;
                stack = s;
                step = subst (λ (q : Expression). Step (Tagged (ruling m)) (length R + 0) (operation (calculated o a b)) q (plug R (number (calculated o a b) (result_tag o tag)))) whole
                    (plug_step (stack_upright s) (operates works));
              }

      module _ {x y t s : ℕ} (left_at : u ≡ Datum.Number t x) (right_at : v ≡ Datum.Number s y) where
        -- The step on the operands that the frame and the point hold.
        operated : Operands → (R : List Context)
            × (length R ≡ length f)
            × Stack m word c made.applications f R
            × Step (Tagged (ruling m)) (length R + 0) (operation (calculated o x y)) (plug st.contexts st.expression) (plug R (number (calculated o x y) (result_tag o s)))
        operated here =
            let ex : x ≡ here.x = cc (here.left_is, left_at) in
            let ey : y ≡ here.y = cc (here.right_is, right_at) in
            let es : s ≡ here.tag = cc (here.right_is, right_at) in
            (here.R, stack_length here.stack, here.stack, rw (ex, ey, es) here.step)

        pub operates_on : ¬ (steps made ≡ budget) → length f ≤ most_contexts → calculated o x y ≤ largest_number →
            State c f (Focus.Datum (Datum.Number (result_tag o s) (calculated o x y))) (counted (operation (calculated o x y)) made)
        operates_on unspent shallow fits =
            let (R, size, s', step) = operated operands in
            let shallow' : length R + 0 ≤ most_contexts = omega arith in
            record {
              expression = number (calculated o x y) (result_tag o s);
              contexts = R;
              control = a_value Means.a_number;
              stack = s';
              reached = reaches_step st.reached step (in_range fits);
              within = omega (arith, st.within);
              tail = λ q r. st.tail q (steps_on unspent shallow' step (in_range fits) r);
            }

        pub overflows_at : ¬ (steps made ≡ budget) → length f ≤ most_contexts → largest_number < calculated o x y → Ends (refused 29 made)
        overflows_at unspent shallow past =
            let (R, size, s', step) = operated operands in
            let shallow' : length R + 0 ≤ most_contexts = omega arith in
            st.tail _ (overflows unspent shallow' step past)
