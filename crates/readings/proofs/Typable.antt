-- From typings to readings and back, at each strength.
use Prim.Native.Nat.{ℕ, ◌+◌, ◌-◌, ◌<◌, ◌≤◌}
use native.Mathlib.Omega.{arith}
use mathlib.Core.Bool.{Bool, true, false, cond}
use mathlib.Core.Path.{◌≡◌, refl, sym, ◌∙◌}
use lib.Dec.{ltb}
use lib.ListN.{length}
use borrow.Author.Tests.{lt-ltb, le-ltb, ltb-true}
use Rattle.layout.specs.Layout.{row_type, row_qualifier}
use Rattle.scheme.specs.Schemes.{words}
use Rattle.model.specs.Machine.{Machine, type_at, param_at, term_at}
use Rattle.model.specs.WellFormed.{WellFormed, TypeStands, TermStands}
use Rattle.model.specs.Typing.{Ty, Rules, Assignment, Follows, FunctionsPlain, Typing, meaning, TypeAgrees, RowMeets}
use Rattle.model.specs.declared.TypeForm.{TypeForm}
use Rattle.model.specs.declared.TypeForm.TheVariants.{Int, Any, Arrow}
use Rattle.model.specs.declared.Term.{Term}
use Rattle.model.specs.declared.Term.TheVariants.{Lam, App, Op, Var, Num, Enc}
use Rattle.readings.specs.Nodes.{assignment, free, Meets, Plain}
use Rattle.readings.proofs.Rows.{meaning_node}
use Rattle.scheme.proofs.Schemes.{sound_few}

-- The nodes of an assignment.
abbrev pub node_type : Assignment ℕ → ℕ → Ty ℕ
node_type s x = cond (ltb x 64) (s.type x) (s.row (x - 64)).type

abbrev pub node_qualifier : ℕ → (ℕ → ℕ) → Assignment ℕ → ℕ → ℕ
node_qualifier w word s x = cond (ltb x w) (word x) (cond (ltb x 73) (s.variable (x - w)) (s.row (x - 73)).qualifier)

module _ (s : Assignment ℕ) where
  pub type_node : (x : ℕ) → x < 64 → node_type s x ≡ s.type x
  type_node x h = rw (lt-ltb x 64 h)

  pub row_type_node : (i : ℕ) → node_type s (row_type i) ≡ (s.row i).type
  row_type_node i = let e : row_type i - 64 ≡ i = omega arith in rw (le-ltb (row_type i) 64 (omega arith), e)

module _ (w : ℕ) (few : w ≤ 9) (word : ℕ → ℕ) (s : Assignment ℕ) where
  pub word_node : (c : ℕ) → c < w → node_qualifier w word s c ≡ word c
  word_node c h = rw (lt-ltb c w h)

  pub row_qualifier_node : (i : ℕ) → node_qualifier w word s (row_qualifier i) ≡ (s.row i).qualifier
  row_qualifier_node i = let e : row_qualifier i - 73 ≡ i = omega arith in rw (le-ltb (row_qualifier i) w (omega arith), le-ltb (row_qualifier i) 73 (omega arith), e)

  -- A code means what its node has.
  pub code_node : (c : ℕ) → c < w + 64 → node_qualifier w word s c ≡ cond (ltb c w) (word c) (s.variable (c - w))
  code_node c h = rw (lt-ltb c 73 (omega arith))

-- An assignment over numbers that types the rows, read at its nodes, meets them.
module _ (m : Machine) (wf : WellFormed m) (word : ℕ → ℕ) (Fits : ℕ → ℕ → Type 0) (k : ℕ) (s : Assignment ℕ) where
  few : words m.schemes ≤ 9
  few = sound_few wf.schemes_sound

  abbrev rules : Rules
  rules = record { Q = ℕ; words = words m.schemes; word = word; Fits = Fits }

  abbrev t : ℕ → Ty ℕ
  t = node_type s

  abbrev v : ℕ → ℕ
  v = node_qualifier (words m.schemes) word s

  -- What a code means is the same on both sides.
  meaning_same : (c : ℕ) → c < words m.schemes + 64 → meaning rules s c ≡ meaning (free m v) (assignment m t v) c
  meaning_same c h = sym (meaning_node m t v c ∙ code_node (words m.schemes) few word s c h)

  type_same : (x : ℕ) (form : TypeForm) → x < 64 → TypeStands (words m.schemes) x form → TypeAgrees rules s form (s.type x) → TypeAgrees (free m v) (assignment m t v) form (t x)
  type_same x Int h st e = type_node s x h ∙ e
  type_same x Any h st e = tt
  type_same x (Arrow q a q' b) h st e =
      cc (type_node s x h, e, type_node s a (omega (arith, st.1)), type_node s b (omega (arith, st.3)), meaning_same q st.0, meaning_same q' st.2)

  module _ (follows : Follows rules m k s) where
    -- A parameter has what its line's nodes have.
    param_qualifier : (p : ℕ) → p < length m.params → (s.param p).qualifier ≡ v (param_at m p).qualifier
    param_qualifier p h =
        (follows.params_agree p h).0 ∙ meaning_same _ (wf.params_stand p h).0 ∙ meaning_node m t v (param_at m p).qualifier

    param_type : (p : ℕ) → p < length m.params → (s.param p).type ≡ t (param_at m p).typerow
    param_type p h =
        (follows.params_agree p h).1 ∙ sym (type_node s _ (omega (arith, (wf.params_stand p h).1, wf.types_fit)))

    row_same : (i : ℕ) (term : Term) → TermStands (words m.schemes) (length m.params) i term → RowMeets rules s term (s.row i) →
        RowMeets (free m v) (assignment m t v) term ((assignment m t v).row i)
    row_same i (Lam p b) st h = (
      cc (h.0, row_qualifier_node (words m.schemes) few word s i, word_node (words m.schemes) few word s 0 (omega arith)),
      cc (h.1, row_type_node s i, param_qualifier p st.0, param_type p st.0, row_qualifier_node (words m.schemes) few word s b, row_type_node s b),
    )
    row_same i (App f a) st h = cc (h, row_type_node s f, row_qualifier_node (words m.schemes) few word s a, row_type_node s a, row_qualifier_node (words m.schemes) few word s i, row_type_node s i)
    row_same i (Op o l r) st h = (
      cc (h.0, row_type_node s l),
      cc (h.1, row_type_node s r),
      cc (h.2, row_qualifier_node (words m.schemes) few word s l, row_qualifier_node (words m.schemes) few word s r),
      tt,
      cc (h.4, row_qualifier_node (words m.schemes) few word s i, row_qualifier_node (words m.schemes) few word s l, word_node (words m.schemes) few word s 0 (omega arith)),
      cc (h.5, row_type_node s i),
    )
    row_same i (Var p) st h =
        (cc (h.0, row_qualifier_node (words m.schemes) few word s i, param_qualifier p st), cc (h.1, row_type_node s i, param_type p st))
    row_same i (Num n) st h = cc (h, row_type_node s i)
    row_same i (Enc e n) st h =
        (cc (h.0, row_qualifier_node (words m.schemes) few word s i, word_node (words m.schemes) few word s e (omega (arith, st.1))), cc (h.1, row_type_node s i))

    pub nodes_meet : Meets m k (node_type s) (node_qualifier (words m.schemes) word s)
    nodes_meet =
        record {
          types_agree = λ x h. type_same x (type_at m x) (omega (arith, wf.types_fit)) (wf.types_stand x h) (follows.types_agree x h);
          params_agree = λ p h. (sym (meaning_node m t v (param_at m p).qualifier), refl);
          rows_meet = λ i below h. row_same i (term_at m i) (wf.terms_stand i h) (follows.rows_meet i below h);
        }

    pub nodes_plain : FunctionsPlain rules m k s → Plain m k (node_type s) (node_qualifier (words m.schemes) word s)
    nodes_plain functions =
        let plain : word 0 ≡ v 0 = sym (word_node (words m.schemes) few word s 0 (omega arith)) in
        record {
          types = λ x h. rw (plain, sym (type_node s x (omega (arith, wf.types_fit)))) at (functions.types x h);
          params = λ p h. rw (plain, param_qualifier p h, param_type p h) at (functions.params p h);
          rows = λ i below h. rw (plain, sym (row_qualifier_node (words m.schemes) few word s i), sym (row_type_node s i)) at (functions.rows i below h);
        }

-- A reading that gives the constants their words, and meets the bounds that the rules ask, is a typing of those rules.
module _ (m : Machine) (wf : WellFormed m) (word : ℕ → ℕ) (Fits : ℕ → ℕ → Type 0) (k : ℕ) (t : ℕ → Ty ℕ) (v : ℕ → ℕ)
    (own : (c : ℕ) → c < words m.schemes → v c ≡ word c) where
  abbrev worded : Rules
  worded = record { Q = ℕ; words = words m.schemes; word = word; Fits = Fits }

  -- Codes mean the same with the words in place of the nodes.
  meaning_worded : (c : ℕ) → meaning worded (assignment m t v) c ≡ meaning (free m v) (assignment m t v) c
  meaning_worded c = go (ltb c (words m.schemes)) refl
    where
      go : (b : Bool) → ltb c (words m.schemes) ≡ b → cond (ltb c (words m.schemes)) (word c) (v (c - words m.schemes + words m.schemes)) ≡ cond (ltb c (words m.schemes)) (v c) (v (c - words m.schemes + words m.schemes))
      go true e = rw e (sym (own c (ltb-true c (words m.schemes) e)))
      go false e = rw e

  type_worded : (form : TypeForm) (τ : Ty ℕ) → TypeAgrees (free m v) (assignment m t v) form τ → TypeAgrees worded (assignment m t v) form τ
  type_worded Int τ e = e
  type_worded Any τ e = tt
  type_worded (Arrow q a q' b) τ e = cc (e, meaning_worded q, meaning_worded q')

  functions_of_plain : Plain m k t v → FunctionsPlain worded m k (assignment m t v)
  functions_of_plain plain =
      let plain_own : v 0 ≡ word 0 = own 0 (omega arith) in
      record {
        types = λ x h. rw plain_own at (plain.types x h);
        params = λ p h. rw plain_own at (plain.params p h);
        rows = λ i below h. rw plain_own at (plain.rows i below h);
      }

  module _ (fits : (i : ℕ) → i < k → i < length m.terms → (o l r : ℕ) → term_at m i ≡ Op o l r → Fits o (v (row_qualifier l))) where
    row_worded : (i : ℕ) (term : Term) → term_at m i ≡ term → i < k → i < length m.terms → TermStands (words m.schemes) (length m.params) i term →
        RowMeets (free m v) (assignment m t v) term ((assignment m t v).row i) → RowMeets worded (assignment m t v) term ((assignment m t v).row i)
    row_worded i (Lam p b) is below in_list st h = (h.0 ∙ own 0 (omega arith), h.1)
    row_worded i (App f a) is below in_list st h = h
    row_worded i (Op o l r) is below in_list st h = (h.0, h.1, h.2, fits i below in_list o l r is, cc (h.4, own 0 (omega arith)), h.5)
    row_worded i (Var p) is below in_list st h = h
    row_worded i (Num n) is below in_list st h = h
    row_worded i (Enc e n) is below in_list st h = (h.0 ∙ own e (omega (arith, st.1)), h.1)

    pub follows_of_meets : Meets m k t v → Follows worded m k (assignment m t v)
    follows_of_meets meets =
        record {
          types_agree = λ x h. type_worded (type_at m x) (t x) (meets.types_agree x h);
          params_agree = λ p h. ((meets.params_agree p h).0 ∙ sym (meaning_worded (param_at m p).qualifier), refl);
          rows_meet = λ i below h. row_worded i (term_at m i) refl below h (wf.terms_stand i h) (meets.rows_meet i below h);
        }

    pub typing_of_meets : Meets m k t v → Plain m k t v → Typing worded m k (assignment m t v)
    typing_of_meets meets plain = record { follows = follows_of_meets meets; functions = functions_of_plain plain }
