-- What the readings of the nodes say of the typings of document 01, at each strength.
use Prim.Native.Nat.{ℕ, ◌-◌, ◌<◌, ◌≤◌}
use native.Mathlib.Omega.{arith}
use mathlib.Core.Bool.{Bool, true, false, cond}
use mathlib.Core.List.{List}
use mathlib.Core.Path.{◌≡◌, refl, sym, subst, ◌∙◌}
use lib.Dec.{ltb}
use lib.ListN.{length}
use Rattle.layout.specs.Readings.{Constant, Coded}
use Rattle.layout.specs.Layout.{row_qualifier}
use Rattle.scheme.specs.Schemes.{words, below, highest_of, Sound}
use Rattle.scheme.specs.Rule.{highest_at, under, Ruled}
use Rattle.scheme.specs.Qualifier.{code, qualifier}
use Rattle.scheme.proofs.Qualifier.{code_below}
use Rattle.scheme.proofs.Schemes.{sound_few, highest_code}
use Rattle.scheme.proofs.Rule.{under_same, under_codes}
use Rattle.model.specs.Machine.{Machine, term_at}
use Rattle.model.specs.WellFormed.{WellFormed, TermStands}
use Rattle.model.specs.Typing.{Ty, int, arrow, Qualified, Assignment, Follows, PlainArrows, Typing, Typable, RowMeets}
use Rattle.model.specs.declared.Term.{Term}
use Rattle.model.specs.declared.Term.TheVariants.{Lam, App, Op, Var, Num, Enc}
use Rattle.model.specs.Strength.{whole, unordered, erased}
use Rattle.model.specs.Inference.{ruling}
use Rattle.model.proofs.Weaker.{map_assignment, weaker_follows, weaker_rules, weaker_typing}
use Rattle.readings.specs.Nodes.{assignment, Meets, Plain, RowFits, FitsAll}
use Rattle.readings.proofs.Numbers.{coded, coded_same, numbered, loose, blind, whole_numbered, numbered_whole, unordered_loose, loose_unordered, erased_blind, blind_erased}
use Rattle.readings.proofs.Typable.{node_type, node_qualifier, word_node, row_qualifier_node, nodes_meet, nodes_plain, follows_of_meets, typing_of_meets}

-- The reading of a typing over the qualifiers of the machine's table.
abbrev pub whole_nodes : (m : Machine) → Assignment (ruling m).Q → ℕ → ℕ
whole_nodes m s = node_qualifier (words m.schemes) (coded m.schemes) (map_assignment code s)

abbrev pub whole_types : (m : Machine) → Assignment (ruling m).Q → ℕ → Ty ℕ
whole_types m s = node_type (map_assignment code s)

-- Where there is one qualifier only, it is PLAIN everywhere.
plain_erased : (τ : Ty (Unit {0})) → PlainArrows tt tt τ
plain_erased int = tt
plain_erased (arrow a t r u) = (refl, plain_erased t, plain_erased u)

typing_erased : (m : Machine) (k : ℕ) (s : Assignment (erased (ruling m)).Q) → Follows (erased (ruling m)) m k s → Typing (erased (ruling m)) m k s
typing_erased m k s follows =
    record {
      follows = follows;
      functions =
          record {
            types = λ t h. plain_erased (s.type t);
            params = λ p h. plain_erased (s.param p).type;
            rows = λ i below h. plain_erased (s.row i).type;
          };
    }

below_cond : (w : ℕ) (b : Bool) (x y : ℕ) → x < w → y < w → cond b x y < w
below_cond w true x y h l = h
below_cond w false x y h l = l

module _ (m : Machine) (wf : WellFormed m) (k : ℕ) where
  sound : Sound m.schemes
  sound = wf.schemes_sound

  few : words m.schemes ≤ 9
  few = sound_few sound

  -- Each typing is a reading that meets the rows.
  pub whole_meets : (s : Assignment (ruling m).Q) → Typing (whole (ruling m)) m k s → Meets m k (whole_types m s) (whole_nodes m s)
  whole_meets s typing =
      nodes_meet m wf (coded m.schemes) (numbered m.schemes).Fits k (map_assignment code s) (weaker_follows (whole_numbered m.schemes sound) typing.follows)

  pub whole_plain : (s : Assignment (ruling m).Q) → Typing (whole (ruling m)) m k s → Plain m k (whole_types m s) (whole_nodes m s)
  whole_plain s typing =
      let numbers = weaker_typing (whole_numbered m.schemes sound) typing in
      nodes_plain m wf (coded m.schemes) (numbered m.schemes).Fits k (map_assignment code s) numbers.follows numbers.functions

  pub loose_meets : (s : Assignment (ruling m).Q) → Typing (unordered (ruling m)) m k s → Meets m k (whole_types m s) (whole_nodes m s)
  loose_meets s typing = nodes_meet m wf (coded m.schemes) (loose m.schemes).Fits k (map_assignment code s) (weaker_follows (unordered_loose m.schemes) typing.follows)

  pub loose_plain : (s : Assignment (ruling m).Q) → Typing (unordered (ruling m)) m k s → Plain m k (whole_types m s) (whole_nodes m s)
  loose_plain s typing =
      let numbers = weaker_typing (unordered_loose m.schemes) typing in
      nodes_plain m wf (coded m.schemes) (loose m.schemes).Fits k (map_assignment code s) numbers.follows numbers.functions

  pub nodes_constant : (s : Assignment (ruling m).Q) → Constant (words m.schemes) (whole_nodes m s)
  nodes_constant s c h = word_node (words m.schemes) few (coded m.schemes) (map_assignment code s) c h ∙ coded_same m.schemes c h

  pub nodes_coded : (s : Assignment (ruling m).Q) → Coded (words m.schemes) (whole_nodes m s)
  nodes_coded s x h =
      below_cond (words m.schemes) (ltb x (words m.schemes)) _ _ (code_below (qualifier (length m.schemes.names) x))
      (below_cond (words m.schemes) (ltb x 73) _ _ (code_below (s.variable (x - words m.schemes))) (code_below (s.row (x - 73)).qualifier))

  -- No reading, no typing.
  pub none_erased : ((t : ℕ → Ty ℕ) (v : ℕ → ℕ) → Meets m k t v → ⊥) → ¬ Typable (erased (ruling m)) m k
  none_erased none (s, typing) =
      none _ _ (nodes_meet m wf (λ c. 0) (blind m.schemes).Fits k (map_assignment (erased_blind m.schemes).image s) (weaker_follows (erased_blind m.schemes) typing.follows))

  pub none_unordered : ((t : ℕ → Ty ℕ) (v : ℕ → ℕ) → Constant (words m.schemes) v → Meets m k t v → Plain m k t v → ⊥) → ¬ Typable (unordered (ruling m)) m k
  none_unordered none (s, typing) = none _ _ (nodes_constant s) (loose_meets s typing) (loose_plain s typing)

  -- A reading is a typing.
  pub some_erased : (t : ℕ → Ty ℕ) → Meets m k t (λ x. 0) → Typable (erased (ruling m)) m k
  some_erased t meets =
      let follows = follows_of_meets m wf (λ c. 0) (blind m.schemes).Fits k t (λ x. 0) (λ c h. refl) (λ i below in_list o l r is. tt) meets in
      (_, typing_erased m k (map_assignment (blind_erased m.schemes).image (assignment m t (λ x. 0))) (weaker_follows (blind_erased m.schemes) follows))

  pub some_unordered : (t : ℕ → Ty ℕ) (v : ℕ → ℕ) → Constant (words m.schemes) v → Meets m k t v → Plain m k t v → Typable (unordered (ruling m)) m k
  some_unordered t v constant meets plain =
      weaker_rules (loose_unordered m.schemes)
      (assignment m t v, typing_of_meets m wf (coded m.schemes) (loose m.schemes).Fits k t v (λ c h. constant c h ∙ sym (coded_same m.schemes c h)) (λ i below in_list o l r is. tt) meets plain)

  -- With the ruling of the table, "at or below" in the rows is the table's.
  module _ (R : List ℕ) (rules : Ruled m.schemes R) where
    row_fits : (s : Assignment (ruling m).Q) (i : ℕ) (term : Term) (ρ : Qualified (ruling m).Q) → TermStands (words m.schemes) (length m.params) i term →
        RowMeets (whole (ruling m)) s term ρ → RowFits R term (whole_nodes m s)
    row_fits s i (Lam p b) ρ st h = tt
    row_fits s i (App f a) ρ st h = tt
    row_fits s i (Op o l r) ρ st h =
        let node = row_qualifier_node (words m.schemes) few (coded m.schemes) (map_assignment code s) l in
        let bound : below m.schemes (code (s.row l).qualifier) (highest_of m.schemes o) ≡ true =
        rw (coded_same m.schemes (highest_of m.schemes o) (highest_code sound o st.0)) at h.3 in
        rw (node, rules.highest_same o st.0) (under_same sound rules _ _ (code_below (s.row l).qualifier) (highest_code sound o st.0) ∙ bound)
    row_fits s i (Var p) ρ st h = tt
    row_fits s i (Num n) ρ st h = tt
    row_fits s i (Enc e n) ρ st h = tt

    pub whole_fits : (s : Assignment (ruling m).Q) → Typing (whole (ruling m)) m k s → FitsAll R m k (whole_nodes m s)
    whole_fits s typing i below in_list = row_fits s i (term_at m i) (s.row i) (wf.terms_stand i in_list) (typing.follows.rows_meet i below in_list)

    pub none_whole : ((t : ℕ → Ty ℕ) (v : ℕ → ℕ) → Constant (words m.schemes) v → Coded (words m.schemes) v → Meets m k t v → Plain m k t v → FitsAll R m k v → ⊥) → ¬ Typable (whole (ruling m)) m k
    none_whole none (s, typing) = none _ _ (nodes_constant s) (nodes_coded s) (whole_meets s typing) (whole_plain s typing) (whole_fits s typing)

    op_fits : (v : ℕ → ℕ) (i : ℕ) (term : Term) → TermStands (words m.schemes) (length m.params) i term → RowFits R term v → (o l r : ℕ) → term ≡ Op o l r →
        below m.schemes (v (row_qualifier l)) (highest_of m.schemes o) ≡ true
    op_fits v i term st fits o l r is =
        let stands : (o < 5) × (l < i) × (r < i) = subst (λ (t : Term). TermStands (words m.schemes) (length m.params) i t) is st in
        let bound : under R (v (row_qualifier l)) (highest_at R o) ≡ true = subst (λ (t : Term). RowFits R t v) is fits in
        let named : under R (v (row_qualifier l)) (highest_of m.schemes o) ≡ true = rw (rules.highest_same o stands.0) at bound in
        sym (under_same sound rules _ _ (omega (arith, (under_codes R _ _ named).0, rules.words_same)) (highest_code sound o stands.0)) ∙ named

    pub whole_typing : (t : ℕ → Ty ℕ) (v : ℕ → ℕ) → Constant (words m.schemes) v → Meets m k t v → Plain m k t v → FitsAll R m k v →
        Typing (whole (ruling m)) m k (map_assignment (qualifier (length m.schemes.names)) (assignment m t v))
    whole_typing t v constant meets plain fits =
        weaker_typing (numbered_whole m.schemes sound)
        (typing_of_meets m wf (coded m.schemes) (numbered m.schemes).Fits k t v (λ c h. constant c h ∙ sym (coded_same m.schemes c h))
        (λ i below in_list o l r is. op_fits v i (term_at m i) (wf.terms_stand i in_list) (fits i below in_list) o l r is) meets plain)

    pub some_whole : (t : ℕ → Ty ℕ) (v : ℕ → ℕ) → Constant (words m.schemes) v → Meets m k t v → Plain m k t v → FitsAll R m k v → Typable (whole (ruling m)) m k
    some_whole t v constant meets plain fits = (map_assignment (qualifier (length m.schemes.names)) (assignment m t v), whole_typing t v constant meets plain fits)
