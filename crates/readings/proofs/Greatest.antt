-- The words of a solved program are the greatest, attained together, and its shapes are as document 01 says.
use Prim.Native.Nat.{ℕ, zero, suc, ◌+◌, ◌-◌, ◌<◌}
use native.Mathlib.Omega.{arith}
use mathlib.Core.List.{List}
use mathlib.Core.Bool.{Bool, true, false, cond}
use mathlib.Core.Path.{◌≡◌, refl, sym, ap, subst, ◌∙◌}
use lib.Dec.{ltb}
use lib.ListN.{length}
use borrow.Author.Tests.{lt-ltb, le-ltb}
use Rattle.layout.specs.Layout.{row_type, row_qualifier, nodes}
use Rattle.scheme.specs.Qualifier.{code, qualifier}
use Rattle.scheme.specs.Schemes.{words, below}
use Rattle.scheme.specs.Rule.{under, Ruled}
use Rattle.scheme.proofs.Qualifier.{code_below}
use Rattle.scheme.proofs.Rule.{under_same}
use Rattle.model.specs.Machine.{Machine, param_at}
use Rattle.model.specs.WellFormed.{WellFormed}
use Rattle.model.specs.Typing.{Ty, int, arrow, Assignment}
use Rattle.model.specs.Inference.{ruling, Slot, variable, param, row, Listed, slot_qualifier, type_of, IsInt, is_int, IsArrow, is_arrow, Shape, Types, ShapeSays, GreatestTyping}
use Rattle.model.proofs.Weaker.{map_type, map_assignment}
use Rattle.readings.specs.Nodes.{assignment, node_word, kind_shape, node_shape, Solution, Solved}
use Rattle.scheme.proofs.Schemes.{sound_few}
use Rattle.readings.proofs.Numbers.{coded, coded_same}
use Rattle.readings.proofs.Typable.{type_node, row_type_node, code_node, row_qualifier_node}
use Rattle.readings.proofs.Strengths.{whole_nodes, whole_types, whole_meets, whole_plain, whole_fits, nodes_constant, nodes_coded, whole_typing}

-- The shape of a type is kept when its qualifiers are replaced.
int_of_map : {Q Q' : Type 0} (f : Q → Q') (τ : Ty Q) → map_type f τ ≡ int → IsInt τ
int_of_map f int e = is_int
int_of_map f (arrow q t q' t') e = let z : ◌≡◌ {A = ℕ} 0 1 = cc in absurd (omega arith)

arrow_of_map : {Q Q' : Type 0} (f : Q → Q') (τ : Ty Q) {q : Q'} {a : Ty Q'} {r : Q'} {b : Ty Q'} → map_type f τ ≡ arrow q a r b → IsArrow τ
arrow_of_map f int e = let z : ◌≡◌ {A = ℕ} 0 1 = cc in absurd (omega arith)
arrow_of_map f (arrow q t q' t') e = is_arrow

-- The nodes of a slot.
abbrev qualifier_node : Machine → Slot → ℕ
qualifier_node m (variable k) = k + words m.schemes
qualifier_node m (param p) = (param_at m p).qualifier
qualifier_node m (row i) = row_qualifier i

module _ (m : Machine) (wf : WellFormed m) (R : List ℕ) (rules : Ruled m.schemes R) (s : Assignment (ruling m).Q) (typing : Types (ruling m) m s) where
  -- A typing is a solution.
  solution : Solution R m (whole_types m s) (whole_nodes m s)
  solution =
      record {
        meets = whole_meets m wf (length m.terms) s typing;
        plain = whole_plain m wf (length m.terms) s typing;
        constant = nodes_constant m wf (length m.terms) s;
        coded = nodes_coded m wf (length m.terms) s;
        fits = whole_fits m wf (length m.terms) R rules s typing;
      }

  map_code : (b : Bool) (x y : (ruling m).Q) → code (cond b x y) ≡ cond b (code x) (code y)
  map_code true x y = refl
  map_code false x y = refl

  -- What the typing gives a slot stands at the slot's node.
  slot_qualifier_lem : (x : Slot) → Listed (ruling m) m x → whole_nodes m s (qualifier_node m x) ≡ code (slot_qualifier s x)
  slot_qualifier_lem (variable k) l =
      let e : k + words m.schemes - words m.schemes ≡ k = omega arith in
      rw (le-ltb (k + words m.schemes) (words m.schemes) (omega arith), lt-ltb (k + words m.schemes) 73 (omega (arith, l.0, sound_few wf.schemes_sound)), e)
  slot_qualifier_lem (param p) l =
      let c : ℕ = (param_at m p).qualifier in
      code_node (words m.schemes) (sound_few wf.schemes_sound) (coded m.schemes) (map_assignment code s) c (wf.params_stand p l).0
      ∙ sym (ap code (typing.follows.params_agree p l).0 ∙ map_code (ltb c (words m.schemes)) (qualifier (length m.schemes.names) c) (s.variable (c - words m.schemes)))
  slot_qualifier_lem (row i) l = row_qualifier_node (words m.schemes) (sound_few wf.schemes_sound) (coded m.schemes) (map_assignment code s) i

  param_type : (p : ℕ) → p < length m.params → whole_types m s (param_at m p).typerow ≡ map_type code (s.param p).type
  param_type p l =
      type_node (map_assignment code s) _ (omega (arith, (wf.params_stand p l).1, wf.types_fit)) ∙ ap (map_type code) (sym (typing.follows.params_agree p l).1)

  row_type_lem : (i : ℕ) → whole_types m s (row_type i) ≡ map_type code (s.row i).type
  row_type_lem i = row_type_node (map_assignment code s) i

-- A shape is ANY only where the kind is unknown.
any_unknown : (kind : ℕ) → kind_shape kind ≡ Shape.any → kind ≡ 0
unfolding kind_shape
any_unknown zero e = refl
any_unknown (suc zero) e = cc
any_unknown (suc (suc d)) e = cc

module _ (m : Machine) (wf : WellFormed m) (R : List ℕ) (rules : Ruled m.schemes R) (w kind : ℕ → ℕ) (solved : Solved R m w kind) where
  -- The qualifier of a code.
  abbrev named : ℕ → (ruling m).Q
  named = qualifier (length m.schemes.names)

  -- A solution is a typing.
  typed : {t : ℕ → Ty ℕ} {v : ℕ → ℕ} → Solution R m t v → Types (ruling m) m (map_assignment named (assignment m t v))
  typed {t} {v} solution = whole_typing m wf (length m.terms) R rules t v solution.constant solution.meets solution.plain solution.fits

  in_words : (x : ℕ) → x < nodes → w x < words m.schemes
  in_words = solved.attained.1.coded

  in_range : (x : Slot) → Listed (ruling m) m x → qualifier_node m x < nodes
  in_range (variable k) l = omega (arith, l.0, sound_few wf.schemes_sound)
  in_range (param p) l = omega (arith, (wf.params_stand p l).0, sound_few wf.schemes_sound)
  in_range (row i) l = omega (arith, wf.terms_fit)

  word_node : (x : Slot) → node_word m w x ≡ w (qualifier_node m x)
  word_node (variable k) = refl
  word_node (param p) = refl
  word_node (row i) = refl

  greatest : (s : Assignment (ruling m).Q) → Types (ruling m) m s → (x : Slot) → Listed (ruling m) m x → below m.schemes (code (slot_qualifier s x)) (code (named (node_word m w x))) ≡ true
  greatest s typing x l =
      let at-node = solved.above _ _ (solution m wf R rules s typing) (qualifier_node m x) (in_range x l) in
      let word : w (qualifier_node m x) < words m.schemes = in_words _ (in_range x l) in
      let same : under R (code (slot_qualifier s x)) (w (qualifier_node m x)) ≡ true = rw (slot_qualifier_lem m wf R rules s typing x l) at at-node in
      rw (word_node x, coded_same m.schemes (w (qualifier_node m x)) word)
      (sym (under_same wf.schemes_sound rules _ _ (code_below (slot_qualifier s x)) word) ∙ same)

  -- The shape of a node whose type a typing has, by its kind.
  shape_says : (x : Slot) (node : ℕ) → node < nodes →
      ((s : Assignment (ruling m).Q) → Types (ruling m) m s → whole_types m s node ≡ map_type code (type_of s x)) →
      ((t : ℕ → Ty ℕ) (v : ℕ → ℕ) → type_of (map_assignment named (assignment m t v)) x ≡ map_type named (t node)) →
      (k : ℕ) → kind node ≡ k → ShapeSays (ruling m) m x (kind_shape k)
  unfolding kind_shape
  shape_says x node h same given zero e =
      let number = solved.attained in
      let function = solved.function node h e in (
        (_, typed number.1, subst IsInt (sym (given number.0 w ∙ ap (map_type named) (number.2 node h e))) is_int),
        (_, typed function.2, subst IsArrow (sym (given function.0 function.1 ∙ ap (map_type named) function.3)) is_arrow),
      )
  shape_says x node h same given (suc zero) e = λ s typing.
      int_of_map code (type_of s x) (sym (same s typing) ∙ solved.ints _ _ (solution m wf R rules s typing) node h e)
  shape_says x node h same given (suc (suc d)) e = λ s typing.
      let is = solved.arrows _ _ (solution m wf R rules s typing) node h (omega arith) in
      arrow_of_map code (type_of s x) (sym (same s typing) ∙ is.4)

  shaped : (x : Slot) → Listed (ruling m) m x → ShapeSays (ruling m) m x (node_shape m kind x)
  shaped (variable k) l = λ s typing. is_int
  shaped (param p) l =
      shape_says (param p) (param_at m p).typerow (omega (arith, (wf.params_stand p l).1, wf.types_fit)) (λ s typing. param_type m wf R rules s typing p l) (λ t v. refl) _ refl
  shaped (row i) l = shape_says (row i) (row_type i) (omega (arith, wf.terms_fit)) (λ s typing. row_type_lem m wf R rules s typing i) (λ t v. refl) _ refl

  attained : (x : Slot) → slot_qualifier (map_assignment named (assignment m solved.attained.0 w)) x ≡ named (node_word m w x)
  attained (variable k) = refl
  attained (param p) = refl
  attained (row i) = refl

  any_is_int : (x : Slot) → Listed (ruling m) m x → node_shape m kind x ≡ Shape.any → IsInt (type_of (map_assignment named (assignment m solved.attained.0 w)) x)
  any_is_int (variable k) l e = is_int
  any_is_int (param p) l e =
      subst IsInt (sym (ap (map_type named) (solved.attained.2 _ (omega (arith, (wf.params_stand p l).1, wf.types_fit)) (any_unknown _ e)))) is_int
  any_is_int (row i) l e = subst IsInt (sym (ap (map_type named) (solved.attained.2 (row_type i) (omega (arith, wf.terms_fit)) (any_unknown _ e)))) is_int

  pub solved_greatest : GreatestTyping (ruling m) m (node_word m w) (node_shape m kind)
  solved_greatest =
      record {
        worded = λ x l. rw (word_node x) (in_words _ (in_range x l));
        greatest = greatest;
        shaped = shaped;
        together = (_, typed solved.attained.1, λ x l. attained x, any_is_int);
      }
