-- An OP row, exit by exit.
use Prim.Native.Nat.{ℕ, ◌+◌, ◌<◌}
use native.Mathlib.Omega.{arith}
use mathlib.Core.Bool.{Bool, true, false, cond}
use mathlib.Core.List.{List}
use mathlib.Core.Path.{◌≡◌, refl, sym, ap, subst, ◌∙◌}
use lib.ListN.{set}
use Rattle.std.specs.Prelude.{⊤, Result, Ok, Err}
use Rattle.layout.specs.Layout.{row_type, row_qualifier}
use Rattle.scheme.specs.Rule.{highest_at, under}
use Rattle.scheme.specs.Operation.{keeps, result_of}
use Rattle.model.specs.Typing.{Ty, int}
use Rattle.model.specs.declared.Term.TheVariants.{Op}
use Rattle.forest.specs.Forest.{up, here, Hung}
use Rattle.forest.proofs.Links.{by_eq, up_other}
use Rattle.graph.specs.Types.{TypeClasses, Equation, types_of}
use Rattle.graph.specs.Unused.{Unused}
use Rattle.graph.specs.Steady.{Steady}
use Rattle.graph.proofs.Steady.{steady_then, steady_kind}
use Rattle.qualifiers.specs.Classes.{bound_at, Classes, United, Class, Restricted, Untouched, Within, qualifiers_of}
use Rattle.qualifiers.proofs.Uniting.{new_alike, untouched_more}
use Rattle.readings.specs.Nodes.{RowHolds, RowFits}
use Rattle.unification.specs.Merging.{Always, Reduced, MadeInt}
use Rattle.unification.proofs.Merging.{intact_after}
use Rattle.unification.proofs.Unused.{unused_kind, unused_more}
use Rattle.unification.proofs.Fresh.{new_int}
use Rattle.pending.specs.Pending.{Pending, Watched}
use Rattle.unification.specs.declared.Conflict.TheVariants.{Clash}
use Rattle.rows.specs.Steps.{Extended, Ready, Stepped, left_by, OwnPlain}
use Rattle.rows.specs.declared.Failure.{Failure}
use Rattle.rows.specs.declared.Failure.TheVariants as failures
use Rattle.rows.proofs.Steps.{Taken, taken_beside, Equated, equated, equated_then, equated_as, extended, extended_below, parted}
use Rattle.rows.proofs.Watching.{watched_same, carried_same}

-- The result's node is the operands' or PLAIN's.
pub result_one : (P : ℕ → Type 0) (o l : ℕ) {r : ℕ} → r ≡ result_of o l → P l → P 0 → P r
unfolding result_of
result_one P o l is own plain = subst P (sym is) (go (keeps o))
  where
    go : (b : Bool) → P (cond b l 0)
    go true = own
    go false = plain

-- It has what the rule says of the result.
result_node : (o l : ℕ) (v : ℕ → ℕ) → v (result_of o l) ≡ cond (keeps o) (v l) (v 0)
unfolding result_of
result_node o l v = go (keeps o)
  where
    go : (b : Bool) → v (cond b l 0) ≡ cond b (v l) (v 0)
    go true = refl
    go false = refl

-- That is the same for the operand's root as for the operand.
result_alike : (o x y : ℕ) {r : ℕ} (v : ℕ → ℕ) → r ≡ result_of o x → v x ≡ v y → v r ≡ v (result_of o y)
result_alike o x y v is e = ap v is ∙ result_node o x v ∙ ap (λ (a : ℕ). cond (keeps o) a (v 0)) e ∙ sym (result_node o y v)

-- One equation of types after the other.
reduced_beside : {kids u k u₁ k₁ u₂ k₂ : List ℕ} {E F : (ℕ → Ty ℕ) → (ℕ → ℕ) → Type 0} → Reduced kids (types_of u k) (types_of u₁ k₁) E Always → Reduced kids (types_of u₁ k₁) (types_of u₂ k₂) F Always →
    Reduced kids (types_of u k) (types_of u₂ k₂) (λ t v. E t v × F t v) Always
reduced_beside one two =
    record {
      classes = two.classes;
      fewer = omega (arith, one.fewer, two.fewer);
      into = λ t v reads e. two.into t v (one.into t v reads e.0).0 e.1;
      outof = λ t v reads _. let last = two.outof t v reads tt in let first = one.outof t v last.0 tt in (first.0, (first.1, last.1));
    }

module _ {i l r : ℕ} {R u k p b : List ℕ} (o : ℕ) (stands : (i < 256) × (l < i) × (r < i) × (o < 5)) (types : TypeClasses (types_of u k)) (classes : Classes R (qualifiers_of p b)) where
  abbrev Holds : (ℕ → Ty ℕ) → (ℕ → ℕ) → Type 0
  Holds = RowHolds i (Op o l r) 0 0

  abbrev Fits : (ℕ → ℕ) → Type 0
  Fits = RowFits R (Op o l r)

  -- The row's step, whatever pairs are pending: it leaves them all.
  abbrev Steps : (u' k' p' b' : List ℕ) → Result ⊤ Failure → Type 0
  Steps u' k' p' b' answer =
      (kids : List ℕ) (P : Pending) → Ready R i kids (types_of u k) (qualifiers_of p b) P →
      Stepped R i kids (types_of u k) (qualifiers_of p b) P (left_by (types_of u' k') (qualifiers_of p' b') P) Holds Fits (OwnPlain i (Op o l r)) answer

  module _ {u₁ k₁ : List ℕ} {one : Bool} (first : MadeInt (types_of u k) (types_of u₁ k₁) (row_type l) one) where
    unused_first : {n : ℕ} (kids : List ℕ) → row_type i ≡ n → Unused n (types_of u k) kids → Unused n (types_of u₁ k₁) kids
    unused_first {n} kids e = first.stays n kids (omega arith) (omega arith)

    -- The left operand is an arrow.
    pub left_clash : one ≡ false → Steps u₁ k₁ p b (Err (failures.Types Clash))
    left_clash clashed kids P ready =
        let clash = first.clash clashed kids in
        (λ t v reads e. clash.0 t v reads e.0, clash.1, unused_more (unused_first kids refl ready.types) (omega arith), refl)

    module _ (made : one ≡ true) where
      pub left_classes : TypeClasses (types_of u₁ k₁)
      left_classes = (first.made made u).classes

      module _ {u₂ k₂ : List ℕ} {two : Bool} (second : MadeInt (types_of u₁ k₁) (types_of u₂ k₂) (row_type r) two) where
        unused_second : (kids : List ℕ) → Unused (row_type i) (types_of u k) kids → Unused (row_type i) (types_of u₂ k₂) kids
        unused_second kids unused = second.stays (row_type i) kids (omega arith) (omega arith) (unused_first kids refl unused)

        -- The right operand is an arrow.
        pub right_clash : two ≡ false → Steps u₂ k₂ p b (Err (failures.Types Clash))
        right_clash clashed kids P ready =
            let before = first.made made kids in
            let clash = second.clash clashed kids in (
              λ t v reads e. clash.0 t v (before.into t v reads e.0).0 e.1,
              intact_after (λ t reads. (before.outof t (λ x. 0) reads tt).0) clash.1,
              unused_more (unused_second kids ready.types) (omega arith),
              refl,
            )

        module _ (both : two ≡ true) where
          pub right_classes : TypeClasses (types_of u₂ k₂)
          right_classes = (second.made both u).classes

          abbrev k₃ : List ℕ
          k₃ = set k₂ (row_type i) 1

          -- The three types are INT.
          all_int : (kids : List ℕ) → Unused (row_type i) (types_of u k) kids → Reduced kids (types_of u k) (types_of u₂ k₃) (λ t v. ((t (row_type l) ≡ int) × (t (row_type r) ≡ int)) × (t (row_type i) ≡ int)) Always
          all_int kids unused =
              let after = unused_second kids unused in
              reduced_beside (reduced_beside (first.made made kids) (second.made both kids))
              (new_int right_classes (omega arith) (after.own (row_type i) (omega arith) (omega arith)) (after.unknown (row_type i) (omega arith) (omega arith)))

          unused_after : (kids : List ℕ) → Unused (row_type i) (types_of u k) kids → Unused (row_type (i + 1)) (types_of u₂ k₃) kids
          unused_after kids unused =
              unused_kind (unused_more (unused_second kids unused) (omega arith)) (row_type i) 1 (omega arith) (omega arith) right_classes.size (λ h. absurd (omega arith))

          -- INT is no arrow.
          all_steady : Steady (row_type i) (types_of u k) (types_of u₂ k₃) (λ r. ⊥)
          all_steady =
              steady_then (steady_then (first.steady (row_type i) (omega arith)) (second.steady (row_type i) (omega arith))) (steady_kind (row_type i) 1 (omega arith))

          -- The qualifiers that the row asks for.
          abbrev Alikes : (ℕ → ℕ) → Type 0
          Alikes v = (v (row_qualifier r) ≡ v (row_qualifier l)) × (v (row_qualifier i) ≡ v (result_of o (row_qualifier l)))

          taken : (kids : List ℕ) → Unused (row_type i) (types_of u k) kids → Taken kids (types_of u k) (types_of u₂ k₃) Holds Alikes
          taken kids unused =
              taken_beside (all_int kids unused)
              (λ t v e. (((e.0, e.1), e.4), (e.2, e.3 ∙ sym (result_node o (row_qualifier l) v))))
              (λ t v f q. (f.0.0, f.0.1, q.0, q.1 ∙ result_node o (row_qualifier l) v, f.1))

          module _ {p₁ b₁ : List ℕ} where
            -- The operands have two constants.
            pub operands_apart : United R (qualifiers_of p b) (qualifiers_of p₁ b₁) (row_qualifier r) (row_qualifier l) false → Steps u₂ k₃ p₁ b₁ (Err failures.Apart)
            operands_apart apart kids P ready = (
              parted (taken kids ready.types) (refl, refl) (λ v constant linked q. apart.clash refl v constant linked q.0),
              unused_after kids ready.types,
              refl,
            )

            module _ {class : ℕ} (united : United R (qualifiers_of p b) (qualifiers_of p₁ b₁) (row_qualifier r) (row_qualifier l) true) (of : Class b (qualifiers_of p₁ b₁) (row_qualifier l) class) where
              below : class < row_qualifier i
              below = omega (arith, of.low)

              module _ {result : ℕ} {p₂ : List ℕ} (is : result ≡ result_of o class) (placed : p₂ ≡ set p₁ (row_qualifier i) result) (untouched : Untouched R (row_qualifier i) (qualifiers_of p b)) where
                untouched_first : Untouched R (row_qualifier i) (qualifiers_of p₁ b₁)
                untouched_first = united.stays (row_qualifier i) (omega arith, omega arith) untouched

                -- The result is a root, so the row's node is put under it as it is.
                hung : Hung p₁ p₂ (row_qualifier i) result
                hung =
                    record {
                      root = result;
                      found = record {
                        low = omega arith;
                        root = result_one (λ x. up p₁ x ≡ x) o class is (of.root) (united.classes.constants 0 (omega arith));
                        reached = here;
                      };
                      under = placed;
                    }

                result_below : result < row_qualifier i
                result_below = result_one (λ x. x < row_qualifier i) o class is below (omega arith)

                new-result : United R (qualifiers_of p₁ b₁) (qualifiers_of p₂ b₁) (row_qualifier i) result true
                new-result =
                    new_alike united.classes (omega arith) (omega arith) (untouched_first.own (row_qualifier i) (omega arith) (omega arith)) (untouched_first.unbound (row_qualifier i) (omega arith) (omega arith))
                    (omega (arith, result_below)) hung

                equated_row : Equated R (qualifiers_of p b) (qualifiers_of p₂ b₁) Alikes
                equated_row =
                    equated_then (equated united)
                    (equated_as
                    (λ v linked e. e ∙ sym (result_alike o class (row_qualifier l) v is (of.holds v linked)))
                    (λ v linked e. e ∙ result_alike o class (row_qualifier l) v is (of.holds v linked))
                    (equated new-result))

                module _ {most : ℕ} {b₂ : List ℕ} {fits : Bool} (limit : most ≡ highest_at R o) (restricted : Restricted R b₁ b₂ class most fits) where
                  op_extended : {G : Equation} (kids : List ℕ) → Unused (row_type i) (types_of u k) kids → Extended R kids (types_of u k) (qualifiers_of p b) (types_of u₂ k₃) (qualifiers_of p₂ b₂) G Holds Fits
                  op_extended {G} kids unused =
                      subst (λ (n : ℕ). Extended R kids (types_of u k) (qualifiers_of p b) (types_of u₂ k₃) (qualifiers_of p₂ b₂) G Holds (λ v. under R (v (row_qualifier l)) n ≡ true)) limit
                      (extended_below (extended (taken kids unused) equated_row) restricted
                      (rw placed (up_other united.classes.forest (row_qualifier i) result (omega arith) class (λ e. omega (arith, below)) ∙ of.root))
                      (λ v linked. of.holds v (new-result.outof refl v linked).0))

                  -- Only the class's bound has changed, and a constant's was tested.
                  within_after : fits ≡ true → Within R b → Within R b₂
                  within_after fit within c code =
                      by_eq c class
                      (λ e. subst (λ (x : ℕ). under R x (bound_at b₂ x) ≡ true) (sym e) (restricted.own fit (omega arith)))
                      (λ n. ap (under R c) (restricted.others c n ∙ of.others c n) ∙ within c code)

                  watched_after : (kids : List ℕ) (P : Pending) → Ready R i kids (types_of u k) (qualifiers_of p b) P → Watched (i + 1) (types_of u₂ k₃) (qualifiers_of p₂ b₂) P
                  watched_after kids P ready = watched_same ready.watched all_steady (λ v linked. (equated_row.outof v linked).0)

                  pub op_fine : {x : ⊤} → fits ≡ true → Steps u₂ k₃ p₂ b₂ (Ok x)
                  op_fine fit kids P ready = (
                    op_extended kids ready.types,
                    record {
                      types = unused_after kids ready.types;
                      qualifiers = restricted.stays p₂ (row_qualifier (i + 1)) (omega (arith, below))
                          (new-result.stays (row_qualifier (i + 1)) (omega arith, omega (arith, result_below)) (untouched_more (omega arith) untouched_first));
                      within = within_after fit ready.within;
                      watched = watched_after kids P ready;
                    },
                    carried_same (λ t v. tt),
                  )

                  pub op_broken : fits ≡ false → Steps u₂ k₃ p₂ b₂ (Err failures.Broken)
                  op_broken over kids P ready = (
                    op_extended kids ready.types,
                    unused_after kids ready.types,
                    restricted.broken over,
                    (watched_after kids P ready, carried_same (λ t v. tt)),
                  )
