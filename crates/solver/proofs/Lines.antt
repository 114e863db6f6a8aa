-- The pairs of the lines, gathered from the type rows and the parameters, are those that stand together in the machine's lines.
use Prim.Native.Nat.{ℕ, ◌+◌, ◌*◌, ◌<◌, ◌≤◌}
use native.Mathlib.Omega.{arith}
use native.Mathlib.Decide.{dec_lt}
use mathlib.Core.List.{List}
use mathlib.Core.Logic.{◌⊎◌, inl, inr}
use mathlib.Core.Path.{◌≡◌, refl, sym, ap, subst, subst₂, ◌∙◌}
use lib.ListN.{length}
use borrow.Author.Tests.{lt-ltb}
use Rattle.std.specs.Prelude.{⊤, Result, Ok, Err}
use Rattle.scheme.specs.Schemes.{words}
use Rattle.scheme.proofs.Schemes.{sound_few}
use Rattle.layout.specs.Kinds.{int_kind}
use Rattle.layout.specs.Layout.{row_type, row_qualifier, pending_places}
use Rattle.model.specs.Machine.{Machine, type_at}
use Rattle.model.specs.WellFormed.{WellFormed, TypeStands}
use Rattle.model.specs.declared.TypeForm.{TypeForm}
use Rattle.model.specs.declared.TypeForm.TheVariants.{Int, Any, Arrow}
use Rattle.forest.specs.Pairs.{Notes, left_at, right_at, PairsIn}
use Rattle.graph.specs.Types.{Types, types_of, kind_at, argument, result, argument_qualifier, result_qualifier}
use Rattle.qualifiers.specs.Classes.{Qualifiers, qualifiers_of}
use Rattle.qualifiers.specs.declared.Apart.{Apart}
use Rattle.readings.specs.Standing as standing
use Rattle.readings.specs.Standing.{Stands}
use Rattle.setup.specs.Started.{form_kind}
use Rattle.pending.specs.Pending.{Pending, line_pairs, Sweeps}
use Rattle.pending.specs.Lines as lines
use Rattle.pending.specs.Lines.{FormPair, ParamPair, Gathered, Earlier}
use Rattle.solver.specs.Runs.{Governed, LinesOf, Begun, Lined}
use Rattle.solver.proofs.Start.{LinePairs, row_kind_lem, start_after, start_ready, lines_refused}

-- A pair of one of the first type rows or parameters.
abbrev LinePair : (k kids : List ℕ) (typecount : ℕ) (q ty : List ℕ) (paramcount : ℕ) → ℕ → ℕ → Type 0
LinePair k kids typecount q ty paramcount s x = FormPair k kids typecount s x ⊎ ParamPair q ty paramcount s x

-- Those of the parameters were gathered behind those of the type rows.
module _ {kids : List ℕ} {typecount : ℕ} {q ty : List ℕ} {paramcount : ℕ} {k : List ℕ} {N₁ N₂ : Notes} {n₁ n₂ : ℕ}
    (first : Gathered (FormPair k kids typecount) k N₁ 0 n₁ × (n₁ ≤ 2 * typecount))
    (second : Gathered (ParamPair q ty paramcount) k N₂ n₁ n₂ × (n₂ ≤ n₁ + paramcount) × Earlier N₁ N₂ n₁) where
  pub line_sound : (j : ℕ) → j < n₂ → LinePair k kids typecount q ty paramcount (left_at N₂ j) (right_at N₂ j)
  line_sound j h = go (dec_lt j n₁)
    where
      go : Dec (j < n₁) → LinePair k kids typecount q ty paramcount (left_at N₂ j) (right_at N₂ j)
      go (yes below) = let same = second.2 j below in inl (subst₂ (FormPair k kids typecount) (sym same.0) (sym same.1) (first.0.sound j (omega arith) below))
      go (no above) = inr (second.0.sound j (omega arith) h)

  pub line_complete : (s x : ℕ) → LinePair k kids typecount q ty paramcount s x → ((j : ℕ) × (j < n₂) × (left_at N₂ j ≡ s) × (right_at N₂ j ≡ x)) ⊎ (kind_at k x ≡ int_kind)
  line_complete s x (inl pair) = go (first.0.complete s x pair)
    where
      go : ((j : ℕ) × (0 ≤ j) × (j < n₁) × (left_at N₁ j ≡ s) × (right_at N₁ j ≡ x)) ⊎ (kind_at k x ≡ int_kind) → ((j : ℕ) × (j < n₂) × (left_at N₂ j ≡ s) × (right_at N₂ j ≡ x)) ⊎ (kind_at k x ≡ int_kind)
      go (inl (j, from, below, left, right)) = let same = second.2 j below in inl (j, omega (arith, second.0.rising), same.0 ∙ left, same.1 ∙ right)
      go (inr one) = inr one
  line_complete s x (inr pair) = go (second.0.complete s x pair)
    where
      go : ((j : ℕ) × (n₁ ≤ j) × (j < n₂) × (left_at N₂ j ≡ s) × (right_at N₂ j ≡ x)) ⊎ (kind_at k x ≡ int_kind) → ((j : ℕ) × (j < n₂) × (left_at N₂ j ≡ s) × (right_at N₂ j ≡ x)) ⊎ (kind_at k x ≡ int_kind)
      go (inl (j, from, below, left, right)) = inl (j, below, left, right)
      go (inr one) = inr one

  module _ {R : List ℕ} {m : Machine} {u p b : List ℕ} (of : LinesOf R m q ty typecount paramcount) (begun : Begun R m kids (types_of u k) (qualifiers_of p b)) where
    gov : Governed R m
    gov = of.governed

    wf : WellFormed m
    wf = gov.is_well_formed

    -- The pairs of a type row that is an ARROW stand in the machine's lines.
    form_stands : (d : ℕ) (form : TypeForm) → d < length m.types → type_at m d ≡ form → 2 ≤ form_kind d form →
        Stands m 0 (argument_qualifier kids d) (argument kids d) × Stands m 0 (result_qualifier kids d) (result kids d)
    form_stands d Int h is many = absurd (omega arith)
    form_stands d Any h is many = absurd (omega arith)
    form_stands d (Arrow s a s' c) h is many =
        let parts = begun.described.types d h s a s' c is in (
          subst₂ (Stands m 0) (sym parts.has_argument_qualifier) (sym parts.argument) (standing.argument h is),
          subst₂ (Stands m 0) (sym parts.has_result_qualifier) (sym parts.result) (standing.result h is),
        )

    row_stands : (d : ℕ) → d < typecount → 2 ≤ kind_at k d → Stands m 0 (argument_qualifier kids d) (argument kids d) × Stands m 0 (result_qualifier kids d) (result kids d)
    row_stands d h many =
        let at = row_kind_lem gov begun.described begun.started d (omega (arith, of.types, wf.types_fit)) (omega arith) in
        form_stands d (type_at m d) at.0 refl (rw at.1 at many)

    small : (j : ℕ) → j < paramcount → j < 64
    small j h = omega (arith, of.params, wf.params_fit)

    to_stands : (s x : ℕ) → LinePair k kids typecount q ty paramcount s x → Stands m 0 s x
    to_stands s x (inl (lines.argument {d = d} h many)) = (row_stands d h many).0
    to_stands s x (inl (lines.result {d = d} h many)) = (row_stands d h many).1
    to_stands s x (inr (lines.param {p = j} h)) =
        subst₂ (Stands m 0) (sym (of.noted.qualifier j (small j h))) (sym (of.noted.typerow j (small j h))) (standing.param (omega (arith, of.params)))

    -- The kind of an ARROW row is an arrow's.
    arrow_kind_lem : (d : ℕ) {s a s' c : ℕ} → d < length m.types → type_at m d ≡ Arrow s a s' c → 2 ≤ kind_at k d
    arrow_kind_lem d h is =
        let kind : kind_at k d ≡ form_kind d (type_at m d) = begun.started.kinds d (omega (arith, wf.types_fit)) ∙ rw (lt-ltb _ _ h) in
        let arrow : kind_at k d ≡ d + 2 = kind ∙ ap (form_kind d) is in
        omega arith

    of_stands : (s x : ℕ) → Stands m 0 s x → LinePair k kids typecount q ty paramcount s x
    of_stands s x (standing.argument {t = d} h is) =
        let parts = begun.described.types d h _ _ _ _ is in
        inl (subst₂ (FormPair k kids typecount) parts.has_argument_qualifier parts.argument (lines.argument {d = d} (omega (arith, of.types)) (arrow_kind_lem d h is)))
    of_stands s x (standing.result {t = d} h is) =
        let parts = begun.described.types d h _ _ _ _ is in
        inl (subst₂ (FormPair k kids typecount) parts.has_result_qualifier parts.result (lines.result {d = d} (omega (arith, of.types)) (arrow_kind_lem d h is)))
    of_stands s x (standing.param {p = j} h) =
        let below : j < paramcount = omega (arith, of.params) in
        inr (subst₂ (ParamPair q ty paramcount) (of.noted.qualifier j (small j below)) (of.noted.typerow j (small j below)) (lines.param {p = j} below))
    of_stands s x (standing.row below h) = let z : ⊥ = omega arith in absurd z

    -- The nodes of the pairs.
    stands_nodes : (s x : ℕ) → Stands m 0 s x → (s < row_qualifier 0) × (x < row_type 0)
    stands_nodes s x (standing.argument {t = d} h is) =
        let st = subst (TypeStands (words m.schemes) d) is (wf.types_stand d h) in
        (omega (arith, st.0, sound_few wf.schemes_sound), omega (arith, st.1, wf.types_fit))
    stands_nodes s x (standing.result {t = d} h is) =
        let st = subst (TypeStands (words m.schemes) d) is (wf.types_stand d h) in
        (omega (arith, st.2, sound_few wf.schemes_sound), omega (arith, st.3, wf.types_fit))
    stands_nodes s x (standing.param {p = j} h) =
        (omega (arith, (wf.params_stand j h).0, sound_few wf.schemes_sound), omega (arith, (wf.params_stand j h).1, wf.types_fit))
    stands_nodes s x (standing.row below h) = let z : ⊥ = omega arith in absurd z

    pair_nodes : (j : ℕ) → j < n₂ → (left_at N₂ j < row_qualifier 0) × (right_at N₂ j < row_type 0)
    pair_nodes j h = stands_nodes _ _ (to_stands _ _ (line_sound j h))

    few : n₂ ≤ line_pairs
    few = omega (arith, first.1, second.1, of.types, of.params, wf.types_fit, wf.params_fit)

    pub line_pairs_lem : PairsIn pending_places N₂ n₂
    line_pairs_lem =
        record {
          fits = omega (arith, few);
          left_node = λ j h. omega (arith, (pair_nodes j h).0);
          right_node = λ j h. omega (arith, (pair_nodes j h).1);
        }

-- The pairs of the lines of a machine, gathered and looked through.
pub lined : {R kids q ty : List ℕ} {T : Types} {Q : Qualifiers} {m : Machine} {typecount paramcount n₁ : ℕ} {N₁ : Notes} (P : Pending) (Q' : Qualifiers) (P' : Pending) (r : Result ⊤ Apart) →
    Gathered (FormPair T.kinds kids typecount) T.kinds N₁ 0 n₁ × (n₁ ≤ 2 * typecount) →
    Gathered (ParamPair q ty paramcount) T.kinds P.pairs n₁ P.count × (P.count ≤ n₁ + paramcount) × Earlier N₁ P.pairs n₁ →
    LinesOf R m q ty typecount paramcount → Begun R m kids T Q → Sweeps R T Q Q' P P' r → Lined R m kids T Q' P' r
lined {R} {kids} {q} {ty} {T} {Q} {m} P Q' P' r first second of begun = go r
  where
    pairs : LinePairs m T.kinds P
    pairs =
        record {
          few = few first second of begun;
          nodes = pair_nodes first second of begun;
          sound = λ j h. to_stands first second of begun _ _ (line_sound first second j h);
          complete = λ s x stands. line_complete first second s x (of_stands first second of begun s x stands);
        }

    go : (r : Result ⊤ Apart) → Sweeps R T Q Q' P P' r → Lined R m kids T Q' P' r
    go (Ok x) swept = (
      start_after of.governed begun.described begun.started pairs swept,
      start_ready of.governed begun.described begun.started pairs swept,
    )
    go (Err e) apart = lines_refused of.governed begun.described begun.started pairs of.some apart.0
