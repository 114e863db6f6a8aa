-- A call of the arrow of a descriptor, exit by exit.
use Prim.Native.Nat.{ℕ, ◌+◌, ◌<◌}
use native.Mathlib.Omega.{arith}
use mathlib.Core.List.{List}
use mathlib.Core.Logic.{inl, inr, ⊎_elim}
use mathlib.Core.Path.{subst}
use Rattle.std.specs.Prelude.{Result, Ok, Err}
use Rattle.layout.specs.Layout.{nodes, row_type, row_qualifier}
use Rattle.model.specs.Typing.{Ty}
use Rattle.forest.specs.Forest.{Forest, Found, Hung}
use Rattle.forest.specs.Pairs.{Notes, Alike, Noted}
use Rattle.forest.proofs.Links.{find_root}
use Rattle.forest.proofs.Roots.{found_same, found_below}
use Rattle.graph.specs.Types.{Types, argument, argument_qualifier, result, result_qualifier, TypeClasses, Reads, PairRoom, Clashes, Same, types_of}
use Rattle.graph.specs.Unused.{Within, Unused}
use Rattle.graph.specs.Steady.{Steady, Calm, RootOfEither}
use Rattle.graph.proofs.Steady.{steady_then, steady_for, steady_hung}
use Rattle.unification.specs.Answers.{Enforces, Confined}
use Rattle.unification.specs.Merging.{Always, Reduced, Quiet}
use Rattle.unification.specs.declared.Conflict.{Conflict}
use Rattle.unification.specs.declared.Conflict.TheVariants.{Clash, Lost}
use Rattle.unification.proofs.Classes.{roots_most}
use Rattle.unification.proofs.Fresh.{new_same}
use Rattle.unification.proofs.Merging.{intact_after}
use Rattle.unification.proofs.Noting.{noted_pairs, noted_into, noted_outof, noted_below}
use Rattle.unification.proofs.Unused.{unused_hung}
use Rattle.rows.specs.Steps.{Calls}

-- At the start of a row there are no pairs, and room for all that can come.
no_pairs : (u : List ℕ) (N : Notes) → PairRoom u N 0
no_pairs u N =
    record {
      pairs = record { fits = omega arith; left_node = λ i h. absurd (omega arith); right_node = λ i h. absurd (omega arith) };
      enough = omega (arith, roots_most u);
    }

-- Below a node that is put under another the roots are the same.
module _ {u u₂ : List ℕ} {x y : ℕ} (forest : Forest u) (below : x < nodes) (hung : Hung u u₂ x y) where
  hung_before : {z s : ℕ} → z < x → Found u₂ z s → Found u z s
  hung_before {z} {s} h found = found_below forest x hung.root below h (subst (λ (l : List ℕ). Found l z s) hung.under found)

  hung_after : {z s : ℕ} → Forest u₂ → z < x → Found u z s → Found u₂ z s
  hung_after {z} forest₂ h found =
      let there = find_root forest₂ z (omega arith) in
      subst (Found u₂ z) (found_same (hung_before h there.1) found) there.1

  calm_hung : (k : List ℕ) {a b : ℕ} → Forest u₂ → a < x → b < x → Calm (types_of u k) a b → Calm (types_of u₂ k) a b
  calm_hung k {a} {b} forest₂ ha hb =
      ⊎_elim
      (λ one. let same : (r : ℕ) → Found u₂ a r → Found u₂ b r = λ r found. hung_after forest₂ hb (one r (hung_before ha found)) in inl same)
      (λ none. inr ((λ r found. none.0 r (hung_before ha found)), λ r found. none.1 r (hung_before hb found)))

-- The row's own node is put under the result's, and two pairs of qualifiers are noted.
module _ {kids u k : List ℕ} {i a d : ℕ} (stands : (i < 256) × (a < i) × Within (row_type i) kids d) (types : TypeClasses (types_of u k)) (unused : Unused (row_type i) (types_of u k) kids)
    {u₂ : List ℕ} {N N₁ N₂ : Notes} {n₁ n₂ : ℕ} (hung : Hung u u₂ (row_type i) (result kids d))
    (one : Noted N N₁ 0 (row_qualifier a) (argument_qualifier kids d) n₁) (next : Noted N₁ N₂ n₁ (row_qualifier i) (result_qualifier kids d) n₂) where
  under_result : Reduced kids (types_of u k) (types_of u₂ k) (Same (row_type i) (result kids d)) Always
  under_result =
      new_same types (omega arith) (unused.own (row_type i) (omega arith) (omega arith)) (unused.unknown (row_type i) (omega arith) (omega arith)) (omega (arith, stands.2.result_node)) hung

  pub call_ready : TypeClasses (types_of u₂ k) × PairRoom u₂ N₂ n₂
  call_ready = (
    under_result.classes,
    record {
      pairs =
          noted_pairs next (omega (arith, one.next)) (omega arith) (omega (arith, stands.2.has_result_qualifier))
          (noted_pairs one (omega arith) (omega arith) (omega (arith, stands.2.has_argument_qualifier)) (no_pairs u N).pairs);
      enough = omega (arith, one.next, next.next, roots_most u₂);
    },
  )

  into : (t : ℕ → Ty ℕ) (v : ℕ → ℕ) → Reads (types_of u k) kids t v → Calls kids d i a t v → Reads (types_of u₂ k) kids t v × Alike N₂ n₂ v × Same (row_type a) (argument kids d) t v
  into t v reads e = (
    (under_result.into t v reads (cc (e))).0,
    noted_into next v (noted_into one v (λ j h. absurd (omega arith)) (cc (e))) (cc (e)),
    cc (e),
  )

  outof : (t : ℕ → Ty ℕ) (v : ℕ → ℕ) → Reads (types_of u₂ k) kids t v → Alike N₂ n₂ v → Same (row_type a) (argument kids d) t v → Reads (types_of u k) kids t v × Calls kids d i a t v
  outof t v reads alike same =
      let own = under_result.outof t v reads tt in
      let results = noted_outof next v alike in
      let arguments = noted_outof one v results.0 in
      (own.0, cc (own.1, results.1, arguments.1, same))

  module _ (T' : Types) (N' : Notes) where
    clash : Clashes kids (types_of u₂ k) (Same (row_type a) (argument kids d)) → Clashes kids (types_of u k) (Calls kids d i a)
    clash none t v reads e = let ahead = into t v reads e in none t v ahead.0 ahead.2

    answered : (r : Result ℕ Conflict) → Enforces kids (types_of u₂ k) N₂ T' N' n₂ (Same (row_type a) (argument kids d)) r →
        Enforces kids (types_of u k) N T' N' 0 (Calls kids d i a) r
    answered (Ok n) last =
        record {
          classes = last.classes;
          room = last.room;
          fewer = omega (arith, under_result.fewer, last.fewer);
          into = λ t v reads alike e. let ahead = into t v reads e in last.into t v ahead.0 ahead.1 ahead.2;
          outof = λ t v reads alike.
              let ahead = last.outof t v reads alike in
              let before = outof t v ahead.0 ahead.1 ahead.2 in
              (before.0, (λ j h. absurd (omega arith)), before.1);
        }
    answered (Err Clash) last = (clash last.0, intact_after (λ t reads. (under_result.outof t _ reads tt).0) last.1)
    answered (Err Lost) last = clash last

    steady : Quiet (types_of u₂ k) T' (row_type a) (argument kids d) → Calm (types_of u k) (row_type a) (argument kids d) →
        Steady (row_type i) (types_of u k) T' (RootOfEither (types_of u k) (row_type a) (argument kids d))
    steady quiet calm =
        let forest = types.forest in
        let own : row_type i < nodes = omega arith in
        let first : row_type a < row_type i = omega arith in
        let second : argument kids d < row_type i = stands.2.argument_node in
        steady_then (steady_hung forest own (omega arith) hung)
        (steady_for (λ r. ⊎_elim (λ found. inl (hung_before forest own hung first found)) (λ found. inr (hung_before forest own hung second found)))
        (quiet (calm_hung forest own hung k under_result.classes.forest first second calm) (row_type i) (omega arith)))

    pub called : (r : Result ℕ Conflict) → Enforces kids (types_of u₂ k) N₂ T' N' n₂ (Same (row_type a) (argument kids d)) r →
        ((m : ℕ) → row_type a < m → argument kids d < m → Confined m kids (types_of u₂ k) N₂ T' N' n₂ r) → Quiet (types_of u₂ k) T' (row_type a) (argument kids d) →
        Enforces kids (types_of u k) N T' N' 0 (Calls kids d i a) r
        × (Confined (row_type (i + 1)) kids (types_of u k) N T' N' 0 r
        × (Calm (types_of u k) (row_type a) (argument kids d) → Steady (row_type i) (types_of u k) T' (RootOfEither (types_of u k) (row_type a) (argument kids d))))
    called r last local quiet = (
      answered r last,
      (
        λ untouched pairs.
            local (row_type (i + 1)) (omega arith) (omega (arith, stands.2.argument_node)) (unused_hung untouched (omega arith) hung)
            (noted_below next (omega arith) (omega (arith, stands.2.has_result_qualifier)) (noted_below one (omega arith) (omega (arith, stands.2.has_argument_qualifier)) pairs)),
        steady quiet,
      ),
    )
