-- The parts of the condition, put together.
use Prim.Native.Nat.{ℕ, ◌≤◌, ◌<◌}
use native.Mathlib.Omega.{arith}
use mathlib.Core.Bool.{Bool, true, false, false≢true}
use mathlib.Core.Path.{◌≡◌, sym, ◌∙◌}
use lib.ListN.{length}
use Rattle.model.specs.Machine.{Machine, bound}
use Rattle.model.specs.Closed.{Closed}
use Rattle.closed.specs.Members.{member}
use Rattle.closed.specs.Decides.{Decides, DecidesAll, DecidesTree}

module _ (m : Machine) where
  refuted : (Closed m → ⊥) → Decides m false
  refuted no-closed = record { closed = λ e. absurd (false≢true e); not_closed = λ e. no-closed }

  pub no_rows : (n : ℕ) → n ≡ length m.terms → n ≡ 0 → Decides m false
  no_rows n count none = refuted (λ closed. omega (arith, closed.some_row))

  module _ (set count : ℕ) (gathered : (p : ℕ) → p < 64 → member set p ≡ bound m.terms p) (params : count ≡ length m.params) (fits : count ≤ 64) (all : Bool) (test : DecidesAll (member set) count all) where
    pub not_all_bound : all ≡ false → Decides m false
    not_all_bound h =
        refuted λ closed.
        test.not-all h λ p below.
        gathered p (omega arith) ∙ closed.every_bound p (omega arith)

    pub tree_decides : all ≡ true → (n : ℕ) → n ≡ length m.terms → (n ≡ 0 → ⊥) → (answer : Bool) → DecidesTree m answer → Decides m answer
    tree_decides h n rows some answer tree =
        record {
          closed = λ e.
              let t = tree.tree e in
              record {
                some_row = omega arith;
                every_child = t.every_child;
                every_bound = λ p below. sym (gathered p (omega arith)) ∙ test.all h p (omega arith);
                in_scope = t.in_scope;
              };
          not_closed = tree.no_tree;
        }
