-- What the closed test answers.
use Rattle.std.specs.Prelude.{ℕ, ◌+◌, ◌<◌, Bool, true, false, ◌≡◌, length}
use Rattle.model.specs.Machine.{Machine, term_at, used}
use Rattle.model.specs.Closed.{Closed, Inside}
use Rattle.model.specs.declared.Term.TheVariants.{Var}

-- The answer is that of document 01's condition.
pub record Decides (m : Machine) (answer : Bool) : Type 0 where
  pub closed : answer ≡ true → Closed m
  pub not_closed : answer ≡ false → Closed m → ⊥

-- The part of the condition that speaks of the tree: "every term row but the last is a child", and "every VAR stands inside the body ..".
pub record Tree (m : Machine) : Type 0 where
  pub every_child : (i : ℕ) → i + 1 < length m.terms → used m.terms i ≡ true
  pub in_scope : (v p : ℕ) → v < length m.terms → term_at m v ≡ Var p → Inside m p v

pub record DecidesTree (m : Machine) (answer : Bool) : Type 0 where
  pub tree : answer ≡ true → Tree m
  pub no_tree : answer ≡ false → Closed m → ⊥

-- Every number below the count passes the test.
pub record DecidesAll (test : ℕ → Bool) (count : ℕ) (answer : Bool) : Type 0 where
  pub all : answer ≡ true → (p : ℕ) → p < count → test p ≡ true
  pub not-all : answer ≡ false → ((p : ℕ) → p < count → test p ≡ true) → ⊥
