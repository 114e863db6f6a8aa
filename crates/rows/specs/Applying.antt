-- What the steps of an APP row leave of the pending pairs.
use Rattle.std.specs.Prelude.{ℕ, ◌<◌, ◌≤◌, Bool, true, false, List, ◌≡◌, length, get_or, ⊤, Result, Ok, Err}
use Rattle.layout.specs.Layout.{row_type, qualifiers_from}
use Rattle.graph.specs.Types.{Types}
use Rattle.graph.specs.Steady.{Calm, RootOfEither}
use Rattle.qualifiers.specs.Classes.{Qualifiers, Imposed}
use Rattle.qualifiers.specs.declared.Apart.{Apart}
use Rattle.pending.specs.Pending.{Pending, Sweeps}

-- Where two nodes are made one, no class becomes an arrow, and the roots of both are marked; or one may. No mark is lost.
pub record Foreseen (T : Types) (c c' : List ℕ) (x y : ℕ) (r : Bool) : Type 0 where
  pub calm : r ≡ false → Calm T x y
  pub marked : r ≡ false → (s : ℕ) → RootOfEither T x y s → 0 < get_or c' s 0
  pub stays : (s : ℕ) → 0 < get_or c s 0 → 0 < get_or c' s 0
  pub size : length c ≡ length c'

-- The pairs were looked through, or are as they were.
pub data LookedIf (R : List ℕ) (T : Types) (Q Q' : Qualifiers) (P P' : Pending) (closes : Bool) : Result ⊤ Apart → Type 0 where
  swept : {s : Result ⊤ Apart} → Sweeps R T Q Q' P P' s → LookedIf R T Q Q' P P' closes s
  still : {x : ⊤} → closes ≡ false → Q' ≡ Q → P ≡ P' → LookedIf R T Q Q' P P' closes (Ok x)

-- The root of a marked class was looked through; one that is not marked has its own pair made PLAIN, and the pairs stay as they are.
pub data MadePlain (R : List ℕ) (T : Types) (Q Q' : Qualifiers) (P P' : Pending) (r : ℕ) : Result ⊤ Apart → Type 0 where
  looked : {s : Result ⊤ Apart} → Sweeps R T Q Q' P P' s → MadePlain R T Q Q' P P' r s
  alone : {x : ⊤} → (get_or P.crowded r 0 ≡ 0) → (row_type 0 ≤ r) → Imposed R Q Q' (λ v. v (qualifiers_from r) ≡ v 0) (λ m. (qualifiers_from r < m) × (0 < m)) true →
      P ≡ P' → MadePlain R T Q Q' P P' r (Ok x)
  apart : {e : Apart} → (row_type 0 ≤ r) → Imposed R Q Q' (λ v. v (qualifiers_from r) ≡ v 0) (λ m. (qualifiers_from r < m) × (0 < m)) false → P ≡ P' → MadePlain R T Q Q' P P' r (Err e)
  -- a type row that is not marked has no pairs
  bare : {x : ⊤} → (get_or P.crowded r 0 ≡ 0) → (r < row_type 0) → Q' ≡ Q → P ≡ P' → MadePlain R T Q Q' P P' r (Ok x)
