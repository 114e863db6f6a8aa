-- Of the first j numbers only i itself is like i.
use Rattle.std.proofs.Common.{ℕ, Bool, ◌≡◌, ◌<◌}
use Rattle.schemes.proofs.Apart.{Differ}
use Rattle.schemes.proofs.pairs.alone.Given as goal

abbrev pub invariant-loop-j : goal.invariant-loop-j
invariant-loop-j g l =
    (like : ℕ → ℕ → Bool) → ((j : ℕ) (r : Bool) → j < l.n → goal.F-post g l.alike l.i j r → r ≡ like l.i j) → (k : ℕ) → k < l.j → Differ like l.i k
