-- Each of the first i numbers is like none but itself.
use Rattle.std.proofs.Common.{ℕ, Bool, true, ◌≡◌, ◌<◌}
use Rattle.schemes.specs.Pairs.{alone}
use Rattle.schemes.proofs.pairs.apart.Given as goal

abbrev pub invariant-loop-i : goal.invariant-loop-i
invariant-loop-i g l =
    (like : ℕ → ℕ → Bool) → ((i j : ℕ) (r : Bool) → i < l.n → j < l.n → goal.F-post g l.alike i j r → r ≡ like i j) → (k : ℕ) → k < l.i → alone like l.n k ≡ true
