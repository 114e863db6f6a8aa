-- `unification::unify` and `unify_arrows` end since a merge leaves a root less, and what follows it until the next merge is one step.
use Prim.Native.Nat.{◌+◌, ◌*◌}
use Rattle.graph.specs.Types.{roots}
use Rattle.unification.proofs.+unify_unify_arrows.Given as goal

abbrev pub decreases-unify : goal.decreases-unify
decreases-unify l = 2 * roots l.types.now.parents

abbrev pub decreases-unify_arrows : goal.decreases-unify_arrows
decreases-unify_arrows l = 2 * roots l.types.now.parents + 1
