-- Each place is filled in by its call.
use borrow.Author.Rules.{rules}
use Rattle.scheme.proofs.Chains.{filled_made}
use Rattle.derive.specs.Orders.{both_below}
use Rattle.derive.proofs.order.Order.below_both.Goals as goal

pub returns : goal.returns
unfolding both_below
returns c = filled_made _ _ c.from_fn.ensures.items (λ x b q k. search rules)
