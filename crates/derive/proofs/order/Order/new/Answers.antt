-- Each place is filled in by its call.
use borrow.Author.Rules.{rules}
use Rattle.scheme.proofs.Chains.{filled_made}
use Rattle.derive.proofs.order.Order.new.Goals as goal

pub returns-clause-ordered : goal.returns-clause-ordered
returns-clause-ordered c = filled_made _ _ c.from_fn.ensures.items (λ x b q k. search rules)
