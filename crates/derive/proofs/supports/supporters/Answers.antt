-- Each place is filled in by its call.
use borrow.Author.Rules.{rules}
use Rattle.scheme.proofs.Chains.{filled_made}
use Rattle.derive.proofs.supports.supporters.Goals as goal

pub returns : goal.returns
returns c = filled_made _ _ c.from_fn.ensures.items (λ x b q k. search rules)
