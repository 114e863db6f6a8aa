-- A qualifier passes where, if it is a member, it is at or below c.
use mathlib.Core.Path.{refl}
use borrow.Author.Rules.{rules}
use Rattle.scheme.specs.Lists.{implies}
use Rattle.scheme.proofs.Chains.{all_every}
use Rattle.derive.specs.Orders.{Member, order_at, above_all}
use Rattle.derive.proofs.order.Order.above_all.Goals as goal

pub returns : goal.returns
unfolding above_all
returns c = all_every (λ d. implies (Member c.args.members.now d) (order_at c.args.self.now.below d c.args.c)) _ _ c.args.self.now.words _ refl c.all.ensures.ran (λ x b q k. search rules)
