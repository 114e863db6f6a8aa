-- A qualifier passes where it is a member that every other is at or below.
use mathlib.Core.Bool.{◌&&◌}
use mathlib.Core.Path.{refl}
use borrow.Author.Rules.{rules}
use Rattle.scheme.proofs.Chains.{find_first}
use Rattle.derive.specs.Orders.{Member, above_all, best, best_of}
use Rattle.derive.proofs.order.Order.greatest.Goals as goal

pub returns : goal.returns
unfolding best best_of
returns c =
    find_first (λ d. Member c.args.members.now d && above_all c.args.self.now.below c.args.self.now.words c.args.members.now d) _ _ c.args.self.now.words _ refl c.find.ensures.ran (λ x b q k. search rules)
