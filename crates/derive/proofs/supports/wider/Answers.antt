-- A place passes where b's support is a's too.
use mathlib.Core.Path.{refl}
use borrow.Author.Rules.{rules}
use Rattle.scheme.specs.Lists.{implies}
use Rattle.scheme.proofs.Chains.{all_every}
use Rattle.derive.specs.Orders.{supports_at, wider_at}
use Rattle.derive.proofs.supports.wider.Goals as goal

pub returns : goal.returns
unfolding wider_at
returns c = all_every (λ o. implies (supports_at c.args.bits.now c.args.b o) (supports_at c.args.bits.now c.args.a o)) _ _ 6 _ refl c.all.ensures.ran (λ x b q k. search rules)
