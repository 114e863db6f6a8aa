-- Each place has its meet or its highest scheme.
use borrow.Author.Rules.{rules}
use Rattle.scheme.proofs.Chains.{filled_made}
use Rattle.schemes.proofs.Six.{six_derived}
use Rattle.schemes.proofs.ruling.six.Goals as goal

pub returns : goal.returns
returns c = six_derived _ _ (filled_made _ _ c.from_fn.ensures.items (λ x b q k. search rules)) (filled_made _ _ c.from_fn-2.ensures.items (λ x b q k. search rules))
