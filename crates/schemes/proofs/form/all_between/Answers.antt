-- A byte passes where it is one of lo to hi.
use mathlib.Core.Bool.{◌&&◌}
use mathlib.Core.Path.{◌∙◌}
use lib.Dec.{leb}
use borrow.Author.Rules.{rules}
use borrow.Author.Tests.{tests}
use Rattle.std.proofs.lemmas.Iterator.{YieldsList-from_slice}
use Rattle.std.proofs.lemmas.Iterator.Search.{all_from_yields_List}
use Rattle.scheme.proofs.Chains.{all_list}
use Rattle.schemes.specs.Lines.{all_between}
use Rattle.schemes.proofs.form.all_between.Goals as goal

pub returns : goal.returns
unfolding all_between
returns c = all_from_yields_List (λ b. leb c.args.lo b && leb b c.args.hi) _ _ _ c.all.ensures.ran (YieldsList-from_slice c.args.s.now cc) (λ x b q k. search (rules, tests)) ∙ all_list (λ b. leb c.args.lo b && leb b c.args.hi) c.args.s.now
