-- A line passes where it is a scheme line.
use mathlib.Core.Path.{refl}
use borrow.Author.Rules.{rules}
use Rattle.scheme.proofs.Chains.{all_every}
use Rattle.model.specs.SchemeFile.{is_scheme_line}
use Rattle.schemes.specs.Lines.{line_at, well_formed}
use Rattle.schemes.proofs.file.all_formed.Goals as goal

pub returns : goal.returns
unfolding well_formed
returns c = all_every (λ k. is_scheme_line (line_at c.args.file.now k)) _ _ c.args.n _ refl c.all.ensures.ran (λ x b q k. search rules)
