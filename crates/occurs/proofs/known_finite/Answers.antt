-- `occurs::known_finite`: by the kind of the root, and by its mark.
use mathlib.Core.Path.{sym, ◌∙◌}
use Rattle.occurs.proofs.Search.{finite_no_arrow, done_marked, known_marked}
use Rattle.occurs.proofs.known_finite.Goals as goal

pub returns-then-types-root-lt-FIRST_ARROW : goal.returns-then-types-root-lt-FIRST_ARROW
returns-then-types-root-lt-FIRST_ARROW c = λ kids e sound. finite_no_arrow c.requires.fact_2 c.find-root.ensures c.if-types-root-lt-FIRST_ARROW.true

pub returns : goal.returns
returns c = λ kids e. known_marked c.requires.fact_2 c.find-root.ensures (done_marked _ (sym c.eq.ensures ∙ e))
