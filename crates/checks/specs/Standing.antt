-- What the checks of an add ask of what stands.
use Rattle.std.specs.Prelude.{Bool, not, ◌&&◌, ◌≡◌, length}
use Rattle.model.specs.Lists.{any_of}
use Rattle.model.specs.Machine.{Machine, children, binds, used, bound, twice}
use Rattle.model.specs.declared.Term.{Term}
use Rattle.checks.specs.declared.Counts.{Counts}

-- How many entries each list has.
pub record Counted (m : Machine) (counts : Counts) : Type 0 where
  pub type_rows : counts.types ≡ length m.types
  pub parameters : counts.params ≡ length m.params
  pub term_rows : counts.terms ≡ length m.terms

-- What checks 7 and 8 of a term row find.
pub record Free (m : Machine) (term : Term) (children-free binder-free : Bool) : Type 0 where
  pub seven : children-free ≡ (not (any_of (used m.terms) (children term)) && not (twice (children term)))
  pub eight : binder-free ≡ not (any_of (bound m.terms) (binds term))
