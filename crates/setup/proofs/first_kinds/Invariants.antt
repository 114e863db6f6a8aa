-- `setup::first_kinds`: the places below x hold what the array holds there.
use lib.ListN.{get_or}
use Rattle.layout.specs.Layout.{nodes}
use Rattle.setup.specs.Passes.{FirstHold}
use Rattle.setup.proofs.first_kinds.Given as goal

abbrev pub invariant-loop-x : goal.invariant-loop-x
invariant-loop-x l = FirstHold (λ n. get_or l.formkinds n 0) nodes l.x l.kind
