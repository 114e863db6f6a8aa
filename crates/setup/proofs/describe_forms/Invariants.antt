-- `setup::describe_forms`: the descriptors of the rows below x are written, and their kinds noted.
use Rattle.graph.specs.Types.{Parts}
use Rattle.model.specs.Machine.{form_in}
use Rattle.setup.specs.Started.{form_kind}
use Rattle.setup.specs.Passes.{FormsDescribed, FormsLeft, FirstHold}
use Rattle.setup.proofs.describe_forms.Given as goal

abbrev pub invariant-loop-x : goal.invariant-loop-x
invariant-loop-x l = record {
  parts : Parts l.kids;
  described : FormsDescribed l.types l.x l.kids;
  left : FormsLeft l.types l.x l.initial.kids l.kids;
  kinds : FirstHold (λ n. form_kind n (form_in l.types n)) 64 l.x l.formkinds;
}
