-- The invariant: the parents stay, and all nodes before x hold what the greatest reading gives them.
use Prim.Native.Nat.{◌≤◌}
use mathlib.Core.Path.{◌≡◌}
use Rattle.layout.specs.Layout.{nodes}
use Rattle.scheme.specs.Rule.{words_at}
use Rattle.qualifiers.specs.Classes.{Settled}
use Rattle.qualifiers.proofs.Qualifiers.settle.Given as goal

abbrev pub invariant-loop-x : goal.invariant-loop-x
invariant-loop-x l = record {
  parents : l.self.parents ≡ l.fn.self.parents;
  free : words_at l.rule ≤ l.x;
  fits : l.x ≤ nodes;
  settled : Settled l.rule l.fn.self l.self.bounds l.x;
}
