-- The invariant: the parents stay, and the words before c hold themselves, which is what the greatest reading gives them.
use Prim.Native.Nat.{ℕ}
use mathlib.Core.List.{List}
use mathlib.Core.Path.{◌≡◌}
use Rattle.qualifiers.specs.Classes.{Classes, Within, Settled, qualifiers_of}
use Rattle.qualifiers.proofs.Qualifiers.settle_words.Given as goal

abbrev pub invariant-loop-c : goal.invariant-loop-c
invariant-loop-c l = record {
  parents : l.self.parents ≡ l.initial.self.parents;
  settled : (p : List ℕ) → Classes l.rule (qualifiers_of p l.initial.self.bounds) → Within l.rule l.initial.self.bounds → Settled l.rule (qualifiers_of p l.initial.self.bounds) l.self.bounds l.c;
}
