-- The invariant: the pairs before i were made one.
use mathlib.Core.Bool.{true}
use Rattle.forest.specs.Pairs.{pairs_of}
use Rattle.qualifiers.specs.Classes.{UnitedAll}
use Rattle.qualifiers.proofs.Qualifiers.unite_all.Given as goal

abbrev pub invariant-loop-i : goal.invariant-loop-i
invariant-loop-i l = UnitedAll l.rule l.initial.self l.self (pairs_of l.notes) l.i true
