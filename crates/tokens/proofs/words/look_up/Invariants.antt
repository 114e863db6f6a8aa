-- The place is, at each turn, that among the words not yet compared.
use Rattle.std.proofs.Common.{◌≡◌, length, drop}
use Rattle.model.specs.Line.{fields}
use Rattle.tokens.specs.Look.{look_from, look_up}
use Rattle.tokens.proofs.words.look_up.Given as goal

abbrev pub invariant-loop-word : goal.invariant-loop-word
invariant-loop-word l = (l.at ≡ length l.yielded) × (look_up (fields l.words) l.s ≡ look_from l.at (drop l.at (fields l.words)) l.s)
