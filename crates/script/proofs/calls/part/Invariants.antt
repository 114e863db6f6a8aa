-- The first i bytes are copied.
use mathlib.Core.Path.{◌≡◌}
use lib.ListN.{take}
use Rattle.conversation.specs.Script.{file_in}
use Rattle.script.proofs.calls.part.Given as goal

abbrev pub invariant-loop-i : goal.invariant-loop-i
invariant-loop-i l = take l.i l.file ≡ take l.i (file_in l.lines)
