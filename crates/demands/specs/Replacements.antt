-- What the replacements that document 01 asks to try are tried on.
-- Document 01, "Before a delivery is taken".
use Rattle.std.specs.Prelude.{ℕ, List, [], ◌∷◌, map, take}
use Rattle.model.specs.Inference.{Slot}
use Rattle.model.specs.Session.{Call, add, Outcome}
use Rattle.model.specs.Text.{lines_of}
use Rattle.starred.specs.Starred.{Example}

-- "PLAIN for every slot": its code is 0.
abbrev pub plain_for_every_slot : Slot → ℕ
plain_for_every_slot x = 0

-- The adds of a text, line by line.
abbrev pub adds_of : List ℕ → List Call
adds_of text = map add (lines_of text)

-- The report that an infer left at the front of its buffer.
abbrev pub report_in : Outcome → List ℕ
report_in o = take o.size o.buffer

-- Program A with its parameter declared FHE, as it stands after `redeclare 0 1`.
abbrev pub program_A_in_FHE : Example
program_A_in_FHE =
    record {
      program = "T,0,ANY" ∷ "P,0,FHE,0" ∷ "E,0,VAR,0" ∷ "E,1,VAR,0" ∷ "E,2,OP,ADD,0,1" ∷ "E,3,LAM,0,2" ∷ [];
      output = "OK,1,4" ∷ "P,0,FHE,INT" ∷ "E,0,FHE,INT" ∷ "E,1,FHE,INT" ∷ "E,2,FHE,INT" ∷ "E,3,PLAIN,ARROW" ∷ [];
    }
