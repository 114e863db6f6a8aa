-- A script of calls, 72 bytes each, and what the machine answers to it.
use Rattle.std.specs.Prelude.{ℕ, zero, suc, ◌+◌, ◌*◌, ◌/◌, min, cond, List, [], ◌∷◌, eqb, length, get_or, take, drop}
use Rattle.model.specs.Machine.{Machine, Change, added, redeclared, taken_back}
use Rattle.model.specs.Session.{Call, add, redeclare, take_back, infer}

-- A number of four bytes, the lowest first.
abbrev pub four_bytes : List ℕ → ℕ → ℕ
four_bytes s at = get_or s at 0 + get_or s (at + 1) 0 * 256 + get_or s (at + 2) 0 * 65536 + get_or s (at + 3) 0 * 16777216

-- 0 and the length of a line, then its bytes, at most 70; 1, then a parameter and a code; any other byte takes back.
unfoldable pub call_of : List ℕ → Call
call_of s =
    cond (eqb (get_or s 0 0) 0) (add (take (get_or s 1 0) (drop 2 s)))
    (cond (eqb (get_or s 0 0) 1) (redeclare (four_bytes s 1) (four_bytes s 5)) take_back)

-- n calls, from call i on.
abbrev pub calls_from : List ℕ → ℕ → ℕ → List Call
calls_from s i zero = []
calls_from s i (suc n) = call_of (take 72 (drop (i * 72) s)) ∷ calls_from s (i + 1) n

-- The whole calls of a script, as many as there is room for their numbers.
abbrev pub script_calls : List ℕ → ℕ → List Call
script_calls s room = calls_from s 0 (min (length s / 72) room)

-- The machine's answer. No script has an infer.
unfoldable pub answer_of : Machine → Call → Change
answer_of m (add line) = added m line
answer_of m (redeclare p code) = redeclared m p code
answer_of m take_back = taken_back m
answer_of m (infer buffer) = record { number = 0; machine = m }

-- The numbers that calls in a row return, and the machine after them.
abbrev pub numbers_of : Machine → List Call → List ℕ
numbers_of m [] = []
numbers_of m (call ∷ calls) = (answer_of m call).number ∷ numbers_of (answer_of m call).machine calls

abbrev pub machine_after : Machine → List Call → Machine
machine_after m [] = m
machine_after m (call ∷ calls) = machine_after (answer_of m call).machine calls

-- The lengths of the three lists in one number.
abbrev pub sizes : Machine → ℕ
sizes m = length m.types + length m.params * 256 + length m.terms * 65536
