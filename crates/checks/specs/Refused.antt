-- What a check answers, as document 01's table "Returned" numbers it.
use Rattle.std.specs.Prelude.{ℕ, Result, Ok, Err}
use Rattle.checks.specs.declared.refusal.Refusal.{Refusal}
use Rattle.checks.specs.declared.refusal.Refusal.TheVariants.{NoForm, NotNext, ListFull, TypeUndeclared, ParameterUndeclared, ChildNotBelow, ChildUsed, ParameterBound, NoTermRow, CodeTooHigh}

abbrev pub refusal_number : Refusal → ℕ
refusal_number NoForm = 1
refusal_number NotNext = 2
refusal_number ListFull = 3
refusal_number TypeUndeclared = 4
refusal_number ParameterUndeclared = 5
refusal_number ChildNotBelow = 6
refusal_number ChildUsed = 7
refusal_number ParameterBound = 8
refusal_number NoTermRow = 9
refusal_number CodeTooHigh = 12

-- "An accepted call returns 0."
abbrev pub number_of : {T : Type 0} → Result T Refusal → ℕ
number_of (Ok accepted) = 0
number_of (Err refusal) = refusal_number refusal
