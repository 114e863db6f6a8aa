-- What a run came to, as it stands at the front of its line.
use Rattle.std.specs.Prelude.{ℕ, List, [], ◌∷◌, ◌++◌, Result, Ok, Err}
use Rattle.model.specs.Lists.{bytes}
use Rattle.model.specs.Number.{decimal}
use Rattle.model.specs.Word.{qualifier_word}
use Rattle.moves.specs.Moves.{refusal_number}
use Rattle.moves.specs.declared.Refusal.{Refusal}
use Rattle.evaluator.specs.declared.Answer.{Answer}
use Rattle.evaluator.specs.declared.Answer.TheVariants.{Number, Function}

-- `NUMBER,42,AH,`, `FUNCTION,` or `NO,30,`; the names are the schemes'.
unfoldable pub result_text : List (List ℕ) → Result Answer Refusal → List ℕ
result_text names (Ok (Number n tag)) = bytes "NUMBER," ++ (decimal n ++ (44 ∷ [])) ++ (qualifier_word names tag ++ (44 ∷ []))
result_text names (Ok Function) = bytes "FUNCTION,"
result_text names (Err e) = bytes "NO," ++ (decimal (refusal_number e) ++ (44 ∷ []))
