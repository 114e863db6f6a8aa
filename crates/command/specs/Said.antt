-- A command that was read, as the command of the definitions.
use Rattle.std.specs.Prelude.{ℕ, ◌≤◌, ◌<◌, List, [], ◌≡◌, length, take, drop, Option, Some, None}
use Rattle.conversation.specs.Script.{file_in, front_words, arguments_of, run_of}
use Rattle.conversation.specs.Script as Script
use Rattle.command.specs.declared.Command.{Command}
use Rattle.command.specs.declared.Command.TheVariants.{Add, Redeclare, TakeBack, Infer, Schemes, Run, Nothing}

-- The line of an add, a scheme file, and the numbers of a run are what follows the command's word and its blank.
unfoldable pub said : Command → List ℕ → Script.Command
said Add s = Script.add (drop 4 s)
said (Redeclare p code) s = Script.redeclare p code
said TakeBack s = Script.take_back
said Infer s = Script.infer
said Schemes s = Script.schemes (file_in (drop 8 s))
said Run s = run_of (drop 4 s)
said Nothing s = Script.no_command

-- How many bytes the command's word and its blank have, where more follows.
abbrev pub word_length : Command → ℕ
word_length Add = 4
word_length (Redeclare p code) = 0
word_length TakeBack = 0
word_length Infer = 0
word_length Schemes = 8
word_length Run = 4
word_length Nothing = 0

-- The numbers of a run's words stand at the array's front, the budget first, as many as are told; or there are none.
abbrev pub ReadInto : List ℕ → List ℕ → Option ℕ → Type 0
ReadInto s into None = arguments_of (front_words 66 s) ≡ []
ReadInto s into (Some count) = (take count into ≡ arguments_of (front_words 66 s)) × (0 < count) × (count ≤ length into)
