-- Lines of scripts, computed: which of them are runs, and what is answered to one.
use mathlib.Core.List.{[], ◌∷◌}
use mathlib.Core.Path.{◌≡◌, refl}
use Rattle.scheme.specs.Six.{six_table}
use Rattle.model.specs.Lists.{bytes}
use Rattle.model.specs.Number.{number_of, decimal}
use Rattle.model.specs.Word.{qualifier_word}
use Rattle.model.specs.Machine.{fresh_machine}
use Rattle.model.specs.Report.{line}
use Rattle.dryrun.specs.Run as Run
use Rattle.conversation.specs.Script.{run, no_command, front_words, arguments_of, run_of, command_of, ran_line}

budget_alone : command_of (bytes "run 7") ≡ run 7 []
unfolding command_of run_of front_words arguments_of number_of
budget_alone = refl

two_numbers : command_of (bytes "run 10000 0 4294967295") ≡ run 10000 (0 ∷ 4294967295 ∷ [])
unfolding command_of run_of front_words arguments_of number_of
two_numbers = refl

-- One number too large, one with a leading zero, two blanks, a blank at the end, no budget.
no_runs :
    (command_of (bytes "run 1 4294967296") ≡ no_command)
    × (command_of (bytes "run 1 02") ≡ no_command)
    × (command_of (bytes "run 1  2") ≡ no_command)
    × (command_of (bytes "run 1 2 ") ≡ no_command)
    × (command_of (bytes "run ") ≡ no_command)
    × (command_of (bytes "run") ≡ no_command)
unfolding command_of run_of front_words arguments_of number_of
no_runs = (refl, refl, refl, refl, refl, refl)

-- AH has the code 5 by the built-in six.
answered :
    (ran_line (fresh_machine six_table) (Run.ended (Run.a_number 42 5) (record { applications = 1; operations = 1 })) ≡ bytes "NUMBER,42,AH,1,1\n")
    × (ran_line (fresh_machine six_table) (Run.ended Run.a_function (record { applications = 3; operations = 0 })) ≡ bytes "FUNCTION,3,0\n")
    × (ran_line (fresh_machine six_table) (Run.refused 30 (record { applications = 7; operations = 2 })) ≡ bytes "NO,30,7,2\n")
unfolding ran_line line decimal qualifier_word
answered = (refl, refl, refl)
