-- The one theorem over the list of starred programs.
use Rattle.starred.specs.Starred.{All, []ᴬ, ◌∷ᴬ◌, PrintsOutput, starred}
use Rattle.starred.proofs.Operations.{program_A_prints, sum_times_x_prints, x_equals_x_prints, x_less_than_x_prints, x_plus_number_prints, sum_of_comparisons_prints}
use Rattle.starred.proofs.FreeTypes.{body_x_prints, x_applied_to_number_prints}
use Rattle.starred.proofs.Refusals.{sum_of_rand_prints, ah_plus_mh_prints, x_applied_to_x_prints, number_applied_to_number_prints}

pub starred_prints : All PrintsOutput starred
starred_prints =
    program_A_prints
    ∷ᴬ sum_times_x_prints
    ∷ᴬ x_equals_x_prints
    ∷ᴬ x_less_than_x_prints
    ∷ᴬ x_plus_number_prints
    ∷ᴬ body_x_prints
    ∷ᴬ sum_of_rand_prints
    ∷ᴬ ah_plus_mh_prints
    ∷ᴬ x_applied_to_x_prints
    ∷ᴬ number_applied_to_number_prints
    ∷ᴬ sum_of_comparisons_prints
    ∷ᴬ x_applied_to_number_prints
    ∷ᴬ []ᴬ
