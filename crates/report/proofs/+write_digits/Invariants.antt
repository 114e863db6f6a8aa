-- A number below ten is its one digit; any other is the digits of its tenth part, and its last digit. The number is the measure.
use Rattle.report.proofs.+write_digits.Given as goal

abbrev pub decreases-write_digits : goal.decreases-write_digits
decreases-write_digits l = l.n
