-- A job that is judged well is run, and any other is refused.
use native.Mathlib.Omega.{arith}
use Rattle.inference.proofs.Judging.{unaccepted_refuses}
use Rattle.run.proofs.Starting.{not_judged}
use Rattle.run.proofs.dry_run.Goals as goal

pub run_accepted-requires : goal.run_accepted-requires
run_accepted-requires c = (c.requires, c.in-Ok.ensures.0, omega (arith, c.steps_allowed.ensures))

pub returns-in-Ok : goal.returns-in-Ok
returns-in-Ok c = c.run_accepted.ensures _ c.steps_allowed.ensures

pub returns-in-Err : goal.returns-in-Err
returns-in-Err c = let refuses = (unaccepted_refuses _ c.in-Err.ensures).1 in
    not_judged _ refuses.1.2 refuses.0 c.refused.ensures
