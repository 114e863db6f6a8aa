-- The words are a budget and numbers, or no command.
use borrow.Author.Rules.{rules}
use Rattle.inference.proofs.Judging.{front_names, front_short}
use Rattle.script.proofs.Running.{unknown_told, run_told}
use Rattle.script.proofs.write_run.Goals as goal

pub returns-in_default : goal.returns-in_default
returns-in_default c = unknown_told _ _ _ _ c.in_default.ensures c.write_unknown.ensures

pub write-requires : goal.write-requires
write-requires c = record { fact_1 = search (front_short, rules); fact_2 = search rules }

pub returns : goal.returns
returns c = let read = c.in-Some.ensures in
    run_told _ _ _ read.0 _ _ _ _ read.1 read.2 c.dry_run-ran.ensures (c.write.ensures _ (front_names _ _ c.front.ensures))
