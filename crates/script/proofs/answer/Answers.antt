-- Each command's answer stands at the front of the buffer.
use native.Mathlib.Omega.{arith}
use Rattle.script.proofs.Replying.{word_within, add_replied, redeclare_replied, take_back_replied, restart_replied, infer_replied, run_replied, unknown_replied}
use borrow.Author.Rules.{rules}
use Rattle.script.proofs.answer.Goals as goal

pub slice_bounds-add-count : goal.slice_bounds-add-count
slice_bounds-add-count g c = let h = word_within c.args.line.now c.read.ensures.1 c.in-Add.is in omega arith

pub slice_bounds-add-start : goal.slice_bounds-add-start
slice_bounds-add-start g c = let h = word_within c.args.line.now c.read.ensures.1 c.in-Add.is in omega arith

pub slice_bounds-restart-count : goal.slice_bounds-restart-count
slice_bounds-restart-count g c = let h = word_within c.args.line.now c.read.ensures.1 c.in-Schemes.is in omega arith

pub slice_bounds-restart-start : goal.slice_bounds-restart-start
slice_bounds-restart-start g c = let h = word_within c.args.line.now c.read.ensures.1 c.in-Schemes.is in omega arith

pub slice_bounds-write_run-count : goal.slice_bounds-write_run-count
slice_bounds-write_run-count g c = let h = word_within c.args.line.now c.read.ensures.1 c.in-Run.is in omega arith

pub slice_bounds-write_run-start : goal.slice_bounds-write_run-start
slice_bounds-write_run-start g c = let h = word_within c.args.line.now c.read.ensures.1 c.in-Run.is in omega arith

pub returns-in-Add : goal.returns-in-Add
returns-in-Add g c = let called = c.add.ensures in search (called.0, called.1.0, add_replied, rules)

pub returns-in-Redeclare : goal.returns-in-Redeclare
returns-in-Redeclare g c = let called = c.redeclare.ensures in search (called.0, called.1.0, redeclare_replied, rules)

pub returns-in-TakeBack : goal.returns-in-TakeBack
returns-in-TakeBack g c = let called = c.take_back.ensures in search (called.0, called.1.0, take_back_replied, rules)

pub returns-in-Infer : goal.returns-in-Infer
returns-in-Infer g c = search (infer_replied, rules)

pub returns-in-Schemes : goal.returns-in-Schemes
returns-in-Schemes g c = let called = c.restart.ensures in search (called.0, called.1.0, restart_replied, rules)

pub returns-in-Run : goal.returns-in-Run
returns-in-Run g c = search (run_replied, rules)

pub returns-in-Nothing : goal.returns-in-Nothing
returns-in-Nothing g c = search (unknown_replied, rules)
