use native.Mathlib.Omega.{arith}
use mathlib.Core.Path.{refl}
use Rattle.table.specs.Lists.{lists}
use Rattle.report.specs.Codes.{coded_word}
use Rattle.dryrun.specs.Run.{job}
use Rattle.run.proofs.Starting.{some_row, lams_stand, led_rows, unled, led, unfit_refused, begins_at, evaluated_at}
use Rattle.run.proofs.run_accepted.Goals as goal

pub lead-requires : goal.lead-requires
lead-requires c = let t = c.args.table in
    let rows = c.term_rows-count.ensures.0 in
    (omega (arith, rows, some_row t c.requires.0 c.args.codes c.requires.1), omega (arith, c.term_rows-count.ensures.1), lams_stand t c.requires.0 c.args.codes c.requires.1 rows)

pub returns-then-not-lead : goal.returns-then-not-lead
returns-then-not-lead c = let t = c.args.table in
    let rows = c.term_rows-count.ensures.0 in
    λ budget e. unfit_refused t c.requires.0 c.args.codes c.requires.1 c.args.numbers.now budget (unled t c.requires.0 c.args.codes c.requires.1 c.args.numbers.now _ c.lead.result c.if-not-lead.true (c.lead.ensures (lists t) c.requires.0.is_well_formed (led_rows t c.requires.0 c.args.codes c.requires.1 rows))) c.refused.ensures

pub overflow_sub-first : goal.overflow_sub-first
overflow_sub-first c = let t = c.args.table in omega (arith, c.term_rows-count.ensures.0, some_row t c.requires.0 c.args.codes c.requires.1)

pub run-requires : goal.run-requires
run-requires c = let t = c.args.table in
    let rows = c.term_rows-count.ensures.0 in
    let (count, no_arrow, put) = led t c.requires.0 c.args.codes c.requires.1 c.args.numbers.now _ c.lead.result c.if-not-lead.false (c.lead.ensures (lists t) c.requires.0.is_well_formed (led_rows t c.requires.0 c.args.codes c.requires.1 rows)) in
    record { fact_1 = c.requires.2; fact_2 = record { machine = lists t; word = coded_word c.args.codes; start = job (lists t) (coded_word c.args.codes) c.args.numbers.now; begins = begins_at t c.requires.0 c.args.codes c.requires.1 c.args.numbers.now no_arrow c.args.steps _ rows refl put } }

pub returns : goal.returns
returns c = let t = c.args.table in
    let rows = c.term_rows-count.ensures.0 in
    let (count, no_arrow, put) = led t c.requires.0 c.args.codes c.requires.1 c.args.numbers.now _ c.lead.result c.if-not-lead.false (c.lead.ensures (lists t) c.requires.0.is_well_formed (led_rows t c.requires.0 c.args.codes c.requires.1 rows)) in
    evaluated_at t c.requires.0 c.args.codes c.requires.1 c.args.numbers.now no_arrow c.args.steps _ rows refl c.run.result put count c.run.ensures
