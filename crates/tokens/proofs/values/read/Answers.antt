-- The values of the line are, at each turn, those so far with those of the fields not yet read.
use Rattle.std.proofs.Common.{◌≤◌, length, rules, arith}
use Rattle.tokens.proofs.Bounds.{value_within, field_fits, code_fits}
use Rattle.tokens.proofs.Reading.{read_first, read_end, read_short, read_missing, read_number, read_literal, read_code}
use Rattle.tokens.proofs.values.read.Goals as goal
use Rattle.tokens.proofs.values.read.Goals.{in-110, in-108, in_default-kind}

pub loop-k-init : goal.loop-k-init
loop-k-init c = search (read_first, rules)

pub returns-then-s-from : goal.returns-then-s-from
returns-then-s-from c = search (read_short, rules)

pub returns-in_default : goal.returns-in_default
returns-in_default c = search (read_missing, rules)

pub overflow_add-from : goal.overflow_add-from
overflow_add-from c = let within : c.in-Some.end ≤ length c.args.s.now = value_within c.args.names.now _ _ _ _ _ _ c.value.ensures c.in-Some.is c.if-s-from.false in omega arith

pub overflow_cast-v : goal.overflow_cast-v
overflow_cast-v c = field_fits c.args.names.now _ _ _ _ _ _ c.value.ensures c.in-Some.is c.in-110.is

pub overflow_cast-v-in_default-kind : goal.overflow_cast-v-in_default-kind
overflow_cast-v-in_default-kind c = code_fits c.args.names.now _ _ _ _ _ _ c.value.ensures c.in-Some.is c.requires.0 (search rules) (search rules)

pub loop-k-preserved : goal.loop-k-preserved
loop-k-preserved c =
    elim c.match-kind.branch [
      | in-110 w ↦ rw w.v-is (read_number _ _ _ _ _ _ _ c.loop-k.invariant c.loop-k-test.true c.if-s-from.false _ c.value.ensures _ _ c.in-Some.is w.in-110.is)
      | in-108 w ↦ rw w.v-is (read_literal _ _ _ _ _ _ _ c.loop-k.invariant c.loop-k-test.true c.if-s-from.false _ c.value.ensures _ _ c.in-Some.is w.in-108.is)
      | in_default-kind w ↦ rw w.v-is (read_code _ _ _ _ _ _ _ c.loop-k.invariant c.loop-k-test.true c.if-s-from.false _ c.value.ensures _ _ c.in-Some.is (search rules) (search rules))
    ]

pub returns : goal.returns
returns c = search (read_end, rules)
