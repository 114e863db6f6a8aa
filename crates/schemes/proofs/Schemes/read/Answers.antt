-- Each end hands over what the calls before it ensure.
use Prim.Native.Nat.{◌≤◌}
use native.Mathlib.Omega.{arith}
use mathlib.Core.Path.{ap, ◌∙◌}
use borrow.Author.Rules.{rules}
use Rattle.std.proofs.lemmas.Result.{err_from_is_err_and}
use Rattle.derive.specs.Derives.{refusal_of}
use Rattle.schemes.proofs.Opening.{reads, reads_refusal, reads_table}
use Rattle.schemes.proofs.Schemes.read.Goals as goal

pub returns-then-not-is_well_written : goal.returns-then-not-is_well_written
returns-then-not-is_well_written c = search (reads, rules)

pub bits_of-bits-requires : goal.bits_of-bits-requires
bits_of-bits-requires c = search (reads, rules)

pub derive-requires : goal.derive-requires
derive-requires c = search (reads, rules)

pub names_of-requires : goal.names_of-requires
names_of-requires c = search (reads, rules)

pub overflow_add-count : goal.overflow_add-count
overflow_add-count c = let few : c.count-count.result ≤ 8 = search (reads, rules) in omega arith

pub overflow_cast-count : goal.overflow_cast-count
overflow_cast-count c = let few : c.count-count.result ≤ 8 = search (reads, rules) in omega arith

pub returns : goal.returns
returns c =
    reads_table c.args.file.now _ c.is_well_written.ensures c.if-not-is_well_written.false _ c.count-count.ensures _ c.bits_of-bits.ensures _ c.derive.ensures _ c.in_ok-derived.was _ _ (rw c.size.view_is c.names_of.ensures) _ c.fill-rule.ensures

pub returns-in_err-derived : goal.returns-in_err-derived
returns-in_err-derived c =
    let p = err_from_is_err_and c.from_residual.result c.from_residual.ensures.1 in
    rw (p.1, p.2)
    (reads_refusal c.args.file.now _ c.is_well_written.ensures c.if-not-is_well_written.false _ c.count-count.ensures _ c.bits_of-bits.ensures _ c.derive.ensures ∙ ap refusal_of c.in_err-derived.was)
