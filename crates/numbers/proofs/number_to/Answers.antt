-- The same from a place on; the next such byte from the present one on is the next from that place on.
use Rattle.std.proofs.Common.{◌≡◌, length, rules}
use Rattle.numbers.specs.NumberTo.{with_end}
use Rattle.numbers.proofs.Passes.{seeks}
use Rattle.numbers.proofs.number_to.Goals as goal

pub loop-i-init : goal.loop-i-init
loop-i-init c = search (seeks, rules)

pub returns-then-b-byte : goal.returns-then-b-byte
returns-then-b-byte c = let ended : c.map.result ≡ with_end c.answer.result c.loop-i.i-counter = search rules in search (seeks, rules)

pub loop-i-preserved : goal.loop-i-preserved
loop-i-preserved c = search (seeks, rules)

pub returns : goal.returns
returns c = let ended : c.map-2.result ≡ with_end c.answer-2.result (length c.args.s.now) = search rules in search (seeks, c.loop-i.auto.i-counter-end, rules)
