-- The invariant: the parents stay, and the words before c hold themselves, which is what the greatest reading gives them.
use native.Mathlib.Omega.{arith}
use mathlib.Core.Path.{◌≡◌}
use Rattle.scheme.specs.Rule.{words_at}
use Rattle.qualifiers.proofs.Readings.{settled_constant}
use Rattle.qualifiers.proofs.Qualifiers.settle_words.Goals as goal

pub loop-c-preserved : goal.loop-c-preserved
loop-c-preserved c = record {
  parents = c.loop-c.invariant.parents;
  settled = λ p k within. settled_constant k within (c.loop-c.invariant.settled p k within) (omega (arith, c.words-c-end.ensures));
}

pub returns-clause-fact_1 : goal.returns-clause-fact_1
returns-clause-fact_1 c p k within =
    let end : c.loop-c.c ≡ words_at c.args.rule.now = omega (arith, c.words-c-end.ensures) in
    rw end at (c.loop-c.invariant.settled p k within)
