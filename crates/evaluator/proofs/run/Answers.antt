use Rattle.evaluator.proofs.Running.{none_celled, begins_continues, underway, not_over, continues_on, continues_stop, continues_over}
use Rattle.evaluator.proofs.run.Goals as goal

pub loop-answer-init : goal.loop-answer-init
loop-answer-init c = begins_continues c.args.terms c.args.words.now c.args.budget c.args.frames.now c.args.start none_celled

pub advance-requires : goal.advance-requires
advance-requires c = record {
  fact_1 = (c.requires.fact_1, not_over c.in_default.ensures);
  fact_2 = c.loop-answer.invariant.celled;
  fact_3 = underway c.args.terms c.args.words.now c.args.budget c.args.frames.now c.args.start c.loop-answer.invariant c.requires.fact_2;
}

pub returns-in-Some : goal.returns-in-Some
returns-in-Some c = continues_over c.args.terms c.args.words.now c.args.budget c.args.frames.now c.args.start c.loop-answer.invariant c.in-Some.ensures

pub loop-answer-smaller : goal.loop-answer-smaller
loop-answer-smaller c = (continues_on c.args.terms c.args.words.now c.args.budget c.args.frames.now c.args.start c.loop-answer.invariant c.requires.fact_2 c.in-Ok.ensures.advanced c.in-Ok.ensures.celled).1

pub loop-answer-preserved : goal.loop-answer-preserved
loop-answer-preserved c = (continues_on c.args.terms c.args.words.now c.args.budget c.args.frames.now c.args.start c.loop-answer.invariant c.requires.fact_2 c.in-Ok.ensures.advanced c.in-Ok.ensures.celled).0

pub returns-in-Err : goal.returns-in-Err
returns-in-Err c = continues_stop c.args.terms c.args.words.now c.args.budget c.args.frames.now c.args.start c.loop-answer.invariant c.in-Err.ensures.advanced c.refused.ensures
