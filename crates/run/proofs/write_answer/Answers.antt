use Rattle.run.proofs.Answering.{answers}
use Rattle.run.proofs.write_answer.Goals as goal

pub returns : goal.returns
returns c = answers c.args.ran c.args.answer.now c.requires c.numbers_of-number.ensures
