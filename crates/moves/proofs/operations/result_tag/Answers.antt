use Rattle.moves.proofs.Calculating.{keeps_tag, drops_tag}
use Rattle.moves.proofs.operations.result_tag.Goals as goal

pub returns-then-o-lt2 : goal.returns-then-o-lt2
returns-then-o-lt2 c = keeps_tag c.args.o c.args.tag c.if-o-lt2.true

pub returns-else-o-lt2 : goal.returns-else-o-lt2
returns-else-o-lt2 c = drops_tag c.args.o c.args.tag c.if-o-lt2.false
