-- A refusal's words and shapes may be any.
use Rattle.inference.proofs.Judging.{refused_refuses}
use Rattle.inference.proofs.refusal_of.Goals as goal

pub returns-in-Refused : goal.returns-in-Refused
returns-in-Refused c m judges = refused_refuses (rw c.in-Refused.is at judges)
