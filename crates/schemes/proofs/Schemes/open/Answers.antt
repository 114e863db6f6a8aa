-- A refused file gives the six.
use Rattle.schemes.proofs.Opening.{opens_refused, opens_read}
use Rattle.schemes.proofs.Schemes.open.Goals as goal

pub returns-in-Ok : goal.returns-in-Ok
returns-in-Ok c = opens_read c.args.file.now _ c.in-Ok.ensures.0 c.in-Ok.ensures.1 c.in-Ok.ensures.2

pub returns-in-Err : goal.returns-in-Err
returns-in-Err c = opens_refused c.args.file.now _ _ c.in-Err.ensures c.into.ensures _ c.refused.ensures
