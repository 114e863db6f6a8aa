-- Two bytes are written.
use Rattle.script.proofs.Replying.{unknown_front}
use Rattle.script.proofs.write_unknown.Goals as goal

pub returns : goal.returns
returns c = unknown_front _ _ _ c.requires c.write_text.ensures
