use Rattle.environments.specs.Kept.{frames_of}
use Rattle.environments.proofs.Stacking.{stacked_length}
use Rattle.environments.proofs.Frames.restart.Goals as goal

pub returns : goal.returns
returns c = stacked_length (frames_of c.self.inside.frames) c.args.depth
