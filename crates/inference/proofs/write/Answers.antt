-- The names' front are the machine's names, and the counts its lists'.
use mathlib.Core.Path.{sym}
use Rattle.inference.proofs.Judging.{front_names, front_short}
use Rattle.inference.proofs.write.Goals as goal

pub write-requires : goal.write-requires
write-requires c = (front_short c.args.table _ c.front.ensures c.requires.0, (c.parameters.ensures.1, c.term_rows.ensures.1, c.requires.1))

pub returns : goal.returns
returns c = rw (front_names c.args.table _ c.front.ensures, sym c.parameters.ensures.0, sym c.term_rows.ensures.0) c.write.ensures
