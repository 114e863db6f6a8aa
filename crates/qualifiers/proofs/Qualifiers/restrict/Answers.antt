-- The root's bound is met with what is asked; where the root is a constant the new bound is tested.
use native.Mathlib.Omega.{arith}
use borrow.Author.Tests.{le-leb}
use mathlib.Core.Path.{sym}
use Rattle.qualifiers.proofs.Bounds.{lowered, restricted_constant, restricted_free}
use Rattle.qualifiers.proofs.Qualifiers.restrict.Goals as goal

pub returns-then-words-r-clause-fact_1 : goal.returns-then-words-r-clause-fact_1
returns-then-words-r-clause-fact_1 c =
    let pre = c.requires.fact_1 in
    let met = lowered pre.0 c.args.self.now.bounds pre.1 pre.2 c.args.r c.args.most c.requires.fact_2.0 c.requires.fact_2.1 in
    rw (c.meet.ensures, le-leb c.words.result c.args.r c.if-words-r.true) (restricted_free pre.0 met (omega (arith, c.if-words-r.true, c.words.ensures)))

pub returns-else-words-r-clause-fact_1 : goal.returns-else-words-r-clause-fact_1
returns-else-words-r-clause-fact_1 c =
    let pre = c.requires.fact_1 in
    let met = lowered pre.0 c.args.self.now.bounds pre.1 pre.2 c.args.r c.args.most c.requires.fact_2.0 c.requires.fact_2.1 in
    restricted_constant pre.0 (rw (sym c.meet.ensures) at met) (omega (arith, c.if-words-r.false, c.words.ensures)) c.is_under.ensures
