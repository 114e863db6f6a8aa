-- Two constants clash; any other two roots are joined under the smaller.
use native.Mathlib.Omega.{arith}
use Rattle.qualifiers.proofs.Uniting.{join_meets}
use Rattle.qualifiers.proofs.Qualifiers.join.Goals as goal

pub returns : goal.returns
returns c =
    let m = join_meets c.requires.fact_1 c.args.low c.args.high c.requires.fact_2 (omega (arith, c.if-high-words.false, c.words.ensures)) in
    rw (c.put_under.ensures, c.meet.ensures) (record { fact_1 = m.0; fact_2 = m.1 })
