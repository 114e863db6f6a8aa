-- `look_through`: the invariant says what the first j pairs came to; each turn is one of three laws, by the kind of the pair's root.
use native.Mathlib.Omega.{arith}
use mathlib.Core.Path.{refl}
use Rattle.pending.proofs.Sweeping.{pair_nodes, marks_from, sweeping_kept, sweeping_dropped, sweeping_plain, sweeping_apart}
use Rattle.pending.proofs.Pending.look_through.Goals.{then-k-eq-UNKNOWN, else-k-eq-UNKNOWN+then-k-ge-FIRST_ARROW+in_default, else-k-eq-UNKNOWN+else-k-ge-FIRST_ARROW}
use Rattle.pending.proofs.Pending.look_through.Goals as goal

pub returns-in-Err : goal.returns-in-Err
returns-in-Err c = (sweeping_apart c.loop-j.invariant.turn c.loop-j-test.true c.find-r.ensures c.if-k-ge-FIRST_ARROW.true c.in-Err.ensures.fact_1 refl, c.loop-j.invariant.count)

pub loop-j-preserved : goal.loop-j-preserved
loop-j-preserved c =
    let count = c.loop-j.invariant.count in
    let turn = c.loop-j.invariant.turn in
    let less = c.loop-j-test.true in
    let found = c.find-r.ensures in
    let pair = pair_nodes turn less c.requires.fact_3 in
    elim c.if-k-eq-UNKNOWN.branch [
      | then-k-eq-UNKNOWN w ↦ rw (w.self-is, w.qualifiers-is, w.kept-is)
          record { count = count; turn = sweeping_kept turn less found w.if-k-eq-UNKNOWN.true (marks_from (omega (arith, turn.swept.marks, found.low, pair)) w.mark.ensures) w.note-kept.ensures }
      | else-k-eq-UNKNOWN+then-k-ge-FIRST_ARROW+in_default w ↦ rw (w.self-is, w.qualifiers-is, w.kept-is)
          record { count = count; turn = sweeping_plain turn less found w.if-k-ge-FIRST_ARROW.true w.in_default.ensures.fact_1 refl }
      | else-k-eq-UNKNOWN+else-k-ge-FIRST_ARROW w ↦ rw (w.self-is, w.qualifiers-is, w.kept-is)
          record { count = count; turn = sweeping_dropped turn less found w.if-k-eq-UNKNOWN.false (omega (arith, w.if-k-ge-FIRST_ARROW.false)) }
    ]
