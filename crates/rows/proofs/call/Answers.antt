-- `rows::call`: the row's node is hung and two pairs are noted, and what the unification answers is the row's answer.
use Rattle.rows.proofs.Calling.{call_ready, called}
use Rattle.rows.proofs.call.Goals as goal

pub unify_kept-requires-clause-fact_3 : goal.unify_kept-requires-clause-fact_3
unify_kept-requires-clause-fact_3 c = let hung = rw (c.row_type.ensures, c.part.ensures.0) at c.put_under_root.ensures in
    let one = rw (c.row_qualifier.ensures, c.part-2.ensures.0) at c.note-one.ensures in
    let two = rw (c.row_qualifier-2.ensures, c.part-3.ensures.0) at c.note-two.ensures in
    (call_ready c.requires.fact_3 c.requires.fact_1 c.requires.fact_4 hung one two).1

pub returns : goal.returns
returns c = let hung = rw (c.row_type.ensures, c.part.ensures.0) at c.put_under_root.ensures in
    let one = rw (c.row_qualifier.ensures, c.part-2.ensures.0) at c.note-one.ensures in
    let two = rw (c.row_qualifier-2.ensures, c.part-3.ensures.0) at c.note-two.ensures in
    let last = rw (c.row_type-2.ensures, c.part-4.ensures.0) at c.unify_kept.ensures in
    let done = called c.requires.fact_3 c.requires.fact_1 c.requires.fact_4 hung one two _ _ c.unify_kept.result last.fact_1 last.fact_2 last.fact_3 in
    record { fact_1 = done.0; fact_2 = done.1.0; fact_3 = done.1.1 }
