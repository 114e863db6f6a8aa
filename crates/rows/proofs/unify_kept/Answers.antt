-- `rows::unify_kept`: what the unification answers, or the types put back.
use Rattle.forest.specs.Pairs.{pairs_of}
use Rattle.rows.proofs.Unifying.{put_back, refused, cyclic}
use Rattle.rows.proofs.unify_kept.Goals as goal

pub returns-else-finite_from-clause-fact_1 : goal.returns-else-finite_from-clause-fact_1
returns-else-finite_from-clause-fact_1 c = put_back c.requires.fact_1 (cyclic c.in-Ok.ensures.0 (c.finite_from.ensures c.if-finite_from.false))

pub returns-in_default-clause-fact_1 : goal.returns-in_default-clause-fact_1
returns-in_default-clause-fact_1 c = put_back c.requires.fact_1 (refused (pairs_of c.args.notes.now) c.unify-2.new.types (pairs_of c.unify-2.new.notes) c.args.n c.in_default.field-0 (rw c.in_default.is at c.unify-2.ensures.0))
