-- A pair of qualifiers gets its meet, and any other place is skipped.
use native.Mathlib.Omega.{arith}
use mathlib.Core.Path.{sym, ◌∙◌}
use Rattle.derive.proofs.Filling.{best_some, meets_more, meets_skip, meets_missing}
use Rattle.derive.proofs.order.Order.meets.Goals as goal
use Rattle.derive.proofs.order.Order.meets.Goals.{then-a-self+then-b-self+in_ok-meets, else-a-self, else-a-self-via-then-a-self+else-b-self, else-a-self-via-else-a-self}

pub returns-in_err-meets : goal.returns-in_err-meets
returns-in_err-meets c = rw c.from_residual.ensures (meets_missing _ _ _ c.loop-i.i c.if-a-self.true c.if-b-self.true c.below_both.ensures (sym c.in_err-meets.was ∙ c.greatest.ensures))

pub overflow_cast-meets : goal.overflow_cast-meets
overflow_cast-meets c = omega (arith, c.args.self.now.few, best_some _ _ c.below_both.result c.in_ok-meets.field-0 (sym c.in_ok-meets.was ∙ c.greatest.ensures))

pub loop-i-preserved : goal.loop-i-preserved
loop-i-preserved c =
    elim c.if-a-self.branch [
      | then-a-self+then-b-self+in_ok-meets w ↦
          rw w.meets-is (meets_more _ _ _ _ _ _ c.loop-i.invariant c.loop-i-test.true w.below_both.ensures (sym w.in_ok-meets.was ∙ w.greatest.ensures))
      | else-a-self w ↦
          rw w.meets-is
          (elim w.else-a-self.branch [
            | else-a-self-via-then-a-self+else-b-self w' ↦ meets_skip _ _ _ _ c.loop-i.invariant (λ _. w'.if-b-self.false)
            | else-a-self-via-else-a-self w' ↦ meets_skip _ _ _ _ c.loop-i.invariant (λ row. absurd (omega (arith, w'.if-a-self.false)))
          ])
    ]
