-- Each kind of line has its own checks.
use mathlib.Core.Path.{◌≡◌, sym, ap, ◌∙◌}
use Rattle.model.specs.Machine.{used, bound, term_refusal, settled, entered}
use Rattle.checks.specs.Standing.{Free}
use Rattle.checks.specs.Refused.{number_of}
use Rattle.checks.proofs.first_refusal.Goals as goal

pub returns-in-TypeLine : goal.returns-in-TypeLine
unfolding entered settled
returns-in-TypeLine g c = λ m counts children parameters. c.type_refusal.ensures m counts.type_rows ∙ ap (λ line. (entered m line).number) (sym c.in-TypeLine.is)

pub returns-in-ParamLine : goal.returns-in-ParamLine
unfolding entered settled
returns-in-ParamLine g c = λ m counts children parameters. c.param_refusal.ensures m counts.type_rows counts.parameters ∙ ap (λ line. (entered m line).number) (sym c.in-ParamLine.is)

pub returns-in-TermLine : goal.returns-in-TermLine
unfolding entered settled
returns-in-TermLine g c = λ m counts children parameters.
    let free : Free m c.in-TermLine.term c.children_free-children_free.result c.binder_free-binder_free.result = record { seven = c.children_free-children_free.ensures (used m.terms) children; eight = c.binder_free-binder_free.ensures (bound m.terms) parameters } in
    let found : number_of c.term_refusal.result ≡ term_refusal m c.in-TermLine.own c.in-TermLine.term = c.term_refusal.ensures m counts.parameters counts.term_rows free in
    found ∙ ap (λ line. (entered m line).number) (sym c.in-TermLine.is)

pub returns-in-NoForm : goal.returns-in-NoForm
unfolding entered settled
returns-in-NoForm g c = λ m counts children parameters. ap (λ line. (entered m line).number) (sym c.in-NoForm.is)
