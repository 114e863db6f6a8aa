-- The marks tell what the rows tell.
use borrow.Author.Rules.{rules}
use Rattle.model.specs.Machine.{children, binds}
use Rattle.checks.proofs.Marking.{marks_tell}
use Rattle.checks.proofs.marks.Marks.refusal.Goals as goal

pub returns : goal.returns
returns c = λ m counts marked. c.first_refusal.ensures m counts (marks_tell children m.terms _ marked.children_marked (λ n found asked. search rules)) (marks_tell binds m.terms _ marked.binders_marked (λ n found asked. search rules))
