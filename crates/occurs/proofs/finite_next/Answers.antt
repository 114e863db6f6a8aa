-- `occurs::finite_next`: by the kind, and by whether both parts are below the node.
use Rattle.occurs.proofs.Search.{next_no_arrow, next_arrow}
use Rattle.occurs.proofs.finite_next.Goals as goal

pub returns-then-k-lt-FIRST_ARROW : goal.returns-then-k-lt-FIRST_ARROW
returns-then-k-lt-FIRST_ARROW c = let given = c.requires in
    next_no_arrow given.type_classes_1 given.type_classes_3 given.between c.if-k-lt-FIRST_ARROW.true

pub returns-then-part-node-2 : goal.returns-then-part-node-2
returns-then-part-node-2 c = let given = c.requires in
    next_arrow
    given.type_classes_1
    given.type_classes_3
    given.between
    c.if-k-lt-FIRST_ARROW.false
    c.part.ensures.0
    c.part-then-part-node.ensures.0
    c.if-part-node.true
    c.if-part-node-2.true
