-- `occurs::finite_type` and `occurs::finite_qualified`: what the marks say where the search comes to a node and where it leaves it.
use native.Mathlib.Omega.{arith}
use mathlib.Core.Bool.{true, not}
use mathlib.Core.Logic.{inl, inr}
use mathlib.Core.Path.{refl, ap}
use lib.ListN.{set}
use Rattle.occurs.specs.declared.Mark.TheVariants.{OnTheWay}
use Rattle.occurs.specs.Marks.{number_of_mark, Walked}
use Rattle.occurs.proofs.Marks.{kept_trans}
use Rattle.occurs.proofs.Search.{came_walked, came_known, no_arrow, marked_already, contains_itself, way_root, new_arrow, walked_root, entered, fewer_unseen, way_on, finished}
use Rattle.occurs.proofs.+finite_qualified_finite_type.Goals.{finite_type-then-not-known_finite+else-not-finite_qualified, finite_type-else-not-known_finite, finite_type-then-not-known_finite-2+else-not-finite_qualified-2, finite_type-else-not-known_finite-2}
use Rattle.occurs.proofs.+finite_qualified_finite_type.Goals as goal

pub finite_qualified-returns-then-types-root-lt-FIRST_ARROW : goal.finite_qualified-returns-then-types-root-lt-FIRST_ARROW
finite_qualified-returns-then-types-root-lt-FIRST_ARROW t c = no_arrow c.requires.type_classes.1.1 c.find-root.ensures c.requires.way c.if-types-root-lt-FIRST_ARROW.true

pub finite_qualified-returns-in-OnTheWay : goal.finite_qualified-returns-in-OnTheWay
finite_qualified-returns-in-OnTheWay t c = contains_itself c.requires.type_classes.1.1 c.find-root.ensures c.requires.way (ap number_of_mark c.in-OnTheWay.is)

pub finite_qualified-returns-in-Done : goal.finite_qualified-returns-in-Done
finite_qualified-returns-in-Done t c = marked_already c.requires.type_classes.1.1 c.find-root.ensures c.requires.way (omega (arith, ap number_of_mark c.in-Done.is))

pub finite_qualified-finite_type-requires : goal.finite_qualified-finite_type-requires
finite_qualified-finite_type-requires t c =
    let given = c.requires.type_classes in
    let new = new_arrow given.1.1 c.find-root.ensures c.requires.way c.if-types-root-lt-FIRST_ARROW.false (ap number_of_mark c.in-Unseen.is) in
    let way = way_root given.1.1 c.find-root.ensures c.requires.way in
    (omega (arith, c.decreases), ((given.0, (given.1.0, new)), way))

pub finite_qualified-returns-in-Unseen : goal.finite_qualified-returns-in-Unseen
finite_qualified-returns-in-Unseen t c = walked_root c.requires.type_classes.1.1 c.find-root.ensures c.requires.way c.finite_type.ensures

pub finite_type-finite_qualified-requires : goal.finite_type-finite_qualified-requires
finite_type-finite_qualified-requires t c =
    let given = c.requires.type_classes in
    let new = given.1.1 in
    let kept = entered new c.requires.way in
    let part = c.part-argument.ensures in
    let way = way_on new c.requires.way kept _ (inl part.0) in
    (omega (arith, fewer_unseen new c.requires.way kept, c.decreases), ((given.0, (given.1.0, part.1)), way))

pub finite_type-finite_qualified-requires-then-not-known_finite-2 : goal.finite_type-finite_qualified-requires-then-not-known_finite-2
finite_type-finite_qualified-requires-then-not-known_finite-2 t c =
    let given = c.requires.type_classes in
    let new = given.1.1 in
    let first : Walked c.args.types.now c.args.kids.now (set c.args.marks.now c.args.root OnTheWay) c.if-not-known_finite.marks c.part-argument.result true =
    elim c.if-not-known_finite.branch [
      | finite_type-then-not-known_finite+else-not-finite_qualified w ↦ rw w.marks-is (came_walked w.finite_qualified.ensures (ap not w.if-not-finite_qualified.false))
      | finite_type-else-not-known_finite w ↦ rw w.marks-is (came_known c.known_finite.ensures (ap not w.if-not-known_finite.false) (entered new c.requires.way).sound)
    ] in
    let kept = first.kept refl in
    let part = c.part-result.ensures in
    let way = way_on new c.requires.way kept _ (inr part.0) in
    (omega (arith, fewer_unseen new c.requires.way kept, c.decreases), ((given.0, (given.1.0, part.1)), way))

pub finite_type-returns : goal.finite_type-returns
finite_type-returns t c =
    let given = c.requires.type_classes in
    let new = given.1.1 in
    let first : Walked c.args.types.now c.args.kids.now (set c.args.marks.now c.args.root OnTheWay) c.if-not-known_finite.marks c.part-argument.result true =
    elim c.if-not-known_finite.branch [
      | finite_type-then-not-known_finite+else-not-finite_qualified w ↦ rw w.marks-is (came_walked w.finite_qualified.ensures (ap not w.if-not-finite_qualified.false))
      | finite_type-else-not-known_finite w ↦ rw w.marks-is (came_known c.known_finite.ensures (ap not w.if-not-known_finite.false) (entered new c.requires.way).sound)
    ] in
    let second : Walked c.args.types.now c.args.kids.now c.if-not-known_finite.marks c.if-not-known_finite-2.marks c.part-result.result true =
    elim c.if-not-known_finite-2.branch [
      | finite_type-then-not-known_finite-2+else-not-finite_qualified-2 w ↦ rw w.marks-is (came_walked w.finite_qualified-then-not-known_finite-2.ensures (ap not w.if-not-finite_qualified-2.false))
      | finite_type-else-not-known_finite-2 w ↦ rw w.marks-is (came_known c.known_finite-2.ensures (ap not w.if-not-known_finite-2.false) (first.kept refl).sound)
    ] in
    finished new c.requires.way (kept_trans (first.kept refl) (second.kept refl)) c.part-argument.ensures.0 c.part-result.ensures.0 (first.finite refl) (second.finite refl)
