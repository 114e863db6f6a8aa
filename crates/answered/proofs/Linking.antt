-- The crates whose code `judge` reaches, in one world: each function is found there with its own code, so some environment is wired for it. Of a crate
-- that calls std elsewhere, only the functions that `judge` reaches are linked: std's code can't be.
use mathlib.Core.List.{[], ◌∷◌}
use mathlib.Core.Path.{refl}
use lib.Chars.{codes}
use prog.Routine.{Env}
use prog.Wired.{Wired}
use prog.Linked.{World, Holds, in_world}
use prog.LinkedThreads.{tie_t, tie_t-follows, tie_t-threads, has-wired_t}
use Rattle.table.proofs.Linkage.checks as checks
use Rattle.scheme.proofs.Linkage as scheme
use Rattle.schemes.proofs.Linkage as schemes
use Rattle.table.proofs.Linkage as table
use Rattle.inference.proofs.Linkage.closed as closed
use Rattle.inference.proofs.Linkage.floors as floors
use Rattle.inference.proofs.Linkage.report as report
use Rattle.inference.proofs.Linkage.solver.layout as layout
use Rattle.inference.proofs.Linkage.solver.forest as forest
use Rattle.inference.proofs.Linkage.solver.graph as graph
use Rattle.inference.proofs.Linkage.solver.occurs as occurs
use Rattle.inference.proofs.Linkage.solver.qualifiers as qualifiers
use Rattle.inference.proofs.Linkage.solver.unification as unification
use Rattle.inference.proofs.Linkage.solver.pending as pending
use Rattle.inference.proofs.Linkage.solver.rows as rows
use Rattle.inference.proofs.Linkage.solver.setup as setup
use Rattle.inference.proofs.Linkage.solver.slots as slots
use Rattle.inference.proofs.Linkage.solver as solver
use Rattle.inference.proofs.Linkage as inference
use Rattle.answered.proofs.TheLink as answered
use Rattle.answered.proofs.judge.Symbol as symbol

unfoldable world : World
world =
    (codes "answered", answered.table)
    ∷ (codes "inference", inference.table)
    ∷ (codes "solver", solver.table)
    ∷ (codes "slots", slots.table)
    ∷ (codes "setup", setup.table)
    ∷ (codes "rows", rows.table)
    ∷ (codes "pending", pending.table)
    ∷ (codes "unification", unification.table)
    ∷ (codes "qualifiers", qualifiers.table)
    ∷ (codes "occurs", occurs.table)
    ∷ (codes "graph", graph.table)
    ∷ (codes "forest", forest.table)
    ∷ (codes "layout", layout.table)
    ∷ (codes "report", report.table)
    ∷ (codes "floors", floors.table)
    ∷ (codes "closed", closed.table)
    ∷ (codes "table", table.table)
    ∷ (codes "schemes", schemes.table)
    ∷ (codes "scheme", scheme.table)
    ∷ (codes "checks", checks.table)
    ∷ []

holds_checks : Holds world "checks" checks.table
unfolding world
holds_checks = refl

holds_scheme : Holds world "scheme" scheme.table
unfolding world
holds_scheme = refl

below_scheme : scheme.Below world
below_scheme = tt

holds_schemes : Holds world "schemes" schemes.table
unfolding world
holds_schemes = refl

holds_table : Holds world "table" table.table
unfolding world
holds_table = refl

holds_closed : Holds world "closed" closed.table
unfolding world
holds_closed = refl

below_closed : closed.Below world
below_closed = (checks.linked_term_children_of world holds_checks, (table.linked_Table_parameters world holds_table, (table.linked_Table_term_rows world holds_table, tt)))

holds_floors : Holds world "floors" floors.table
unfolding world
holds_floors = refl

below_floors : floors.Below world
below_floors = (scheme.linked_is_under world holds_scheme below_scheme, tt)

holds_report : Holds world "report" report.table
unfolding world
holds_report = refl

below_report : report.Below world
below_report = tt

holds_layout : Holds world "layout" layout.table
unfolding world
holds_layout = refl

below_layout : layout.Below world
below_layout = tt

holds_forest : Holds world "forest" forest.table
unfolding world
holds_forest = refl

below_forest : forest.Below world
below_forest = tt

holds_graph : Holds world "graph" graph.table
unfolding world
holds_graph = refl

below_graph : graph.Below world
below_graph = tt

holds_occurs : Holds world "occurs" occurs.table
unfolding world
holds_occurs = refl

below_occurs : occurs.Below world
below_occurs = (forest.linked_find world holds_forest below_forest, (graph.linked_part world holds_graph below_graph, tt))

holds_qualifiers : Holds world "qualifiers" qualifiers.table
unfolding world
holds_qualifiers = refl

below_qualifiers : qualifiers.Below world
below_qualifiers = (forest.linked_put_under world holds_forest below_forest, (forest.linked_root world holds_forest below_forest, (scheme.linked_is_under world holds_scheme below_scheme, (scheme.linked_meet_in world holds_scheme below_scheme, (scheme.linked_top world holds_scheme below_scheme, (scheme.linked_words world holds_scheme below_scheme, tt))))))

holds_unification : Holds world "unification" unification.table
unfolding world
holds_unification = refl

below_unification : unification.Below world
below_unification = (forest.linked_Notes_note world holds_forest below_forest, (forest.linked_put_under world holds_forest below_forest, (forest.linked_root world holds_forest below_forest, (graph.linked_part world holds_graph below_graph, tt))))

holds_pending : Holds world "pending" pending.table
unfolding world
holds_pending = refl

below_pending : pending.Below world
below_pending = (forest.linked_Notes_note world holds_forest below_forest, (forest.linked_find world holds_forest below_forest, (graph.linked_part world holds_graph below_graph, (layout.linked_row_qualifier world holds_layout below_layout, (layout.linked_row_type world holds_layout below_layout, (qualifiers.linked_unite world holds_qualifiers below_qualifiers, (scheme.linked_words world holds_scheme below_scheme, tt)))))))

holds_rows : Holds world "rows" rows.table
unfolding world
holds_rows = refl

below_rows : rows.Below world
below_rows = (forest.linked_Notes_note world holds_forest below_forest, (forest.linked_find world holds_forest below_forest, (forest.linked_put_under world holds_forest below_forest, (forest.linked_put_under_root world holds_forest below_forest, (forest.linked_root world holds_forest below_forest, (graph.linked_part world holds_graph below_graph, (layout.linked_arrow world holds_layout below_layout, (layout.linked_row_qualifier world holds_layout below_layout, (layout.linked_row_type world holds_layout below_layout, (occurs.linked_finite_from world holds_occurs below_occurs, (pending.linked_look_through world holds_pending below_pending, (qualifiers.linked_restrict world holds_qualifiers below_qualifiers, (qualifiers.linked_unite world holds_qualifiers below_qualifiers, (qualifiers.linked_unite_all world holds_qualifiers below_qualifiers, (qualifiers.linked_within_bounds world holds_qualifiers below_qualifiers, (scheme.linked_highest_in world holds_scheme below_scheme, (scheme.linked_result world holds_scheme below_scheme, (unification.linked_make_int world holds_unification below_unification, (unification.linked_unify world holds_unification below_unification, tt)))))))))))))))))))

holds_setup : Holds world "setup" setup.table
unfolding world
holds_setup = refl

below_setup : setup.Below world
below_setup = (layout.linked_arrow world holds_layout below_layout, (layout.linked_row_qualifier world holds_layout below_layout, (layout.linked_row_type world holds_layout below_layout, tt)))

holds_slots : Holds world "slots" slots.table
unfolding world
holds_slots = refl

below_slots : slots.Below world
below_slots = (layout.linked_row_qualifier world holds_layout below_layout, (layout.linked_row_type world holds_layout below_layout, (scheme.linked_stands_for world holds_scheme below_scheme, tt)))

holds_solver : Holds world "solver" solver.table
unfolding world
holds_solver = refl

below_solver : solver.Below world
below_solver = (layout.linked_row_qualifier world holds_layout below_layout, (layout.linked_row_type world holds_layout below_layout, (occurs.linked_all_finite world holds_occurs below_occurs, (occurs.linked_settle world holds_occurs below_occurs, (pending.linked_look_through world holds_pending below_pending, (pending.linked_gather_add_params world holds_pending below_pending, (pending.linked_gather_add_types world holds_pending below_pending, (pending.linked_shapes_fix world holds_pending below_pending, (qualifiers.linked_settle world holds_qualifiers below_qualifiers, (rows.linked_step world holds_rows below_rows, (scheme.linked_top world holds_scheme below_scheme, (scheme.linked_words world holds_scheme below_scheme, (setup.linked_describe_forms world holds_setup below_setup, (setup.linked_describe_term world holds_setup below_setup, (setup.linked_note_params world holds_setup below_setup, (setup.linked_start world holds_setup below_setup, (slots.linked_fill world holds_slots below_slots, tt)))))))))))))))))

holds_inference : Holds world "inference" inference.table
unfolding world
holds_inference = refl

below_inference : inference.Below world
below_inference = (closed.linked_is_closed world holds_closed below_closed, (floors.linked_lowest_missed world holds_floors below_floors, (report.linked_write world holds_report below_report, (report.linked_write_pair world holds_report below_report, (schemes.linked_front world holds_schemes, (solver.linked_solve world holds_solver below_solver, (table.linked_Table_parameters world holds_table, (table.linked_Table_term_rows world holds_table, (table.linked_Table_type_rows world holds_table, tt)))))))))

holds_answered : Holds world "answered" answered.table
unfolding world
holds_answered = refl

below_answered : answered.Below world
below_answered = (inference.linked_infer world holds_inference below_inference, tt)

-- An environment in which `judge` runs as its code says.
pub environment : Env
environment = tie_t (in_world world)

pub judge_wired : Wired environment symbol.code
unfolding environment
judge_wired = has-wired_t (in_world world) (tie_t (in_world world)) (tie_t-follows (in_world world)) (tie_t-threads (in_world world)) symbol.code (answered.linked-answered::judge world holds_answered below_answered)
