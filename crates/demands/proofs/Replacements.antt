-- The replacements that document 01 asks to try are excluded: said of calls and their answers, and never of the solver.
-- Document 01, "Before a delivery is taken": "Try these replacements."
use Prim.Native.Nat.{ℕ, ◌≤◌}
use native.Mathlib.Omega.{arith}
use mathlib.Core.List.{List, [], ◌∷◌, ◌++◌}
use mathlib.Core.Path.{◌≡◌, refl, sym, ap, ◌∙◌}
use lib.ListN.{length, get_or}
use Rattle.model.specs.Lists.{bytes}
use Rattle.model.specs.Number.{decimal}
use Rattle.scheme.specs.Six.{six_table}
use Rattle.scheme.proofs.Six.{six_sound}
use Rattle.text.proofs.Same.{loaded_sound}
use Rattle.model.specs.Machine.{Machine, fresh_machine}
use Rattle.model.specs.Closed.{Closed}
use Rattle.model.specs.Typing.{Typable}
use Rattle.model.specs.Strength.{whole}
use Rattle.model.specs.Inference.{ruling, Slot, Shape}
use Rattle.model.specs.Report.{line, report}
use Rattle.model.specs.Session.{Call, add, redeclare, infer, Outcome, Infers, short, refused, accepted, Answers, adds, Session}
use Rattle.model.specs.Text.{loaded, load}
use Rattle.inference.proofs.Corollaries.{open_exactly, refused_untypable, reported_greatest}
use Rattle.text.proofs.Accepted.{entries, added_longer}
use Rattle.starred.specs.Starred.{text_of, program_A}
use Rattle.starred.proofs.Operations.{program_A_prints}
use Rattle.demands.specs.Traces.{calls_of}
use Rattle.demands.specs.Replacements.{plain_for_every_slot, adds_of, report_in}
use Rattle.demands.proofs.Decimal.{report_counts}
use Rattle.demands.proofs.Loading.{session_loaded, printed_reported}
use Rattle.demands.proofs.ProgramA.{machine_A, plain_differs, both_reports}

-- "PLAIN for every slot: demand 3 excludes it, though it is often a typing." On program A, whatever the shapes and the bytes beyond.
pub plain_for_every_slot_excluded : {m : Machine} {buffer : List ℕ} {o : Outcome} → load six_table (text_of program_A.program) ≡ loaded m → 6280 ≤ length buffer → Infers m buffer o →
    (o.number ≡ 0) × ((shape : Slot → Shape) (rest : List ℕ) → ¬ (o.buffer ≡ report m plain_for_every_slot shape ++ rest))
plain_for_every_slot_excluded loads long i =
    let is = printed_reported (loaded_sound six_table six_sound (text_of program_A.program) loads) program_A_prints loads refl long i in
    (ap (λ (o : Outcome). o.number) is, λ shape rest e. plain_differs loads shape _ rest (sym (ap (λ (o : Outcome). o.buffer) is) ∙ e))

-- "The first report repeated: demand 3, over the list." The adds of program A, infer, parameter 0 redeclared FHE, infer: the reports differ.
pub first_report_repeated_excluded : (adding : List (Call × Outcome)) (buffer buffer' : List ℕ) (first changed second : Outcome) →
    calls_of adding ≡ adds_of (text_of program_A.program) → 6280 ≤ length buffer → 6280 ≤ length buffer' →
    Session (fresh_machine six_table) (adding ++ ((infer buffer, first) ∷ (redeclare 0 1, changed) ∷ (infer buffer', second) ∷ [])) → ¬ (report_in first ≡ report_in second)
first_report_repeated_excluded adding buffer buffer' first changed second calls long long' session e =
    let both = both_reports long long' (session_loaded six_table (text_of program_A.program) adding _ calls machine_A session) in
    let byte = ap (λ (bytes : List ℕ). get_or bytes 7 0) (sym both.0 ∙ e ∙ both.1) in
    omega arith

-- "21 for every program: demand 3." A program that has a typing is answered with none of the three.
pub refused_21_excluded : {m : Machine} {buffer : List ℕ} {o : Outcome} → Infers m buffer o → Typable (whole (ruling m)) m (length m.terms) →
    ¬ (o.number ≡ 21) × ¬ (o.number ≡ 22) × ¬ (o.number ≡ 23)
refused_21_excluded i typable = (
  λ e. (refused_untypable i (omega arith) (omega arith)).1 typable,
  λ e. (refused_untypable i (omega arith) (omega arith)).1 typable,
  λ e. (refused_untypable i (omega arith) (omega arith)).1 typable,
)

-- "10 before looking: the closed condition with demand 1."
pub refused_10_excluded : {m : Machine} {buffer : List ℕ} {o : Outcome} → Infers m buffer o → Closed m → ¬ (o.number ≡ 10)
refused_10_excluded (short h) closed e = omega arith
refused_10_excluded {buffer = buffer} (refused long j z) closed e = (open_exactly {buffer = buffer} (refused long j z) long).0 e closed
refused_10_excluded (accepted long j) closed e = omega arith

one_more_entry : (m : Machine) (s : List ℕ) {o : Outcome} {after : Machine} → Answers m (add s) o after → o.number ≡ 0 → ¬ (after ≡ m)
one_more_entry m s adds e same = omega (arith, added_longer m s e, ap entries same)

-- "An add that stores nothing: demand 2."
pub add_that_stores_nothing_excluded : {m after : Machine} {s : List ℕ} {o : Outcome} → Answers m (add s) o after → o.number ≡ 0 → ¬ (after ≡ m)
add_that_stores_nothing_excluded {m} {s = s} a = one_more_entry m s a

-- "An OK line with invented counts: demand 2, as they are the lists' lengths."
pub invented_counts_excluded : {m : Machine} {buffer : List ℕ} {o : Outcome} (a b : ℕ) (rest : List ℕ) → Infers m buffer o → o.number ≡ 0 →
    o.buffer ≡ line (bytes "OK" ∷ decimal a ∷ decimal b ∷ []) ++ rest → (a ≡ length m.params) × (b ≡ length m.terms)
invented_counts_excluded {m} a b rest i e begins =
    let (word, shape, size_is, bytes-are, greatest) = reported_greatest i e in
    report_counts m word shape a b _ rest (sym bytes-are ∙ begins)
