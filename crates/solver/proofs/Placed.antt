-- A run that went through all rows, settled and filled, places the program.
use Prim.Native.Nat.{ℕ}
use native.Mathlib.Omega.{arith}
use mathlib.Core.List.{List}
use mathlib.Core.Path.{◌≡◌, refl, sym, ap, subst, ◌∙◌}
use lib.ListN.{length, length-take}
use Rattle.model.specs.Machine.{Machine}
use Rattle.model.specs.Inference.{ruling, Slot, Listed, Shape, ShapeSays, GreatestTyping}
use Rattle.model.specs.declared.Program.{Program}
use Rattle.graph.specs.Types.{Types, kind_at, types_of}
use Rattle.qualifiers.specs.Classes.{Qualifiers, bound_at, Greatest, qualifiers_of}
use Rattle.occurs.specs.Kinds.{KindsSettled}
use Rattle.scheme.specs.Schemes.{SchemeTable}
use Rattle.readings.specs.Programs.{Counted, Holds, machine_of}
use Rattle.readings.proofs.Greatest.{solved_greatest}
use Rattle.report.specs.declared.Codes.{Codes}
use Rattle.slots.specs.Filled.{Filled}
use Rattle.solver.specs.Runs.{Governed, Completed, Placed}
use Rattle.solver.proofs.Solving.{state_solved}

-- What the typings give is the same in other words for the same slots.
greatest_as : (m : Machine) {word word' : Slot → ℕ} {shape shape' : Slot → Shape} →
    ((x : Slot) → Listed (ruling m) m x → word' x ≡ word x) → ((x : Slot) → Listed (ruling m) m x → shape' x ≡ shape x) →
    GreatestTyping (ruling m) m word shape → GreatestTyping (ruling m) m word' shape'
greatest_as m same_word same_shape a =
    record {
      worded = λ x l. rw (same_word x l) (a.worded x l);
      greatest = λ s typing x l. rw (same_word x l) (a.greatest s typing x l);
      shaped = λ x l. subst (λ (h : Shape). ShapeSays (ruling m) m x h) (sym (same_shape x l)) (a.shaped x l);
      together = (
        a.together.0,
        a.together.1,
        λ x l. a.together.2 x l ∙ ap (ruling m).word (sym (same_word x l)),
        λ x l any. a.together.3 x l (sym (same_shape x l) ∙ any),
      );
    }

-- A run over all rows went through all of them.
pub completed : {R : List ℕ} {m : Machine} {T : Types} {Q : Qualifiers} {rows all : ℕ} → rows ≡ all → Completed R m T Q rows → Completed R m T Q all
completed {R} {m} {T} {Q} whole done = subst (λ (n : ℕ). Completed R m T Q n) whole done

-- A program of whole arrays is held by its machines, with as many rows as its count says.
pub held : (T : SchemeTable) (program : Program) → length program.terms ≡ 256 → Counted program → Holds (machine_of T program) program
held T program size few =
    record { types = refl; params = refl; terms = refl; rows = length-take program.termcount program.terms ∙ omega (arith, few.terms) }

pub placed : {R : List ℕ} {m : Machine} {u k p b : List ℕ} (b' k' : List ℕ) {rows : ℕ} {codes : Codes} → Governed R m → rows ≡ length m.terms →
    Completed R m (types_of u k) (qualifiers_of p b) rows → Greatest R (qualifiers_of p b) (bound_at b') → KindsSettled (types_of u k) k' → Filled m (bound_at b') (kind_at k') codes → Placed m codes
placed {R} {m} {u} {k} {p} {b} b' k' gov whole done g settled filled =
    let all = completed whole done in
    let solved = state_solved m gov all.kids u all.kinds p b k k' all.pending (bound_at b') all.parts all.ended g settled in
    (greatest_as m filled.words filled.shapes (solved_greatest m gov.is_well_formed R gov.ruled (bound_at b') (kind_at k') solved), filled.matches)
