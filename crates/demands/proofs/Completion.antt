-- The words and shapes of an accepted program complete to a typing.
use Prim.Native.Nat.{ℕ}
use mathlib.Core.List.{List}
use mathlib.Core.Path.{◌≡◌, refl, subst}
use Rattle.model.specs.Machine.{Machine}
use Rattle.model.specs.Inference.{ruling, Slot, Listed, type_of, Shape, ShapeSays, GreatestTyping}
use Rattle.model.specs.Session.{Call, infer, Outcome, Infers, Answers, infers}
use Rattle.inference.proofs.Corollaries.{reported_greatest}
use Rattle.demands.specs.Completion.{HasShape, Completes, ReportsTyping}

pub completes : {m : Machine} {word : Slot → ℕ} {shape : Slot → Shape} → GreatestTyping (ruling m) m word shape → Completes m word shape
completes {m} {shape = shape} a =
    record {
      typing = a.together.0;
      types = a.together.1;
      has_words = a.together.2;
      has_shapes = λ x l. by x l (shape x) refl (a.shaped x l);
    }
  where
    by : (x : Slot) → Listed (ruling m) m x → (h : Shape) → shape x ≡ h → ShapeSays (ruling m) m x h → HasShape h (type_of a.together.0 x)
    by x l Shape.int e says = says a.together.0 a.together.1
    by x l Shape.arrow e says = says a.together.0 a.together.1
    by x l Shape.any e says = a.together.3 x l e

pub reports_typing : {m : Machine} {buffer : List ℕ} {o : Outcome} → Infers m buffer o → o.number ≡ 0 → ReportsTyping m buffer o
reports_typing i e =
    let (word, shape, size_is, bytes-are, a) = reported_greatest i e in
    (word, shape, size_is, bytes-are, completes a)

-- The same of a call that is an infer.
answered_infers : {m after : Machine} {buffer : List ℕ} {o : Outcome} → Answers m (infer buffer) o after → Infers m buffer o
answered_infers (infers i) = i

pub answered_reports : {m after : Machine} {call : Call} {o : Outcome} → Answers m call o after → (buffer : List ℕ) → call ≡ infer buffer → o.number ≡ 0 → ReportsTyping m buffer o
answered_reports {m} {after} {o = o} a buffer e = reports_typing (answered_infers (subst (λ (call : Call). Answers m call o after) e a))
