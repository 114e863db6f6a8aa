-- Lists that begin with the adds of a text, and what an infer after them reports: what `place` prints of the text.
use Prim.Native.Nat.{ℕ, ◌+◌, ◌≤◌}
use native.Mathlib.Omega.{arith}
use mathlib.Core.Bool.{Bool, true, false, cond}
use mathlib.Core.List.{List, [], ◌∷◌, ◌++◌, map}
use mathlib.Core.Path.{◌≡◌, refl, subst}
use lib.Dec.{eqb}
use lib.ListN.{length, get_or}
use Rattle.model.specs.Machine.{Machine, fresh_machine, added}
use Rattle.scheme.specs.Schemes.{SchemeTable, Sound}
use Rattle.model.specs.Report.{line}
use Rattle.model.specs.Session.{Call, add, Outcome, reporting, Infers, accepted, Answers, adds, Session, next}
use Rattle.model.specs.Text.{lines_of, loaded, stopped, load_from, load, Prints, refused_add, refused_inference, reported}
use Rattle.model.proofs.Answers.{infers_same}
use Rattle.demands.specs.Traces.{calls_of}
use Rattle.demands.specs.Replacements.{adds_of}

none_load : {m' : Machine} (m : Machine) (n : ℕ) → load_from m n [] ≡ loaded m' → m ≡ m'
unfolding load_from
none_load m n e = cc

-- The first line was accepted, and the others load from the machine that it left.
load_rest : {m' : Machine} (m : Machine) (n : ℕ) (s : List ℕ) (rest : List (List ℕ)) → load_from m n (s ∷ rest) ≡ loaded m' → load_from (added m s).machine (n + 1) rest ≡ loaded m'
unfolding load_from
load_rest {m'} m n s rest = by (eqb (added m s).number 0)
  where
    by : (t : Bool) → cond t (load_from (added m s).machine (n + 1) rest) (stopped (added m s).number n) ≡ loaded m' → load_from (added m s).machine (n + 1) rest ≡ loaded m'
    by true e = e
    by false e = let z : ◌≡◌ {A = ℕ} 0 1 = cc in absurd (omega arith)

adds_leave : {m : Machine} {s : List ℕ} {after : Machine} {o : Outcome} → Answers m (add s) o after → after ≡ (added m s).machine
adds_leave adds = refl

session_from : {m m' : Machine} (n : ℕ) (lines : List (List ℕ)) (trace rest : List (Call × Outcome)) →
    calls_of trace ≡ map add lines → load_from m n lines ≡ loaded m' → Session m (trace ++ rest) → Session m' rest
session_from {m} n [] [] rest calls loads session = subst (λ (m : Machine). Session m rest) (none_load m n loads) session
session_from n [] (step ∷ trace) rest calls loads session = let z : ◌≡◌ {A = ℕ} 0 1 = cc in absurd (omega arith)
session_from n (s ∷ lines) [] rest calls loads session = let z : ◌≡◌ {A = ℕ} 0 1 = cc in absurd (omega arith)
session_from {m} n (s ∷ lines) ((call, o) ∷ trace) rest calls loads (next {after = after} a session) =
    let same : call ≡ add s = cc in
    let leaves : after ≡ (added m s).machine = adds_leave (subst (λ (c : Call). Answers m c o after) same a) in
    session_from {m = (added m s).machine} (n + 1) lines trace rest (cc) (load_rest m n s lines loads) (subst (λ (m : Machine). Session m (trace ++ rest)) leaves session)

-- After the adds of a text, the list goes on from the machine that the text loads as.
pub session_loaded : {m : Machine} (T : SchemeTable) (text : List ℕ) (trace rest : List (Call × Outcome)) →
    calls_of trace ≡ adds_of text → load T text ≡ loaded m → Session (fresh_machine T) (trace ++ rest) → Session m rest
session_loaded T text = session_from 1 (lines_of text)

-- A text of which a report is printed: an infer on its machine reports the same.
printed_infers : {T : SchemeTable} {text out : List ℕ} {m : Machine} (buffer : List ℕ) → Prints T text out → load T text ≡ loaded m → get_or out 0 0 ≡ 79 → 6280 ≤ length buffer → Infers m buffer (reporting out buffer)
unfolding line
printed_infers buffer (refused_add e) loads first long = let z : ◌≡◌ {A = ℕ} 0 1 = cc in absurd (omega arith)
printed_infers buffer (refused_inference e j n) loads first long = absurd (omega arith)
printed_infers {out = out} {m} buffer (reported {m = m'} e j) loads first long =
    let same : m' ≡ m = cc in
    subst (λ (m : Machine). Infers m buffer (reporting out buffer)) same (accepted long j)

pub printed_reported : {T : SchemeTable} {text out : List ℕ} {m : Machine} {buffer : List ℕ} {o : Outcome} → Sound m.schemes →
    Prints T text out → load T text ≡ loaded m → get_or out 0 0 ≡ 79 → 6280 ≤ length buffer → Infers m buffer o → o ≡ reporting out buffer
printed_reported {buffer = buffer} sound prints loads first long i = infers_same sound i (printed_infers buffer prints loads first long)
