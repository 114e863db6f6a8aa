-- A call's answer is a function of the machine and its argument, and so is a whole list's.
use Prim.Native.Nat.{ℕ}
use native.Mathlib.Omega.{arith}
use mathlib.Core.List.{List, map}
use mathlib.Core.Path.{◌≡◌, refl, sym, ap, subst}
use Rattle.model.specs.Machine.{Machine}
use Rattle.model.specs.Inference.{ruling}
use Rattle.model.specs.Session.{Call, Outcome, reporting, Infers, short, refused, accepted, Answers, adds, redeclares, takes_back, infers, Session, done, next}
use Rattle.scheme.specs.Schemes.{Sound}
use Rattle.model.proofs.Lawful.{sound_lawful}
use Rattle.model.proofs.Keeps.{answers_keep}
use Rattle.model.proofs.Unique.{judged_same, judged_accepted, word_same, shapes_same, report_same}

pub infers_same : {m : Machine} {buffer : List ℕ} {o o' : Outcome} → Sound m.schemes → Infers m buffer o → Infers m buffer o' → o ≡ o'
infers_same sound (short h) (short h') = refl
infers_same sound (short h) (refused h' j n) = let z : ⊥ = omega arith in absurd z
infers_same sound (short h) (accepted h' j) = let z : ⊥ = omega arith in absurd z
infers_same sound (refused h j n) (short h') = let z : ⊥ = omega arith in absurd z
infers_same {m} {buffer} sound (refused h j n) (refused h' j' n') = let e = judged_same (ruling m) (sound_lawful m.schemes sound) m j j' in cc (e.0, e.1)
infers_same {m} sound (refused h j n) (accepted h' j') = absurd (n (judged_same (ruling m) (sound_lawful m.schemes sound) m j j').0)
infers_same sound (accepted h j) (short h') = let z : ⊥ = omega arith in absurd z
infers_same {m} sound (accepted h j) (refused h' j' n) = absurd (n (judged_same (ruling m) (sound_lawful m.schemes sound) m j' j).0)
infers_same {m} {buffer} sound (accepted h j) (accepted h' j') =
    let a = judged_accepted j refl in
    let a' = judged_accepted j' refl in
    ap (λ (text : List ℕ). reporting text buffer) (report_same m (word_same (ruling m) (sound_lawful m.schemes sound) m a a') (shapes_same (ruling m) (sound_lawful m.schemes sound) m a a'))

pub answers_same : {m after after' : Machine} {call : Call} {o o' : Outcome} → Sound m.schemes → Answers m call o after → Answers m call o' after' → (o ≡ o') × (after ≡ after')
answers_same sound adds adds = (refl, refl)
answers_same sound redeclares redeclares = (refl, refl)
answers_same sound takes_back takes_back = (refl, refl)
answers_same sound (infers i) (infers i') = (infers_same sound i i', refl)

-- Two lists of the same calls, from the same machine, have the same outcomes.
pub session_same : {m : Machine} {trace trace' : List (Call × Outcome)} →
    Sound m.schemes → Session m trace → Session m trace' → map (λ step. step.0) trace ≡ map (λ step. step.0) trace' → trace ≡ trace'
session_same sound done done e = refl
session_same sound done (next a rest) e = cc
session_same sound (next a rest) done e = cc
session_same {m} sound (next {after = after} {call} {outcome} {rest = steps} a rest) (next {after = after'} {call = call'} {outcome = outcome'} {rest = steps'} a' rest') e =
    let same_call : call ≡ call' = cc in
    let same_calls : map (λ (step : Call × Outcome). step.0) steps ≡ map (λ (step : Call × Outcome). step.0) steps' = cc in
    let both : (outcome ≡ outcome') × (after ≡ after') = answers_same sound a (subst (λ (c : Call). Answers m c outcome' after') (sym same_call) a') in
    let same_rest : steps ≡ steps' = session_same (subst Sound (sym (answers_keep m a)) sound) rest (subst (λ (n : Machine). Session n steps') (sym both.1) rest') same_calls in
    cc both.0
