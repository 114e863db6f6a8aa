-- Program A, and the same after its parameter is redeclared FHE: their machines and reports.
use Prim.Native.Nat.{ℕ, ◌≤◌}
use native.Mathlib.Omega.{arith}
use mathlib.Core.Bool.{true}
use mathlib.Core.List.{List, [], ◌∷◌, ◌++◌}
use mathlib.Core.Path.{◌≡◌, refl, ap, subst, ◌∙◌}
use lib.ListN.{length, drop, get_or}
use lib.Seq.{take-append_seam}
use lib.Dec.{lit<}
use Rattle.scheme.specs.Schemes.{below}
use Rattle.scheme.specs.Six.{six_table, fhe}
use Rattle.scheme.proofs.Schemes.{reflexive}
use Rattle.scheme.proofs.Six.{six_sound}
use Rattle.model.specs.Number.{decimal}
use Rattle.model.specs.Word.{qualifier_word}
use Rattle.model.specs.Machine.{Machine, first_failing, settled, redeclared}
use Rattle.model.specs.Inference.{Slot, Shape}
use Rattle.model.specs.Report.{line, lines, variable_line, param_line, row_line, report}
use Rattle.model.specs.Session.{redeclare, infer, Outcome, reporting, Infers, redeclares, infers, Session, next}
use Rattle.model.specs.Text.{loaded, load}
use Rattle.model.specs.declared.Term.{Term}
use Rattle.model.specs.declared.Term.TheVariants.{Lam, Op, Var}
use Rattle.starred.specs.Starred.{text_of, PrintsOutput, program_A}
use Rattle.starred.proofs.Machines.{one_parameter}
use Rattle.starred.proofs.Bounds.{plain_below_plain, fitting}
use Rattle.starred.proofs.Printed.{load_of, report_of}
use Rattle.starred.proofs.Operations.{NumbersWithin, numbers_print, program_A_prints}
use Rattle.demands.specs.Replacements.{plain_for_every_slot, report_in, program_A_in_FHE}
use Rattle.demands.proofs.Loading.{printed_reported}

abbrev pub terms : List Term
terms = Var 0 ∷ Var 0 ∷ Op 0 0 1 ∷ Lam 0 2 ∷ []

pub machine_A : load six_table (text_of program_A.program) ≡ loaded (one_parameter 7 terms)
unfolding load_of
machine_A = refl

machine_in_FHE : load six_table (text_of program_A_in_FHE.program) ≡ loaded (one_parameter 1 terms)
unfolding load_of
machine_in_FHE = refl

fhe_below_fhe : below six_table 1 1 ≡ true
fhe_below_fhe = reflexive six_table 1 (lit< tt)

in_FHE_within : NumbersWithin (one_parameter 1 terms) fhe
in_FHE_within s e functions = (cc, cc fhe_below_fhe, cc (fhe_below_fhe, plain_below_plain))

in_FHE_prints : PrintsOutput program_A_in_FHE
unfolding load_of report_of
in_FHE_prints = numbers_print program_A_in_FHE (one_parameter 1 terms) refl refl refl fhe (search fitting depth 30) in_FHE_within refl

-- `redeclare 0 1` makes the one of the other.
redeclared_A : (redeclared (one_parameter 7 terms) 0 1).machine ≡ one_parameter 1 terms
unfolding redeclared settled first_failing
redeclared_A = refl

-- The word of `G,0,..`, the second line of the report, begins at byte 11.
plain_byte : (shape : Slot → Shape) (rest : List ℕ) → get_or (report (one_parameter 7 terms) plain_for_every_slot shape ++ rest) 11 0 ≡ 80
unfolding report lines line variable_line param_line row_line qualifier_word decimal
plain_byte shape rest = refl

pub plain_differs : {m : Machine} → load six_table (text_of program_A.program) ≡ loaded m → (shape : Slot → Shape) (beyond rest : List ℕ) →
    ¬ (text_of program_A.output ++ beyond ≡ report m plain_for_every_slot shape ++ rest)
plain_differs {m} loads shape beyond rest e =
    let same : m ≡ one_parameter 7 terms = cc machine_A in
    let byte = ap (λ (bytes : List ℕ). get_or bytes 11 0) (e ∙ ap (λ (m : Machine). report m plain_for_every_slot shape ++ rest) same) in
    let byte' = plain_byte shape rest in
    omega arith

report_is : {o : Outcome} {out : List ℕ} (buffer : List ℕ) → o ≡ reporting out buffer → report_in o ≡ out
report_is {out = out} buffer is = ap report_in is ∙ take-append_seam out (drop (length out) buffer)

-- What is inferred before a redeclare and after it.
inferred_both : {m : Machine} {buffer buffer' : List ℕ} {p code : ℕ} {first changed second : Outcome} →
    Session m ((infer buffer, first) ∷ (redeclare p code, changed) ∷ (infer buffer', second) ∷ []) → Infers m buffer first × Infers (redeclared m p code).machine buffer' second
inferred_both (next (infers i) (next redeclares (next (infers i') rest))) = (i, i')

-- The first report is program A's, the second has FHE throughout.
pub both_reports : {buffer buffer' : List ℕ} {first changed second : Outcome} → 6280 ≤ length buffer → 6280 ≤ length buffer' →
    Session (one_parameter 7 terms) ((infer buffer, first) ∷ (redeclare 0 1, changed) ∷ (infer buffer', second) ∷ []) →
    (report_in first ≡ text_of program_A.output) × (report_in second ≡ text_of program_A_in_FHE.output)
both_reports {buffer} {buffer'} {second = second} long long' session =
    let (i, i') = inferred_both session in (
      report_is buffer (printed_reported six_sound program_A_prints machine_A refl long i),
      report_is buffer' (printed_reported six_sound in_FHE_prints machine_in_FHE refl long' (subst (λ (m : Machine). Infers m buffer' second) redeclared_A i')),
    )
