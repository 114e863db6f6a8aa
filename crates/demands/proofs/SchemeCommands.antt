-- Every list of calls from the table of every accepted scheme file is a script: such a file holds no blank, so that its command has the file back.
use Prim.Native.Nat.{ℕ, zero, suc, ◌<◌}
use native.Mathlib.Omega.{arith}
use mathlib.Core.Bool.{Bool, true, false, ◌&&◌, ◌||◌, cond, false≢true}
use mathlib.Core.List.{List, [], ◌∷◌, ◌++◌, map}
use mathlib.Core.Path.{◌≡◌, refl, sym, ap, subst, ◌∙◌}
use lib.Dec.{eqb, leb}
use lib.ListN.{length}
use borrow.Author.Tests.{eqb-true, eq-eqb, ne_eqb}
use Rattle.scheme.specs.Six.{six_table}
use Rattle.scheme.specs.Schemes.{fitting, bits_differ}
use Rattle.scheme.proofs.Every.{and_left, and_right}
use Rattle.model.specs.Lists.{any_of, all_of, contains, same, bytes}
use Rattle.model.specs.Number.{decimal}
use Rattle.model.specs.Line.{fields, field, lines_of}
use Rattle.model.specs.Machine.{Machine, Change, fresh_machine}
use Rattle.model.specs.SchemeFile.{is_capital, is_name, is_bit, is_bits, is_scheme_line, table_of, names_differ, well_written, scheme_refusal, opened_with, opened}
use Rattle.model.specs.Report.{line}
use Rattle.model.specs.Session.{Call, Outcome, Session}
use Rattle.conversation.specs.Script.{file_in, command_of, restarted, Replies, Dialogue, Conversation}
use Rattle.conversation.specs.Script as Script
use Rattle.model.proofs.Lists.{same_bytes}
use Rattle.model.proofs.Checks.{passed, settled_accepted}
use Rattle.model.proofs.Opened.{line_name, line_bits}
use Rattle.starred.specs.Starred.{All}
use Rattle.demands.specs.Traces.{calls_of}
use Rattle.demands.specs.Scripts.{command_for_file, command_for, Spelled, script_of, answers_of}
use Rattle.demands.proofs.Without.{first_other, rest_without, kind_without, fields_contain, lines_contain, parts_without}
use Rattle.demands.proofs.Scripts.{first_line, script_lines, list_held}

-- The parts of a scheme line hold no blank.
name_clean : (s : List ℕ) → is_name s ≡ true → contains 32 s ≡ false
unfolding is_name
name_clean s h = kind_without 32 is_capital refl s (and_right (leb 1 (length s) && leb (length s) 5) _ (and_left _ _ h))

bits_clean : (s : List ℕ) → is_bits s ≡ true → contains 32 s ≡ false
unfolding is_bits
bits_clean s h = kind_without 32 is_bit refl s (and_right (eqb (length s) 5) _ h)

tag_clean : (s : List ℕ) → is_scheme_line s ≡ true → (length (fields s) ≡ 3) × (contains 32 (field s 0) ≡ false)
unfolding is_scheme_line
tag_clean s h =
    let two : (eqb (length (fields s)) 3 && same (field s 0) (bytes "S")) ≡ true = and_left _ (is_name (field s 1)) (and_left _ (is_bits (field s 2)) h) in
    (eqb-true _ 3 (and_left _ _ two), ap (contains 32) (same_bytes (field s 0) (bytes "S") (and_right (eqb (length (fields s)) 3) _ two)))

line_clean : (s : List ℕ) → is_scheme_line s ≡ true → contains 32 s ≡ false
line_clean s h = sym (fields_contain 32 refl s) ∙ parts_without 32 (fields s) each
  where
    each : (k : ℕ) → k < length (fields s) → contains 32 (field s k) ≡ false
    each zero inside = (tag_clean s h).1
    each (suc zero) inside = name_clean (field s 1) (line_name s h)
    each (suc (suc zero)) inside = bits_clean (field s 2) (line_bits s h)
    each (suc (suc (suc k))) inside = let z : ⊥ = omega (arith, (tag_clean s h).0) in absurd z

lines_clean : (lines : List (List ℕ)) → all_of is_scheme_line lines ≡ true → any_of (contains 32) lines ≡ false
lines_clean [] h = refl
lines_clean (s ∷ rest) h = rw (line_clean s (and_left _ (all_of is_scheme_line rest) h)) (lines_clean rest (and_right (is_scheme_line s) _ h))

file_clean : (file : List ℕ) → (opened file).number ≡ 0 → contains 32 file ≡ false
unfolding opened_with scheme_refusal well_written
file_clean file e =
    let written = (passed 25 (well_written (lines_of file)) _ (omega arith) e).0 in
    let three = and_left (fitting (length (lines_of file)) && all_of is_scheme_line (lines_of file) && names_differ (table_of (lines_of file))) (bits_differ (table_of (lines_of file))) written in
    let two = and_left (fitting (length (lines_of file)) && all_of is_scheme_line (lines_of file)) (names_differ (table_of (lines_of file))) three in
    sym (lines_contain 32 refl file) ∙ lines_clean (lines_of file) (and_right (fitting (length (lines_of file))) _ two)

-- Blanks for line feeds, and line feeds for blanks.
file_back : (file : List ℕ) → contains 32 file ≡ false → file_in (map (λ b. cond (eqb b 10) 32 b) file) ≡ file
file_back [] h = refl
file_back (b ∷ bs) h = by (eqb b 10) refl (file_back bs (rest_without 32 b bs h))
  where
    by : (t : Bool) → eqb b 10 ≡ t → file_in (map (λ b. cond (eqb b 10) 32 b) bs) ≡ bs → file_in (cond t 32 b ∷ map (λ b. cond (eqb b 10) 32 b) bs) ≡ b ∷ bs
    by true e later = rw (eqb-true b 10 e) (ap (λ (l : List ℕ). 10 ∷ l) later)
    by false e later = simp (first_other 32 b bs h) (ap (λ (l : List ℕ). b ∷ l) later)

one_line : (file : List ℕ) → contains 10 (map (λ b. cond (eqb b 10) 32 b) file) ≡ false
one_line [] = refl
one_line (b ∷ bs) = by (eqb b 10) refl (one_line bs)
  where
    by : (t : Bool) → eqb b 10 ≡ t → contains 10 (map (λ b. cond (eqb b 10) 32 b) bs) ≡ false → (eqb 10 (cond t 32 b) || contains 10 (map (λ b. cond (eqb b 10) 32 b) bs)) ≡ false
    by true e later = later
    by false e later = rw (ne_eqb 10 b (λ same. false≢true (sym e ∙ eq-eqb b 10 (sym same)))) later

-- The command of an accepted file starts its fresh table.
restarts_fresh : (m : Machine) (file : List ℕ) → (opened file).number ≡ 0 → Replies m (command_for_file file) (line (decimal 0 ∷ [])) (opened file).machine
unfolding command_of
restarts_fresh m file e =
    let is : restarted m file ≡ opened file = sym (settled_accepted m (opened file) e) in
    let replies : Replies m (command_for_file file) (line (decimal (restarted m file).number ∷ [])) (restarted m file).machine = Replies.restarts (ap Script.schemes (file_back file (file_clean file e))) in
    subst (λ (k : ℕ). Replies m (command_for_file file) (line (decimal k ∷ [])) (opened file).machine) e
    (subst (λ (c : Change). Replies m (command_for_file file) (line (decimal c.number ∷ [])) c.machine) is replies)

pub file_converses : {trace : List (Call × Outcome)} (file : List ℕ) → (opened file).number ≡ 0 → All Spelled (calls_of trace) → Session (opened file).machine trace →
    Conversation (command_for_file file ++ (10 ∷ script_of (calls_of trace))) (line (decimal 0 ∷ []) ++ answers_of trace)
file_converses {trace} file e spelled session =
    let lines : lines_of (command_for_file file ++ (10 ∷ script_of (calls_of trace))) ≡ command_for_file file ∷ map command_for (calls_of trace) = first_line (command_for_file file) (script_of (calls_of trace)) (one_line file) ∙ ap (λ (rest : List (List ℕ)). command_for_file file ∷ rest) (script_lines spelled) in
    record {
      dialogue = subst (λ (all : List (List ℕ)). Dialogue (fresh_machine six_table) all (line (decimal 0 ∷ []) ++ answers_of trace)) (sym lines)
          (Dialogue.next (restarts_fresh (fresh_machine six_table) file e) (list_held trace spelled session));
    }
