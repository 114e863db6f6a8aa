-- Any codes and counts match some machine with the given words, so `write` always has a report to write, and that has at most 6,280 bytes.
-- The machine's type rows name just the variables with a word's code; its parameters and rows are all alike.
use Prim.Native.Nat.{ℕ, zero, suc, ◌+◌, ◌≤◌, ◌<◌}
use native.Mathlib.Omega.{arith}
use mathlib.Core.Bool.{Bool, true, false, cond, ◌&&◌, and-true, and-false, or-false, or_self}
use mathlib.Core.List.{List, [], ◌∷◌}
use mathlib.Core.Path.{◌≡◌, refl, sym, ap}
use lib.Dec.{ltb, eqb}
use lib.ListN.{length, get_or, replicate, length-replicate}
use borrow.Author.Tests.{ne_eqb, eq-eqb}
use Rattle.model.specs.Lists.{any_of, contains}
use Rattle.model.specs.Machine.{Machine, no_param}
use Rattle.model.specs.Inference.{codes}
use Rattle.model.specs.declared.TypeForm.TheVariants.{Int, Arrow}
use Rattle.model.specs.declared.TypeRow.{TypeRow}
use Rattle.model.specs.declared.Param.{Param}
use Rattle.model.specs.declared.Term.TheVariants.{Num}
use Rattle.model.proofs.Limits.{Within}
use Rattle.model.proofs.Length.{report_length}
use Rattle.report.specs.Codes.{coded_word, coded_shape}
use Rattle.report.specs.declared.Codes.{Codes}
use Rattle.report.specs.Writing.{Room, Spelled, words_in}
use Rattle.report.specs.Written.{Short, Matches, Written}
use Rattle.report.proofs.Text.{text, is_report, same_text}

-- n type rows for n variables, the first with the code c: a row names its variable where that is listed, and nothing else.
naming : ℕ → (ℕ → Bool) → ℕ → List TypeRow
naming zero listed c = []
naming (suc n) listed c = record { form = cond (listed 0) (Arrow c 0 c 0) Int } ∷ naming n (λ k. listed (suc k)) (suc c)

naming_length : (n : ℕ) (listed : ℕ → Bool) (c : ℕ) → length (naming n listed c) ≡ n
unfolding naming
naming_length zero listed c = refl
naming_length (suc n) listed c = ap suc (naming_length n (λ k. listed (suc k)) (suc c))

abbrev has_code : ℕ → TypeRow → Bool
has_code j r = contains j (codes r.form)

one_row : (b : Bool) (j c : ℕ) → has_code j (record { form = cond b (Arrow c 0 c 0) Int }) ≡ (b && eqb j c)
one_row true j c = simp (or-false, or_self)
one_row false j c = refl

none_named : (n : ℕ) (listed : ℕ → Bool) (c j : ℕ) → j < c → any_of (has_code j) (naming n listed c) ≡ false
unfolding naming
none_named zero listed c j h = refl
none_named (suc n) listed c j h =
    rw (one_row (listed 0) j c, ne_eqb j c (λ e. omega arith), and-false (listed 0)) (none_named n (λ k. listed (suc k)) (suc c) j (omega arith))

some_named : (n : ℕ) (listed : ℕ → Bool) (c k j : ℕ) → k < n → j ≡ k + c → any_of (has_code j) (naming n listed c) ≡ listed k
unfolding naming
some_named zero listed c k j below e = let z : ⊥ = omega arith in absurd z
some_named (suc n) listed c zero j below e =
    rw (one_row (listed 0) j c, eq-eqb j c (omega arith), none_named n (λ k. listed (suc k)) (suc c) j (omega arith), or-false (listed 0 && true), and-true (listed 0))
some_named (suc n) listed c (suc k) j below e =
    rw (one_row (listed 0) j c, ne_eqb j c (λ e'. omega arith), and-false (listed 0)) (some_named n (λ i. listed (suc i)) (suc c) k j (omega arith) (omega arith))

no_param_lem : (j p : ℕ) → 0 < j → any_of (λ (param : Param). eqb j param.qualifier) (replicate p no_param) ≡ false
no_param_lem j zero h = refl
no_param_lem j (suc p) h = rw (ne_eqb j 0 (λ e. omega arith)) (no_param_lem j p h)

module _ (names : List (List ℕ)) (short : Short names) (c : Codes) (params rows : ℕ) where
  -- The code of the first variable.
  abbrev start : ℕ
  start = suc (length names)

  abbrev listed : ℕ → Bool
  listed k = ltb (get_or c.variables k 9) 9

  pub witness : Machine
  witness = record {
    schemes = record { names = names; bits = [] };
    types = naming 64 listed start;
    params = replicate params no_param;
    terms = replicate rows (record { term = Num 0 });
  }

  same_names : witness.schemes.names ≡ names
  unfolding witness
  same_names = refl

  pub matching : Matches witness c params rows
  unfolding witness
  matching = record {
    params_counted = length-replicate params no_param;
    rows_counted = length-replicate rows (record { term = Num 0 });
    listed = λ k h. sym (rw (some_named 64 listed start k (k + start) h refl, no_param_lem (k + start) params (omega arith)) (or-false (listed k)));
  }

  module _ (p : params ≤ 64) (r : rows ≤ 256) where
    within : Within witness
    unfolding witness
    within = record {
      types = omega (arith, naming_length 64 listed start);
      params = omega (arith, matching.params_counted);
      terms = omega (arith, matching.rows_counted);
      names = short.short;
    }

    -- A buffer that is long enough for any report has room for the text.
    pub text_room : (l : List ℕ) → 6280 ≤ length l → Room l 0 (text names c params rows)
    text_room l long =
        record { fits = rw (← is_report c params rows witness matching names same_names) (omega (arith, report_length witness within (coded_word c) (coded_shape c))) }

    -- What `write` returns is a place in the buffer, whatever the codes are.
    pub written_length : {before after : List ℕ} {returned : ℕ} → Written names c params rows before after returned → returned ≤ 6280
    written_length w = omega (arith, w.size witness same_names matching, report_length witness within (coded_word c) (coded_shape c))

-- The same for the text with the words of a table that spells the names.
pub table_room : (table : List ℕ) (names : List (List ℕ)) → Short names → Spelled table names → (c : Codes) (params rows : ℕ) {l : List ℕ}
    → (params ≤ 64) × (rows ≤ 256) × (6280 ≤ length l) → Room l 0 (text (words_in table) c params rows)
table_room table names short spelled c params rows {l} fits = rw (same_text table names spelled c params rows) (text_room names short c params rows fits.0 fits.1 l fits.2)
