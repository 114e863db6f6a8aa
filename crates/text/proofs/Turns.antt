-- The turns of the loop over a text's lines. What is left of the text, added to the present table, comes to what the whole text comes to.
use Prim.Native.Nat.{ℕ, ◌+◌, ◌-◌, ◌≤◌, ◌<◌}
use native.Mathlib.Omega.{arith}
use mathlib.Core.Bool.{Bool, true, cond}
use mathlib.Core.List.{List, [], ◌∷◌}
use mathlib.Core.Path.{◌≡◌, refl, sym, ap, ap₂, subst, ◌∙◌}
use lib.Dec.{eqb}
use lib.ListN.{length, take, drop, drop_of_length-le}
use mir.Syntax.{w64}
use mir.Val.{Fits}
use borrow.Author.Tests.{eq-eqb, ne_eqb}
use Rattle.scheme.specs.Schemes.{SchemeTable}
use Rattle.schemes.specs.Schemes.{table_in, Kept}
use Rattle.schemes.specs.declared.Schemes.{Schemes}
use Rattle.model.specs.Machine.{Machine, Change, fresh_machine, children, binds, settled, entered, added}
use Rattle.model.specs.Text.{lines_of, loaded, stopped, load_from, load}
use Rattle.model.specs.Line.{fields, line_of}
use Rattle.model.specs.declared.Term.{Term}
use Rattle.model.specs.declared.Line.{Line}
use Rattle.model.specs.declared.Line.TheVariants.{TypeLine, ParamLine, TermLine, NoForm}
use Rattle.checks.specs.Marks.{stores, Marked, Within}
use Rattle.checks.specs.declared.marks.Marks.{Marks}
use Rattle.checks.proofs.Marking.{passed_within}
use Rattle.checks.proofs.Passed.{term_passed}
use Rattle.checks.proofs.Refusals.{refusal_some}
use Rattle.checks.specs.Refused.{refusal_number}
use Rattle.checks.specs.declared.refusal.Refusal.{Refusal}
use Rattle.table.specs.Lists.{lists, change}
use Rattle.table.specs.Ready.{Ready}
use Rattle.table.specs.Called.{adds}
use Rattle.table.specs.declared.Table.{Table}
use Rattle.table.specs.declared.Answered.{Answered}
use Rattle.table.proofs.Follows.{fresh_ready, call_ready}
use Rattle.table.proofs.Counts.{Owned}
use Rattle.table.proofs.Names.{read_added}
use Rattle.table.specs.Stored.{HasRoom, stored}
use Rattle.table.proofs.Stored.{accepting, fits_accepted, entry_stored, schemes_stored, entry_refused}
use Rattle.lines.specs.Lines.{line_length}
use Rattle.lines.proofs.Lines.{end_bound, end_fits, line_part}
use Rattle.tokens.specs.Names.{Few}
use Rattle.text.specs.Begins.{Begins}
use Rattle.text.specs.Loads.{Loads}
use Rattle.text.specs.declared.Loaded.{Loaded}
use Rattle.model.proofs.Limits.{well_formed_within}
use Rattle.model.proofs.Numbers.{added_most}
use Rattle.text.proofs.Filling.{Filled, marks_with, none_filled, entry_filled}
use Rattle.text.proofs.Accepted.{entries, fresh_entries, added_longer, entries_most}

-- One line, and the rest.
pub load_line : (m : Machine) (n : ℕ) (s : List ℕ) (rest : List (List ℕ)) →
    load_from m n (s ∷ rest) ≡ cond (eqb (added m s).number 0) (load_from (added m s).machine (n + 1) rest) (stopped (added m s).number n)
unfolding load_from
load_line m n s rest = refl

pub load_none : (m : Machine) (n : ℕ) → load_from m n [] ≡ loaded m
unfolding load_from
load_none m n = refl

-- Before the line with the number `line`, which starts at `from`.
pub record Left (T : SchemeTable) (text : List ℕ) (table : Table) (from line : ℕ) : Type 0 where
  pub rest : load T text ≡ load_from (lists table) line (lines_of (drop from text))
  pub ready : Ready table
  pub counted : line ≡ entries (lists table) + 1

-- The same, with the marks of the rows that stand, and the names by which the lines are read.
pub record Filling (T : SchemeTable) (names text : List ℕ) (table : Table) (marks : Marks) (from line : ℕ) : Type 0 where
  pub left : Left T text table from line
  pub filled : Filled table marks
  pub front : names ≡ take table.schemes.size table.schemes.names

-- The loop begins with an empty table, and no marks.
pub all_left : (table : Table) (names text : List ℕ) (marks : Marks) → Owned table → Begins table names → Marked [] marks → Filling (table_in table.schemes) names text table marks 0 1
all_left table names text marks owned begins none =
    record {
      left =
          record {
            rest = ap (λ (m : Machine). load_from m 1 (lines_of text)) (sym begins.fresh);
            ready = fresh_ready (table_in table.schemes) begins.fresh begins.kept;
            counted = omega (arith, ap entries begins.fresh, fresh_entries (table_in table.schemes));
          };
      filled = none_filled table (table_in table.schemes) marks owned begins.fresh none;
      front = begins.front;
    }

-- The empty table of the schemes.
module _ (schemes : Schemes) (table : Table) (empty : (lists table ≡ fresh_machine (table_in schemes)) × (table.schemes ≡ schemes)) where
  pub empty_begins : (names : List ℕ) → Kept schemes → Few names → names ≡ take schemes.size schemes.names → Begins table names
  empty_begins names kept few front =
      record {
        fresh = empty.0 ∙ ap (λ (s : Schemes). fresh_machine (table_in s)) (sym empty.1);
        kept = subst Kept (sym empty.1) kept;
        few = few;
        front = front ∙ ap (λ (s : Schemes). take s.size s.names) (sym empty.1);
      }

  pub loads_same : (text : List ℕ) (r : Loaded) → Loads (table_in table.schemes) text r → Loads (table_in schemes) text r
  loads_same text r = subst (λ (s : Schemes). Loads (table_in s) text r) empty.1

pub line_bound : (T : SchemeTable) (text : List ℕ) (table : Table) (from line : ℕ) → Left T text table from line → line ≤ 385
line_bound T text table from line left = omega (arith, left.counted, entries_most (lists table) (well_formed_within (lists table) left.ready.is_well_formed))

pub line_fits : (T : SchemeTable) (text : List ℕ) (table : Table) (from line : ℕ) → Left T text table from line → Fits w64 (line + 1)
line_fits T text table from line left = omega (arith, line_bound T text table from line left)

-- One line is added.
module _ (T : SchemeTable) (text : List ℕ) (from to : ℕ) (h : from < length text) (is : to ≡ from + line_length (drop from text)) (table : Table) (line : ℕ) (left : Left T text table from line) (r : Answered)
    (said : (change r ≡ added (lists table) (take (to - from) (drop from text))) × (r.table.schemes ≡ table.schemes)) where
  turn : load T text ≡ cond (eqb r.number 0) (load_from (lists r.table) (line + 1) (lines_of (drop (to + 1) text))) (stopped r.number line)
  turn =
      left.rest
      ∙ ap (load_from (lists table) line) (line_part text from to h is)
      ∙ load_line (lists table) line (take (to - from) (drop from text)) (lines_of (drop (to + 1) text))
      ∙ ap (λ (c : Change). cond (eqb c.number 0) (load_from c.machine (line + 1) (lines_of (drop (to + 1) text))) (stopped c.number line)) (sym said.0)

  after : Ready r.table
  after = call_ready left.ready (adds said.0 said.1)

  longer : r.number ≡ 0 → entries (lists r.table) ≡ entries (lists table) + 1
  longer = subst (λ (c : Change). c.number ≡ 0 → entries c.machine ≡ entries (lists table) + 1) (sym said.0) (added_longer (lists table) _)

  pub line_accepted : r.number ≡ 0 → Left T text r.table (to + 1) (line + 1)
  line_accepted e =
      record {
        rest = turn ∙ simp (eq-eqb r.number 0 e);
        ready = after;
        counted = omega (arith, left.counted, longer e);
      }

  pub line_refused : (r.number ≡ 0 → ⊥) → Loads T text (record { table = r.table; number = r.number; line = line })
  line_refused e =
      record {
        all = λ z. absurd (e z);
        no_line = λ z. absurd (e z);
        stop = λ z. turn ∙ simp (ne_eqb r.number 0 e);
        ready = after;
        number_most = subst (λ (c : Change). c.number ≤ 8) (sym said.0) (added_most (lists table) _);
        line_most = line_bound T text table from line left;
      }

-- The entry that a line is read as passes its checks, and is stored; or it is refused, and the table stays.
module _ (T : SchemeTable) (names text : List ℕ) (from to : ℕ) (h : from < length text) (is : to ≡ from + line_length (drop from text)) (table : Table) (marks : Marks) (line : ℕ)
    (filling : Filling T names text table marks from line) (entry : Line) (read : entry ≡ line_of (fields names) (take (to - from) (drop from text))) where
  as_added : entered (lists table) entry ≡ added (lists table) (take (to - from) (drop from text))
  as_added = read_added table names filling.front _ entry read

  pub entry_stops : (refusal : Refusal) → (Marked (lists table).terms marks → refusal_number refusal ≡ (entered (lists table) entry).number) →
      Loads T text (record { table = table; number = refusal_number refusal; line = line })
  entry_stops refusal checks =
      line_refused T text from to h is table line filling.left (record { table = table; number = refusal_number refusal })
      (entry_refused table entry refusal (checks filling.filled.marked) ∙ as_added, refl) (refusal_some refusal)

  module _ (checks : Marked (lists table).terms marks → 0 ≡ (entered (lists table) entry).number) where
    accepted : (entered (lists table) entry).number ≡ 0
    accepted = sym (checks filling.filled.marked)

    pub entry_fits : HasRoom entry
    entry_fits = fits_accepted (lists table) entry accepted

    params_few : length (lists table).params ≤ 64
    params_few = filling.left.ready.is_well_formed.params_fit

    -- A table that holds the entry as well, with its marks, leaves the lines after it.
    turned : Filling T names text (stored table entry) (marks_with entry marks) (to + 1) (line + 1)
    turned =
        record {
          left = line_accepted T text from to h is table line filling.left (accepting (stored table entry)) (entry_stored table filling.filled.whole entry accepted ∙ as_added, schemes_stored table entry) refl;
          filled = entry_filled table marks filling.filled entry params_few accepted;
          front = filling.front ∙ ap (λ (s : Schemes). take s.size s.names) (sym (schemes_stored table entry));
        }

    -- What the code marks: the numbers of a term row, and else none.
    module _ (after : Table) (put : after ≡ stored table entry) where
      pub row_turned : (own : ℕ) (term : Term) → entry ≡ TermLine own term → (marks' : Marks) → (marks'.used ≡ stores (children term) true marks.used) × (marks'.bound ≡ stores (binds term) true marks.bound) →
          Filling T names text after marks' (to + 1) (line + 1)
      row_turned own term e marks' marked =
          let same : marks' ≡ marks_with entry marks = ap₂ (λ (u b : List Bool). record { used = u; bound = b }) marked.0 marked.1 ∙ ap (λ (l : Line). marks_with l marks) (sym e) in
          rw (put, same) turned

      pub other_turned : ((own : ℕ) (term : Term) → entry ≡ TermLine own term → ⊥) → Filling T names text after marks (to + 1) (line + 1)
      other_turned other = rw put (subst (λ (m : Marks). Filling T names text (stored table entry) m (to + 1) (line + 1)) (same entry refl) turned)
        where
          same : (l : Line) → entry ≡ l → marks_with l marks ≡ marks
          same (TypeLine own form) e = refl
          same (ParamLine own param) e = refl
          same (TermLine own term) e = absurd (other own term e)
          same NoForm e = refl

    pub row_within : (own : ℕ) (term : Term) → entry ≡ TermLine own term → Within term
    unfolding entered settled
    row_within own term e = passed_within (lists table) own term params_few (term_passed (lists table) own term (sym (ap (λ (l : Line). (entered (lists table) l).number) e) ∙ accepted))

pub none_left : (T : SchemeTable) (text : List ℕ) (table : Table) (from line : ℕ) → Left T text table from line → length text ≤ from → Loads T text (record { table = table; number = 0; line = 0 })
none_left T text table from line left h =
    record {
      all = λ z. left.rest ∙ ap (λ (s : List ℕ). load_from (lists table) line (lines_of s)) (drop_of_length-le text h) ∙ load_none (lists table) line;
      no_line = λ z. refl;
      stop = λ z. absurd (z refl);
      ready = left.ready;
      number_most = omega arith;
      line_most = omega arith;
    }

pub ruleset turns = (line_fits, end_bound, end_fits)
