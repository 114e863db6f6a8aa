-- The table that the loop fills, with the marks of its rows beside it. Each line that is entered leaves both so.
use Prim.Native.Nat.{ℕ, ◌+◌, ◌<◌, ◌≤◌}
use mathlib.Core.Bool.{true}
use mathlib.Core.List.{List, []}
use mathlib.Core.Path.{◌≡◌, sym, ap, subst, ◌∙◌}
use lib.ListN.{length, set, length-set}
use Rattle.scheme.specs.Schemes.{SchemeTable}
use Rattle.model.specs.Machine.{Machine, fresh_machine, children, binds, settled, entered}
use Rattle.model.specs.declared.TypeRow.{TypeRow}
use Rattle.model.specs.declared.Param.{Param}
use Rattle.model.specs.declared.Term.{Term}
use Rattle.model.specs.declared.TermRow.{TermRow}
use Rattle.model.specs.declared.Line.{Line}
use Rattle.model.specs.declared.Line.TheVariants.{TypeLine, ParamLine, TermLine, NoForm}
use Rattle.checks.specs.Marks.{stores, Marked, Within}
use Rattle.checks.specs.declared.marks.Marks.{Marks}
use Rattle.checks.proofs.Marking.{marked_more, passed_within}
use Rattle.checks.proofs.Passed.{term_passed}
use Rattle.table.specs.Lists.{lists}
use Rattle.table.specs.Stored.{with_types, with_params, with_terms, stored}
use Rattle.table.specs.declared.Table.{Table}
use Rattle.table.proofs.Counts.{Owned}
use Rattle.table.proofs.Stored.{Whole, owned_whole, term_room, appended}

-- The arrays are whole, and the marks are those of the rows that stand.
pub record Filled (t : Table) (marks : Marks) : Type 0 where
  pub whole : Whole t
  pub marked : Marked (lists t).terms marks

module _ (t : Table) (marks : Marks) (filled : Filled t marks) where
  pub type_filled : (own : ℕ) (row : TypeRow) → Filled (with_types t (set t.types own row) (own + 1)) marks
  unfolding lists
  type_filled own row =
      record { whole = record { type_rows = length-set t.types own row ∙ filled.whole.type_rows; parameters = filled.whole.parameters; term_rows = filled.whole.term_rows }; marked = filled.marked }

  pub param_filled : (own : ℕ) (param : Param) → Filled (with_params t (set t.params own param) (own + 1)) marks
  unfolding lists
  param_filled own param =
      record { whole = record { type_rows = filled.whole.type_rows; parameters = length-set t.params own param ∙ filled.whole.parameters; term_rows = filled.whole.term_rows }; marked = filled.marked }

  pub term_filled : (own : ℕ) (term : Term) → own ≡ length (lists t).terms → own < 256 → Within term →
      Filled (with_terms t (set t.terms own (record { term = term })) (own + 1)) (record { used = stores (children term) true marks.used; bound = stores (binds term) true marks.bound })
  unfolding lists
  term_filled own term next h within =
      record {
        whole = record { type_rows = filled.whole.type_rows; parameters = filled.whole.parameters; term_rows = length-set t.terms own (record { term = term }) ∙ filled.whole.term_rows };
        marked =
            subst (λ (rows : List TermRow). Marked rows (record { used = stores (children term) true marks.used; bound = stores (binds term) true marks.bound }))
            (sym (appended t.terms t.termcount own 256 (record { term = term }) filled.whole.term_rows next h))
            (marked_more (lists t).terms term marks filled.marked within);
      }

-- The marks, with those of a line's entry.
abbrev pub marks_with : Line → Marks → Marks
marks_with (TypeLine own form) marks = marks
marks_with (ParamLine own param) marks = marks
marks_with (TermLine own term) marks = record { used = stores (children term) true marks.used; bound = stores (binds term) true marks.bound }
marks_with NoForm marks = marks

pub entry_filled : (t : Table) (marks : Marks) → Filled t marks → (line : Line) → length (lists t).params ≤ 64 → (entered (lists t) line).number ≡ 0 → Filled (stored t line) (marks_with line marks)
unfolding entered settled lists
entry_filled t marks filled (TypeLine own form) few e =
    record { whole = record { type_rows = length-set t.types own _ ∙ filled.whole.type_rows; parameters = filled.whole.parameters; term_rows = filled.whole.term_rows }; marked = filled.marked }
entry_filled t marks filled (ParamLine own param) few e =
    record { whole = record { type_rows = filled.whole.type_rows; parameters = length-set t.params own param ∙ filled.whole.parameters; term_rows = filled.whole.term_rows }; marked = filled.marked }
entry_filled t marks filled (TermLine own term) few e =
    let (next, fits) = term_room (lists t) own term e in
    record {
      whole = record { type_rows = filled.whole.type_rows; parameters = filled.whole.parameters; term_rows = length-set t.terms own _ ∙ filled.whole.term_rows };
      marked =
          subst (λ (rows : List TermRow). Marked rows (marks_with (TermLine own term) marks))
          (sym (appended t.terms t.termcount own 256 (record { term = term }) filled.whole.term_rows next fits))
          (marked_more (lists t).terms term marks filled.marked (passed_within (lists t) own term few (term_passed (lists t) own term e)));
    }
entry_filled t marks filled NoForm few e = filled

-- The loop begins with an empty table and no marks.
pub none_filled : (t : Table) (T : SchemeTable) (marks : Marks) → Owned t → lists t ≡ fresh_machine T → Marked [] marks → Filled t marks
none_filled t T marks owned fresh none =
    record {
      whole = owned_whole t owned;
      marked = subst (λ (rows : List TermRow). Marked rows marks) (sym (ap (λ (m : Machine). m.terms) fresh)) none;
    }
