-- The chain asks each row in turn.
use mathlib.Core.Path.{◌∙◌}
use Rattle.std.proofs.Common.{rules, tests}
use Rattle.std.proofs.lemmas.Iterator.{YieldsList-from_slice}
use Rattle.std.proofs.lemmas.Iterator.Search.{any_from_yields_List}
use Rattle.model.specs.Lists.{contains}
use Rattle.model.specs.Machine.{binds}
use Rattle.model.specs.declared.TermRow.{TermRow}
use Rattle.table.proofs.Rows.{any_listed}
use Rattle.table.proofs.is_bound.Goals as goal

pub returns : goal.returns
returns c =
    let test = λ (row : TermRow). contains c.args.p (binds row.term) in
    any_from_yields_List test _ _ _ c.any.ensures.ran (YieldsList-from_slice c.args.rows.now cc) (λ row found asked called. search (rules, tests))
    ∙ any_listed test c.args.rows.now
