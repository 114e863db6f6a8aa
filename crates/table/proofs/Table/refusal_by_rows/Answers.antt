-- What the scans of the rows tell is what the checks ask.
use mathlib.Core.Path.{◌≡◌, ap, ◌∙◌}
use lib.ListN.{take}
use Rattle.std.proofs.Common.{rules}
use Rattle.model.specs.Machine.{used, bound}
use Rattle.table.specs.Lists.{lists}
use Rattle.table.proofs.Rows.{rows_standing}
use Rattle.table.proofs.Table.refusal_by_rows.Goals as goal

pub returns : goal.returns
returns c =
    let rows = take c.term_rows.result c.args.self.terms in
    let standing = rows_standing c.args.self c.term_rows.result c.term_rows.ensures.0 in
    c.first_refusal.ensures (lists c.args.self) c.counts.ensures
    (λ n found asked. let scan : found ≡ used rows n = search rules in scan ∙ ap (λ all. used all n) standing)
    (λ n found asked. let scan : found ≡ bound rows n = search rules in scan ∙ ap (λ all. bound all n) standing)
