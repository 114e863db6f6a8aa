-- Each end of the function is one test of the definition: those before it passed, and it failed or decides.
use mathlib.Core.Path.{◌∙◌}
use borrow.Author.Rules.{rules}
use Rattle.schemes.proofs.Written.{unwritten_few, unwritten_many, unwritten_form, unwritten_bits, lines_formed, written_names, digits_alike}
use Rattle.schemes.specs.Pairs.{same_name, alike_at}
use Rattle.schemes.proofs.Texts.{pointwise_same}
use Rattle.schemes.proofs.is_well_written.Goals as goal
use Rattle.schemes.proofs.is_well_written.Goals.{then-n-lt1-via-then-n-lt1, then-n-lt1-via-else-n-lt1+then-n-gt-SCHEMES, then-n-lt1-via-else-n-lt1+else-n-gt-SCHEMES+then-not-all_formed}

pub returns-then-n-lt1 : goal.returns-then-n-lt1
returns-then-n-lt1 c =
    elim c.then-n-lt1.branch [
      | then-n-lt1-via-then-n-lt1 w ↦ unwritten_few c.args.file.now _ c.count-n.ensures w.if-n-lt1.true
      | then-n-lt1-via-else-n-lt1+then-n-gt-SCHEMES w ↦ unwritten_many c.args.file.now _ c.count-n.ensures w.if-n-gt-SCHEMES.true
      | then-n-lt1-via-else-n-lt1+else-n-gt-SCHEMES+then-not-all_formed w ↦ unwritten_form c.args.file.now _ c.count-n.ensures _ w.all_formed.ensures w.if-not-all_formed.true
    ]

pub returns-then-apart : goal.returns-then-apart
unfolding same_name
returns-then-apart c =
    let formed = lines_formed c.args.file.now _ c.count-n.ensures c.if-n-lt1.false c.if-n-gt-SCHEMES.false _ c.all_formed.ensures c.if-not-all_formed.false in
    let bits = c.apart.ensures (alike_at c.bits_of-bits.result) (λ i j r hi hj k. search rules ∙ digits_alike c.args.file.now _ c.count-n.ensures _ c.bits_of-bits.ensures formed i j hi hj) in
    let names = c.apart-then-apart.ensures (same_name c.args.file.now) (λ i j r hi hj k. search (rules, pointwise_same)) in
    written_names c.args.file.now _ c.count-n.ensures formed _ c.bits_of-bits.ensures _ bits c.if-apart.true _ names

pub returns-else-apart : goal.returns-else-apart
returns-else-apart c =
    let formed = lines_formed c.args.file.now _ c.count-n.ensures c.if-n-lt1.false c.if-n-gt-SCHEMES.false _ c.all_formed.ensures c.if-not-all_formed.false in
    let bits = c.apart.ensures (alike_at c.bits_of-bits.result) (λ i j r hi hj k. search rules ∙ digits_alike c.args.file.now _ c.count-n.ensures _ c.bits_of-bits.ensures formed i j hi hj) in
    c.if-apart.false ∙ unwritten_bits c.args.file.now _ c.count-n.ensures _ c.bits_of-bits.ensures _ bits c.if-apart.false
