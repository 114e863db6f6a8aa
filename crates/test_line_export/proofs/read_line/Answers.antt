-- By the buffer's length; what is copied are the six numbers of the line that was read.
use Rattle.std.proofs.Common.{◌≡◌, ◌≤◌, ◌<◌, ◌++◌, length, drop, rules, arith, sym, ap₂}
use Rattle.test_line_export.proofs.Writing.{read_short, read_room}
use Rattle.test_line_export.proofs.read_line.Goals as goal

pub returns-then-out-lt6 : goal.returns-then-out-lt6
returns-then-out-lt6 c = let short : length c.args.out.now < 6 = omega arith in search (read_short, rules)

pub returns : goal.returns
returns c =
    let room : 6 ≤ length c.args.out.now = omega arith in
    let six : length c.line_numbers-values.result ≡ 6 = search rules in
    read_room _ _ c.read.result c.line_numbers-values.result _ room six c.read.ensures c.line_numbers-values.ensures
    (ap₂ (λ front n. front ++ drop n c.args.out.now) c.copy_from_slice.ensures.after (sym six))
