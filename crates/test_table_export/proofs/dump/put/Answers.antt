-- The middle is the bytes, and the rest stays.
use Prim.Native.Nat.{◌+◌}
use native.Mathlib.Omega.{arith}
use mathlib.Core.List.{◌++◌}
use mathlib.Core.Path.{refl, sym, ap, ◌∙◌}
use lib.ListN.{length, take, drop}
use Rattle.std.proofs.Math.Seq.{take-length}
use Rattle.std.proofs.lemmas.List.Edits.{sets-eq}
use Rattle.std.proofs.lemmas.Slice.{put_mid-paste}
use Rattle.test_table_export.proofs.dump.put.Goals as goal

pub returns : goal.returns
returns c =
    let at = c.args.at in
    let bytes = c.args.bytes.now in
    let entries = c.args.entries.now in
    put_mid-paste at _ entries _ bytes (length bytes) c.copy_from_slice.ensures.after (omega arith) refl
    ∙ ap (λ part. take at entries ++ part ++ drop (at + length bytes) entries) (take-length bytes)
    ∙ sym (sets-eq bytes entries at c.requires)
