-- A table as the machine of document 01: "one record that holds its three arrays and their fill counts"; document 02, d): "the accepted scheme
-- table beside its lists".
use Rattle.std.specs.Prelude.{take}
use Rattle.schemes.specs.Schemes.{table_in}
use Rattle.model.specs.Machine.{Machine, Change}
use Rattle.table.specs.declared.Table.{Table}
use Rattle.table.specs.declared.Answered.{Answered}

-- The entries that stand: of each array as many as its count says; a count past the array's end says all.
unfoldable pub lists : Table → Machine
lists t =
    record {
      schemes = table_in t.schemes;
      types = take t.typecount t.types;
      params = take t.paramcount t.params;
      terms = take t.termcount t.terms;
    }

-- What a call returned, as the machine's change.
abbrev pub change : Answered → Change
change r = record { number = r.number; machine = lists r.table }
