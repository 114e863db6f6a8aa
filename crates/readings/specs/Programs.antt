-- A program as three arrays with their fill counts, and the machine that it stands for.
use Rattle.std.specs.Prelude.{◌≤◌, ◌≡◌, length, take}
use Rattle.scheme.specs.Schemes.{SchemeTable}
use Rattle.model.specs.Machine.{Machine}
use Rattle.model.specs.declared.Program.{Program}

-- No count is past its array.
pub record Counted (program : Program) : Type 0 where
  pub types : program.typecount ≤ 64
  pub params : program.paramcount ≤ 64
  pub terms : program.termcount ≤ 256

-- The machine has the program's entries.
pub record Holds (m : Machine) (program : Program) : Type 0 where
  pub types : m.types ≡ take program.typecount program.types
  pub params : m.params ≡ take program.paramcount program.params
  pub terms : m.terms ≡ take program.termcount program.terms
  pub rows : length m.terms ≡ program.termcount

-- The machine that a scheme table and a program stand for.
abbrev pub machine_of : SchemeTable → Program → Machine
machine_of T program =
    record {
      schemes = T;
      types = take program.typecount program.types;
      params = take program.paramcount program.params;
      terms = take program.termcount program.terms;
    }
