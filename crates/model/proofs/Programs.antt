-- The lengths of a program's arrays.
use mathlib.Core.Path.{◌≡◌}
use denote.Laws.{Is}
use denote.Struct.Laws as Struct
use lib.ListN.{length}
use Rattle.model.specs.declared.Program.{Program}
use Rattle.model.specs.contracts.Program as ProgramType
use Rattle.model.proofs.Program.TheLaws as ProgramLaws

-- What owning a program tells.
abbrev pub Owned : Program → Type 0
Owned program = Is ProgramType.the_row program (Struct.vals ProgramType.the_type ProgramLaws.the_laws program)

module _ (program : Program) (owned : Owned program) where
  pub types_whole : length program.types ≡ 64
  types_whole = (Struct.owed ProgramType.the_type ProgramLaws.the_laws program _ owned).0.1.0.1

  pub params_whole : length program.params ≡ 64
  params_whole = (Struct.owed ProgramType.the_type ProgramLaws.the_laws program _ owned).1.0.1.0.1

  pub terms_whole : length program.terms ≡ 256
  terms_whole = (Struct.owed ProgramType.the_type ProgramLaws.the_laws program _ owned).1.1.0.1.0.1
