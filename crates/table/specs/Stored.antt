-- A table with the entry of a line under its own number, which is the last that stands.
use Rattle.std.specs.Prelude.{ℕ, ◌+◌, ◌<◌, List, set}
use Rattle.model.specs.declared.TypeRow.{TypeRow}
use Rattle.model.specs.declared.Param.{Param}
use Rattle.model.specs.declared.TermRow.{TermRow}
use Rattle.model.specs.declared.Line.{Line}
use Rattle.model.specs.declared.Line.TheVariants.{TypeLine, ParamLine, TermLine, NoForm}
use Rattle.table.specs.declared.Table.{Table}

-- "64 types, 64 parameters, 256 term rows"
abbrev pub HasRoom : Line → Type 0
HasRoom (TypeLine own form) = own < 64
HasRoom (ParamLine own param) = own < 64
HasRoom (TermLine own term) = own < 256
HasRoom NoForm = Unit {0}

-- A table with one array and its count changed.
abbrev pub with_types : Table → List TypeRow → ℕ → Table
with_types t types n = record { types = types; params = t.params; terms = t.terms; typecount = n; paramcount = t.paramcount; termcount = t.termcount; schemes = t.schemes }

abbrev pub with_params : Table → List Param → ℕ → Table
with_params t params n = record { types = t.types; params = params; terms = t.terms; typecount = t.typecount; paramcount = n; termcount = t.termcount; schemes = t.schemes }

abbrev pub with_terms : Table → List TermRow → ℕ → Table
with_terms t terms n = record { types = t.types; params = t.params; terms = terms; typecount = t.typecount; paramcount = t.paramcount; termcount = n; schemes = t.schemes }

abbrev pub stored : Table → Line → Table
stored t (TypeLine own form) = with_types t (set t.types own (record { form = form })) (own + 1)
stored t (ParamLine own param) = with_params t (set t.params own param) (own + 1)
stored t (TermLine own term) = with_terms t (set t.terms own (record { term = term })) (own + 1)
stored t NoForm = t
