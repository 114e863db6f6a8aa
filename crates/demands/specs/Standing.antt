-- The table that the accepted calls of a list describe.
-- Document 01, "The four calls".
use Rattle.std.specs.Prelude.{◌-◌, cond, List, [], ◌∷◌, ◌++◌, eqb, length, take, set}
use Rattle.model.specs.Line.{line_of}
use Rattle.model.specs.Machine.{Machine, param_at, with_qualifier}
use Rattle.model.specs.Session.{Call, add, redeclare, take_back, infer, Outcome}
use Rattle.model.specs.declared.Line.{Line}
use Rattle.model.specs.declared.Line.TheVariants.{TypeLine, ParamLine, TermLine, NoForm}

-- **Add**: "appends one entry to its list". Without a form no line is accepted.
abbrev pub appended : Machine → Line → Machine
appended m (TypeLine i form) = record { schemes = m.schemes; types = m.types ++ (record { form = form } ∷ []); params = m.params; terms = m.terms }
appended m (ParamLine p param) = record { schemes = m.schemes; types = m.types; params = m.params ++ (param ∷ []); terms = m.terms }
appended m (TermLine i term) = record { schemes = m.schemes; types = m.types; params = m.params; terms = m.terms ++ (record { term = term } ∷ []) }
appended m NoForm = m

-- What an accepted call makes of the lists.
abbrev pub described : Machine → Call → Machine
described m (add line) = appended m (line_of m.schemes.names line)
-- **Redeclare**: "replaces that parameter's qualifier".
described m (redeclare p code) =
    record { schemes = m.schemes; types = m.types; params = set m.params p (with_qualifier code (param_at m p)); terms = m.terms }
-- **Take-back**: "drops the last term row".
described m take_back = record { schemes = m.schemes; types = m.types; params = m.params; terms = take (length m.terms - 1) m.terms }
-- **Infer**: "reads the lists, changes none".
described m (infer buffer) = m

-- "The table is the one that the accepted calls describe": from a machine, call by call; a refused call describes nothing.
abbrev pub standing : Machine → List (Call × Outcome) → Machine
standing m [] = m
standing m ((call, o) ∷ rest) = standing (cond (eqb o.number 0) (described m call) m) rest
