-- The typing rules at three strengths.
-- Document 01, "Typings": what 21, 22 and 23 leave out.
use Rattle.std.specs.Prelude.{ℕ, true, ◌≡◌, length}
use Rattle.scheme.specs.Qualifier.{Qualifier, qualifier, code}
use Rattle.scheme.specs.Schemes.{SchemeTable, words, below, highest_of}
use Rattle.scheme.specs.Six.{six_table}
use Rattle.model.specs.Typing.{Rules}

-- A set of qualifiers with their words, their order, and each operation's highest scheme.
pub record Schemes : Type 1 where
  pub Q : Type 0
  pub words : ℕ
  pub word : ℕ → Q
  pub AtOrBelow : Q → Q → Type 0
  pub highest : ℕ → Q

-- The whole rules.
abbrev pub whole : Schemes → Rules
whole S = record { Q = S.Q; words = S.words; word = S.word; Fits = λ o q. S.AtOrBelow q (S.highest o) }

-- ""at or below" in OP is dropped"
abbrev pub unordered : Schemes → Rules
unordered S = record { Q = S.Q; words = S.words; word = S.word; Fits = λ o q. Unit {0} }

-- "all qualifiers are ignored": there is only one.
abbrev pub erased : Schemes → Rules
erased S = record { Q = Unit {0}; words = S.words; word = λ c. tt; Fits = λ o q. Unit {0} }

-- PLAIN and the schemes of a table.
abbrev pub schemes_of : SchemeTable → Schemes
schemes_of T =
    record {
      Q = Qualifier (length T.names);
      words = words T;
      word = qualifier (length T.names);
      AtOrBelow = λ q r. below T (code q) (code r) ≡ true;
      highest = λ o. qualifier (length T.names) (highest_of T o);
    }

-- PLAIN and the built-in six.
abbrev pub six : Schemes
six = schemes_of six_table
