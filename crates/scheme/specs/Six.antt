-- The built-in six schemes as a scheme table.
-- Document 01, "Schemes and their order"; document 02, d): "the built-in six are one instance".
use Rattle.std.specs.Prelude.{true, false, [], ◌∷◌}
use Rattle.scheme.specs.Lists.{bytes}
use Rattle.scheme.specs.Schemes.{SchemeTable}
use Rattle.scheme.specs.Qualifier.{Qualifier, qualifier}

-- FHE supports all five; OP EQ, LT and GT; DET EQ; MH MUL; AH ADD; RAND none.
abbrev pub six_table : SchemeTable
six_table =
    record {
      names = bytes "FHE" ∷ bytes "OP" ∷ bytes "DET" ∷ bytes "MH" ∷ bytes "AH" ∷ bytes "RAND" ∷ [];
      bits =
          (true ∷ true ∷ true ∷ true ∷ true ∷ [])
          ∷ (false ∷ false ∷ true ∷ true ∷ true ∷ [])
          ∷ (false ∷ false ∷ true ∷ false ∷ false ∷ [])
          ∷ (false ∷ true ∷ false ∷ false ∷ false ∷ [])
          ∷ (true ∷ false ∷ false ∷ false ∷ false ∷ [])
          ∷ (false ∷ false ∷ false ∷ false ∷ false ∷ [])
          ∷ [];
    }

-- The six as qualifiers of their table; PLAIN is `plain`.
abbrev pub fhe : Qualifier 6
fhe = qualifier 6 1

abbrev pub op : Qualifier 6
op = qualifier 6 2

abbrev pub det : Qualifier 6
det = qualifier 6 3

abbrev pub mh : Qualifier 6
mh = qualifier 6 4

abbrev pub ah : Qualifier 6
ah = qualifier 6 5

abbrev pub rand : Qualifier 6
rand = qualifier 6 6
