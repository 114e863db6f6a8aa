-- Every sound scheme table stands in bytes: its names joined by commas, its digits and its ruling, each in an array that is filled up.
use Prim.Native.Nat.{ℕ, zero, suc, ◌≤◌, ◌<◌}
use native.Mathlib.Omega.{arith}
use mathlib.Core.Bool.{Bool, true, false}
use mathlib.Core.List.{List, [], ◌∷◌, map}
use mathlib.Core.Path.{◌≡◌, refl, ap, ◌∙◌}
use lib.Dec.{eqb}
use lib.ListN.{length, get_or, take, replicate, length-map}
use borrow.Author.Tests.{eqb-true}
use mir.Syntax.{w8}
use mir.Val.{vint, vbool}
use denote.Array.{Array}
use denote.Builtin.{u8, bool}
use denote.Struct.Laws as Struct
use Rattle.scheme.specs.Lists.{all_of}
use Rattle.scheme.specs.Schemes.{SchemeTable, is_name, Sound}
use Rattle.scheme.proofs.Every.{and_left, and_right}
use Rattle.scheme.proofs.Schemes.{sound_short}
use Rattle.model.specs.Line.{fields}
use Rattle.model.specs.Report.{joined}
use Rattle.derive.specs.declared.Bits.{Bits}
use Rattle.derive.specs.contracts.Bits as BitsType
use Rattle.derive.proofs.Bits.TheLaws as BitsLaws
use Rattle.schemes.specs.declared.Schemes.{Schemes}
use Rattle.schemes.specs.Schemes.{table_in, Kept}
use Rattle.schemes.specs.contracts.Schemes as SchemesType
use Rattle.schemes.proofs.Schemes.TheLaws as SchemesLaws
use Rattle.answered.proofs.Entries.{filled, take_filled}
use Rattle.answered.proofs.Names.{fields_joined, joined_length, joined_bytes}
use Rattle.answered.proofs.Rules.{rule_of, rule_length, rule_ruled, rule_bytes}
use Rattle.answered.proofs.Arrays.{Held, array_of, array_held, filled_held}

abbrev bits_of : List Bool → Bits
bits_of digits = record { bits = digits }

abbrev no_bits : Bits
no_bits = bits_of (replicate 5 false)

-- The bytes in which a scheme table stands.
abbrev pub bytes_of : SchemeTable → Schemes
bytes_of T = record {
  names = filled 47 0 (joined T.names);
  size = length (joined T.names);
  bits = filled 8 no_bits (map bits_of T.bits);
  count = length (map bits_of T.bits);
  rule = rule_of T;
}

-- What is read of the bytes again.
names_back : (names : List (List ℕ)) → 1 ≤ length names → all_of is_name names ≡ true → fields (take (length (joined names)) (filled 47 0 (joined names))) ≡ names
names_back names some named = ap fields (take_filled 47 0 (joined names)) ∙ fields_joined names some named

digits_back : (rows : List (List Bool)) → map (λ (b : Bits). b.bits) (map bits_of rows) ≡ rows
digits_back [] = refl
digits_back (digits ∷ rows) = ap (λ (rows : List (List Bool)). digits ∷ rows) (digits_back rows)

bits_back : (rows : List (List Bool)) → map (λ (b : Bits). b.bits) (take (length (map bits_of rows)) (filled 8 no_bits (map bits_of rows))) ≡ rows
bits_back rows = ap (map (λ (b : Bits). b.bits)) (take_filled 8 no_bits (map bits_of rows)) ∙ digits_back rows

-- Each scheme has five digits.
five_each : (rows : List (List Bool)) → all_of (λ b. eqb (length b) 5) rows ≡ true → (i : ℕ) → i < length (map bits_of rows) → length (get_or (map bits_of rows) i no_bits).bits ≡ 5
five_each [] h i below = absurd (omega arith)
five_each (digits ∷ rows) h zero below = eqb-true (length digits) 5 (and_left _ (all_of (λ b. eqb (length b) 5) rows) h)
five_each (digits ∷ rows) h (suc i) below = five_each rows (and_right (eqb (length digits) 5) _ h) i (omega arith)

byte_held : (b : ℕ) → b < 256 → Held u8 (vint w8) b
byte_held b h = (refl, omega arith)

bits_held : (b : Bits) → length b.bits ≡ 5 → Held BitsType.the_row (Struct.val BitsType.the_type BitsLaws.the_laws) b
bits_held b five = Struct.owes BitsType.the_type BitsLaws.the_laws b (array_held bool vbool false 5 b.bits five (λ i. refl), tt)

-- The bytes give the table back, are kept with its ruling, and fit their arrays.
module _ {T : SchemeTable} (sound : Sound T) where
  pub table_in_lem : table_in (bytes_of T) ≡ T
  unfolding table_in
  table_in_lem = λ i. record { names = names_back T.names sound.some sound.named i; bits = bits_back T.bits i }

  pub bytes_kept : Kept (bytes_of T)
  bytes_kept = record { sound = rw table_in_lem sound; ruled = rw table_in_lem (rule_ruled T sound.few) }

  joined_fits : length (joined T.names) ≤ 47
  joined_fits = omega (arith, joined_length T.names sound.some (sound_short sound), sound.few)

  rows_fit : length (map bits_of T.bits) ≤ 8
  rows_fit = omega (arith, length-map T.bits bits_of, sound.counted, sound.few)

  names_held : Held (Array u8 47) (array_of (vint w8)) (bytes_of T).names
  names_held = filled_held u8 (vint w8) 0 47 (joined T.names) joined_fits (byte_held 0 (omega arith)) (λ i h. byte_held _ (joined_bytes T.names sound.named i))

  rows_held : Held (Array BitsType.the_row 8) (array_of (Struct.val BitsType.the_type BitsLaws.the_laws)) (bytes_of T).bits
  rows_held =
      filled_held BitsType.the_row (Struct.val BitsType.the_type BitsLaws.the_laws) no_bits 8 (map bits_of T.bits) rows_fit (bits_held no_bits refl)
      (λ i h. bits_held (get_or (map bits_of T.bits) i no_bits) (five_each T.bits sound.five i h))

  rule_held : Held (Array u8 88) (array_of (vint w8)) (bytes_of T).rule
  rule_held = array_held u8 (vint w8) 0 88 (rule_of T) (rule_length T) (λ i. byte_held _ (rule_bytes T sound.few i))

  pub bytes_held : Held SchemesType.the_row (Struct.val SchemesType.the_type SchemesLaws.the_laws) (bytes_of T)
  bytes_held =
      Struct.owes SchemesType.the_type SchemesLaws.the_laws (bytes_of T)
      (names_held, ((refl, omega (arith, joined_fits)), (rows_held, ((refl, omega (arith, rows_fit)), (rule_held, tt)))))
