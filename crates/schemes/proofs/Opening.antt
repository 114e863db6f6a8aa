-- The ends of the reader: a refused file gives the six, and an accepted one its own table.
use Prim.Native.Nat.{ℕ, ◌+◌, ◌≤◌, ◌<◌}
use native.Mathlib.Omega.{arith}
use mathlib.Core.Bool.{Bool, true, false}
use mathlib.Core.List.{List, [], map}
use mathlib.Core.Path.{◌≡◌, refl, sym, ap, ap₂, subst, ◌∙◌}
use lib.Dec.{eqb}
use lib.ListN.{length, take, length-map, get_or-map}
use lib.Seq.{ext_get_or, get_or-take, length-take-le, take_all}
use borrow.Author.Tests.{eq-eqb, ne_eqb}
use Rattle.std.specs.Prelude.{Result, Ok}
use Rattle.scheme.specs.Schemes.{SchemeTable, words, Sound}
use Rattle.scheme.specs.Rule.{Ruled}
use Rattle.model.specs.Line.{fields, lines_of}
use Rattle.model.specs.Machine.{first_failing}
use Rattle.model.specs.SchemeFile.{table_of, well_written, scheme_refusal, opened_with}
use Rattle.model.proofs.Opened.{accepted_sound}
use Rattle.derive.specs.Derives.{refusal_of, Holds, IsDerived, Derives}
use Rattle.derive.specs.declared.Bits.{Bits}
use Rattle.derive.specs.declared.Derived.{Derived}
use Rattle.derive.specs.declared.Missing.TheVariants.{Meet, Highest}
use Rattle.derive.specs.declared.Missing as Missings
use Rattle.schemes.specs.declared.Opened.{Opened}
use Rattle.schemes.specs.declared.Refusal.{Refusal}
use Rattle.schemes.specs.declared.Refusal.TheVariants.{Form, Missing}
use Rattle.schemes.specs.declared.Schemes.{Schemes}
use Rattle.schemes.specs.Lines.{Formed}
use Rattle.schemes.specs.Stored.{Stored, NamesHeld}
use Rattle.schemes.specs.Schemes.{table_in, Kept}
use Rattle.schemes.specs.Reads.{refusal_number, Reads, ReadsTable, GivesSix}
use Rattle.schemes.proofs.Written.{names_count, bits_count, bits_at_lem, holds, written_formed}

-- A refusal, whose number is none.
some_number : (r : Refusal) → refusal_number r ≡ 0 → ⊥
some_number Form e = omega arith
some_number (Missing Meet) e = omega arith
some_number (Missing Highest) e = omega arith

pub refused_six : (file : List ℕ) (r : Opened) (number : ℕ) → (number ≡ 0 → ⊥) → scheme_refusal (lines_of file) ≡ number → GivesSix number r → Reads file r
unfolding opened_with
refused_six file r number some refusal six =
    let no : eqb (scheme_refusal (lines_of file)) 0 ≡ false = ne_eqb _ 0 (λ e. some (sym refusal ∙ e)) in
    record { refusal = six.refusal ∙ sym refusal; table = rw no six.table; kept = six.kept }

pub opens_refused : (file : List ℕ) (refusal : Refusal) (number : ℕ) → scheme_refusal (lines_of file) ≡ refusal_number refusal → number ≡ refusal_number refusal → (r : Opened) → GivesSix number r → Reads file r
opens_refused file refusal number refused same r six = refused_six file r number (λ e. some_number refusal (sym same ∙ e)) (refused ∙ sym same) six

-- A scheme table.
pub opens_read : (file : List ℕ) (s : Schemes) → scheme_refusal (lines_of file) ≡ 0 → table_in s ≡ table_of (lines_of file) → Kept s → Reads file (record { schemes = s; number = 0 })
unfolding opened_with
opens_read file s none same kept =
    let accepted : eqb (scheme_refusal (lines_of file)) 0 ≡ true = eq-eqb _ 0 none in
    record { refusal = sym none; table = rw accepted same; kept = kept }

module _ (file : List ℕ) (p : Bool) (is : p ≡ well_written (lines_of file)) where
  pub reads_unwritten : p ≡ false → scheme_refusal (lines_of file) ≡ 25
  unfolding scheme_refusal first_failing
  reads_unwritten e = let f : well_written (lines_of file) ≡ false = sym is ∙ e in rw f refl

  pub opens_unwritten : p ≡ false → (r : Opened) → GivesSix 25 r → Reads file r
  opens_unwritten e r six = refused_six file r 25 (λ e. omega arith) (reads_unwritten e) six

module _ (file : List ℕ) (p : Bool) (is : p ≡ well_written (lines_of file)) (e : p ≡ true) (n : ℕ) (count : n ≡ length (lines_of file)) where
  written : well_written (lines_of file) ≡ true
  written = sym is ∙ e

  pub reads_formed : Formed file n
  reads_formed = written_formed file n count written

  pub reads_few : n ≤ 8
  reads_few = reads_formed.few

  module _ (bits : List Bits) (stored : Stored file n bits) (r : Result Derived Missings.Missing) (derives : (T : SchemeTable) → Holds T (n + 1) bits → Derives T r) where
    derived_of : Derives (table_of (lines_of file)) r
    derived_of = derives (table_of (lines_of file)) (holds file n count bits stored)

    -- What is left of the refusals.
    pub reads_refusal : scheme_refusal (lines_of file) ≡ refusal_of r
    unfolding scheme_refusal first_failing
    reads_refusal = rw written (sym derived_of.refusal)

    bits_same : map (λ (b : Bits). b.bits) (take n bits) ≡ (table_of (lines_of file)).bits
    bits_same =
        let f : Bits → List Bool = λ b. b.bits in
        let few : n ≤ 8 = reads_formed.few in
        let size : length (take n bits) ≡ n = length-take-le n bits (omega (arith, stored.sized)) in
        let many : length (map f (take n bits)) ≡ length (take n bits) = length-map (take n bits) f in
        ext_get_or [] (map f (take n bits)) (table_of (lines_of file)).bits (omega (arith, bits_count file n count))
        (λ i h.
        let below : i < n = omega arith in
        get_or-map f (take n bits) i (record { bits = [] }) ∙ ap f (get_or-take n bits i (record { bits = [] }) below) ∙ stored.held i below ∙ sym (bits_at_lem file n count i))

    pub reads_table : (d : Derived) → r ≡ Ok d → (names : List ℕ) (size : ℕ) → NamesHeld file n (take size names) → (rule : List ℕ) → ((T : SchemeTable) → words T ≡ n + 1 → n + 1 ≤ 9 → IsDerived T d → Ruled T rule) →
        ReadsTable file (Ok (record { names = names; size = size; bits = bits; count = n; rule = rule }))
    unfolding table_in
    reads_table d is names size held rule ruled =
        let names_same : fields (take size names) ≡ (table_of (lines_of file)).names = held.same ∙ take_all n (table_of (lines_of file)).names (omega (arith, names_count file n count)) in
        let same : table_in (record { names = names; size = size; bits = bits; count = n; rule = rule }) ≡ table_of (lines_of file) =
        ap₂ (λ (names : List (List ℕ)) (bits : List (List Bool)). record { names = names; bits = bits }) names_same bits_same in
        let none : scheme_refusal (lines_of file) ≡ 0 = reads_refusal ∙ ap refusal_of is in (
          none,
          same,
          record {
            sound = subst Sound (sym same) (accepted_sound (lines_of file) none);
            ruled = subst (λ (T : SchemeTable). Ruled T rule) (sym same) (ruled (table_of (lines_of file)) (omega (arith, names_count file n count)) (omega (arith, reads_few)) (rw is at derived_of.derived));
          },
        )

pub ruleset reads = (reads_unwritten, reads_formed, reads_few)
