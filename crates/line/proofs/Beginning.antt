-- How a line begins: its tag, its own number, and the fields after those.
use Prim.Native.Nat.{ℕ, ◌+◌, ◌-◌, ◌≤◌, ◌<◌}
use native.Mathlib.Omega.{arith}
use mathlib.Core.List.{List, [], ◌∷◌}
use mathlib.Core.Path.{◌≡◌, sym, ap, ◌∙◌}
use lib.ListN.{length, get_or, take, drop, length-drop}
use lib.Seq.{get_or-drop, drop-drop}
use mir.Syntax.{w16}
use mir.Val.{Fits}
use Rattle.std.specs.Prelude.{Option, Some, None}
use Rattle.model.specs.Number.{number_of}
use Rattle.model.specs.Line.{fields, field, number}
use Rattle.numbers.specs.NumberTo.{next_place, bytes_to, number_to}
use Rattle.numbers.proofs.Ends.{number_failed, number_read, number_most}
use Rattle.tokens.specs.Part.{fields_from, FieldTo}
use Rattle.tokens.proofs.Parting.{from_within, from_past, field_first}
use Rattle.line.specs.Beginning.{Begun}

-- The tag, up to `end`.
module _ (s : List ℕ) (end : ℕ) (f : FieldTo s 0 end) where
  line_fields : fields s ≡ take (end - 0) s ∷ fields_from s (end + 1)
  line_fields = sym (from_within s 0 (omega arith)) ∙ f.parts

  -- There is no field 1, or what stands there is no number.
  pub own_none : length s < end + 1 → number s 1 ≡ None
  unfolding number_of
  own_none past = simp (line_fields, from_past s (end + 1) past)

  -- The number that starts after the tag is the one in field 1.
  module _ (within : end + 1 ≤ length s) (r : Option (ℕ × ℕ)) (e : r ≡ number_to 44 65535 s (end + 1)) where
    both : fields s ≡ take (end - 0) s ∷ bytes_to 44 s (end + 1) ∷ fields_from s (next_place 44 s (end + 1) + 1)
    both = line_fields ∙ simp (field_first s (end + 1) within)

    own_field : number s 1 ≡ number_of 65535 (bytes_to 44 s (end + 1))
    own_field = simp both

    pub own_not : r ≡ None → number s 1 ≡ None
    own_not none = own_field ∙ number_failed 44 65535 s (end + 1) r e none

    pub begun : (i to : ℕ) → r ≡ Some (i, to) → Begun s i 2 (fields_from s (to + 1))
    begun i to is =
        let read = number_read 44 65535 s (end + 1) r e i to is in
        record { own = own_field ∙ read.0; enough = simp both (omega arith); left = simp (both, read.1) }

-- A number at any place fits where it is stored.
pub own_fits : (s : List ℕ) (from : ℕ) (r : Option (ℕ × ℕ)) (i to : ℕ) → r ≡ number_to 44 65535 s from → r ≡ Some (i, to) → Fits w16 i
own_fits s from r i to e is = omega (arith, number_most 44 65535 s from r e i to is)

-- The field after the first `before`.
module _ (s : List ℕ) (i before from to : ℕ) (b : Begun s i before (fields_from s from)) (f : FieldTo s from to) where
  pub next_field : take (to - from) (drop from s) ≡ field s before
  next_field = let same : before + 0 ≡ before = omega arith in sym (rw same at (sym (get_or-drop before (fields s) 0 []) ∙ ap (λ (fs : List (List ℕ)). get_or fs 0 []) (b.left ∙ f.parts)))

  pub begun_next : Begun s i (before + 1) (fields_from s (to + 1))
  begun_next =
      record {
        own = b.own;
        enough = omega (arith, simp length-drop at (ap length (b.left ∙ f.parts)));
        left = sym (drop-drop 1 before (fields s)) ∙ ap (drop 1) (b.left ∙ f.parts);
      }

-- Past the end there is none.
pub field-none : (s : List ℕ) (i before from : ℕ) → Begun s i before (fields_from s from) → length s < from → field s before ≡ []
field-none s i before from b past =
    let same : before + 0 ≡ before = omega arith in
    rw same at (sym (get_or-drop before (fields s) 0 []) ∙ ap (λ (fs : List (List ℕ)). get_or fs 0 []) (b.left ∙ from_past s from past))
