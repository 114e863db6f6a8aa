-- Functions are PLAIN in a reading exactly if each qualifier that stands with a type is PLAIN where that type is an arrow, and so inside each node's type.
use Prim.Native.Nat.{ℕ, ◌<◌}
use native.Mathlib.Omega.{arith}
use mathlib.Core.Path.{◌≡◌, refl, subst}
use lib.ListN.{length}
use Rattle.layout.specs.Layout.{row_type, row_qualifier, nodes}
use Rattle.model.specs.Machine.{Machine, type_at, param_at}
use Rattle.model.specs.WellFormed.{WellFormed}
use Rattle.model.specs.Typing.{Ty, int, arrow, PlainArrows, TypeAgrees}
use Rattle.model.specs.declared.TypeForm.{TypeForm}
use Rattle.model.specs.declared.TypeForm.TheVariants.{Arrow}
use Rattle.readings.specs.Nodes.{assignment, free, Meets, Plain}
use Rattle.readings.specs.Standing.{PlainAt, Stands, argument, result, param, row}
use Rattle.readings.proofs.Rows.{meaning_node}

-- A qualifier that is PLAIN with an arrow, and a type that is plain inside.
pub plain_with : (plain q : ℕ) (τ : Ty ℕ) → ((a : ℕ) (s : Ty ℕ) (r : ℕ) (u : Ty ℕ) → τ ≡ arrow a s r u → q ≡ plain) → PlainArrows plain plain τ → PlainArrows plain q τ
plain_with plain q int with-arrow inside = tt
plain_with plain q (arrow a s r u) with-arrow inside = (with-arrow a s r u refl, inside.1, inside.2)

plain_head : (plain q : ℕ) (τ : Ty ℕ) → PlainArrows plain q τ → (a : ℕ) (s : Ty ℕ) (r : ℕ) (u : Ty ℕ) → τ ≡ arrow a s r u → q ≡ plain
plain_head plain q τ h a s r u e = (subst (PlainArrows plain q) e h).0

module _ (m : Machine) (wf : WellFormed m) {k : ℕ} {t : ℕ → Ty ℕ} {v : ℕ → ℕ} where
  -- The two parts of an arrow's line.
  parts_plain : Meets m k t v → Plain m k t v → (x q a q' b : ℕ) → x < length m.types → type_at m x ≡ Arrow q a q' b → PlainArrows (v 0) (v q) (t a) × PlainArrows (v 0) (v q') (t b)
  parts_plain meets plain x q a q' b h is =
      let agrees : t x ≡ arrow (v q) (t a) (v q') (t b) = rw (meaning_node m t v q, meaning_node m t v q') at (subst (λ (form : TypeForm). TypeAgrees (free m v) (assignment m t v) form (t x)) is (meets.types_agree x h)) in
      let parts = subst (PlainArrows (v 0) (v 0)) agrees (plain.types x h) in
      (parts.1, parts.2)

  pub plain_stands : Meets m k t v → Plain m k t v → {q x : ℕ} → Stands m k q x → PlainAt t v q x
  plain_stands meets plain (argument {q = q} {a = a} h is) = plain_head (v 0) (v q) (t a) (parts_plain meets plain _ _ _ _ _ h is).0
  plain_stands meets plain (result {q' = q} {b = b} h is) = plain_head (v 0) (v q) (t b) (parts_plain meets plain _ _ _ _ _ h is).1
  plain_stands meets plain (param {p} h) = plain_head (v 0) (v (param_at m p).qualifier) (t (param_at m p).typerow) (plain.params p h)
  plain_stands meets plain (row {i} below h) = plain_head (v 0) (v (row_qualifier i)) (t (row_type i)) (plain.rows i below h)

pub plain_of_stands : (m : Machine) (t : ℕ → Ty ℕ) (v : ℕ → ℕ) (k : ℕ) → ((x : ℕ) → x < nodes → PlainArrows (v 0) (v 0) (t x)) → ((q x : ℕ) → Stands m k q x → PlainAt t v q x) → WellFormed m →
    Plain m k t v
plain_of_stands m t v k inside stands wf =
    record {
      types = λ x h. inside x (omega (arith, wf.types_fit));
      params = λ p h. plain_with _ _ _ (stands _ _ (param h)) (inside _ (omega (arith, (wf.params_stand p h).1, wf.types_fit)));
      rows = λ i below h. plain_with _ _ _ (stands _ _ (row below h)) (inside (row_type i) (omega (arith, wf.terms_fit)));
    }
