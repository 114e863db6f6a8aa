-- The lines T and P alone have a reading, since a type row names only rows below it; and with qualifiers ignored they have a typing together with row 0.
use Prim.Native.Nat.{ℕ, zero, suc, ◌<◌}
use native.Mathlib.Omega.{arith}
use mathlib.Core.Bool.{cond}
use mathlib.Core.Path.{◌≡◌, refl, sym, subst, ◌∙◌}
use lib.Dec.{ltb}
use lib.ListN.{length}
use borrow.Author.Tests.{lt-ltb}
use Rattle.layout.specs.Layout.{row_type}
use Rattle.model.specs.Machine.{Machine, type_at, param_at, term_at}
use Rattle.model.specs.WellFormed.{WellFormed, TypeStands, TermStands}
use Rattle.model.specs.Typing.{Ty, int, arrow, Typable, TypeAgrees}
use Rattle.model.specs.Strength.{erased}
use Rattle.model.specs.Inference.{ruling}
use Rattle.scheme.specs.Schemes.{words}
use Rattle.model.specs.declared.TypeForm.{TypeForm}
use Rattle.model.specs.declared.TypeForm.TheVariants.{Int, Any, Arrow}
use Rattle.model.specs.declared.Term.{Term}
use Rattle.model.specs.declared.Term.TheVariants.{Lam, App, Op, Var, Num, Enc}
use Rattle.readings.specs.Nodes.{assignment, free, Meets, RowHolds, parameter_of}
use Rattle.readings.proofs.Rows.{meaning_node, meets_more}
use Rattle.readings.proofs.Strengths.{some_erased}

-- The type of a form, from the types of the rows that it names; INT for an unknown one.
form_type : (ℕ → ℕ) → (ℕ → Ty ℕ) → TypeForm → Ty ℕ
form_type v t Int = int
form_type v t Any = int
form_type v t (Arrow q a q' b) = arrow (v q) (t a) (v q') (t b)

-- The type of a row, where fuel is above its number.
fuel_type : Machine → (ℕ → ℕ) → ℕ → ℕ → Ty ℕ
fuel_type m v zero x = int
fuel_type m v (suc fuel) x = form_type v (fuel_type m v fuel) (type_at m x)

form_same : (w : ℕ) (v : ℕ → ℕ) (t t' : ℕ → Ty ℕ) (x : ℕ) (form : TypeForm) → TypeStands w x form → ((y : ℕ) → y < x → t y ≡ t' y) → form_type v t form ≡ form_type v t' form
unfolding form_type
form_same w v t t' x Int st e = refl
form_same w v t t' x Any st e = refl
form_same w v t t' x (Arrow q a q' b) st e = cc (e a st.1, e b st.3)

module _ (m : Machine) (wf : WellFormed m) (v : ℕ → ℕ) where
  stable : (f g x : ℕ) → x < f → x < g → x < length m.types → fuel_type m v f x ≡ fuel_type m v g x
  unfolding fuel_type
  stable zero g x h l in_list = let z : ⊥ = omega arith in absurd z
  stable (suc f) zero x h l in_list = let z : ⊥ = omega arith in absurd z
  stable (suc f) (suc g) x h l in_list =
      form_same (words m.schemes) v (fuel_type m v f) (fuel_type m v g) x (type_at m x) (wf.types_stand x in_list)
      (λ y below. stable f g y (omega arith) (omega arith) (omega arith))

  pub line_type : ℕ → Ty ℕ
  line_type x = fuel_type m v (suc x) x

  -- A reading that gives each type row its own type meets the lines.
  module _ (t : ℕ → Ty ℕ) (own : (x : ℕ) → x < length m.types → t x ≡ line_type x) where
    agrees : (x : ℕ) (form : TypeForm) → TypeStands (words m.schemes) x form → x < length m.types → TypeAgrees (free m v) (assignment m t v) form (form_type v (fuel_type m v x) form)
    unfolding form_type line_type
    agrees x Int st h = refl
    agrees x Any st h = tt
    agrees x (Arrow q a q' b) st h =
        let argument : t a ≡ fuel_type m v x a = own a (omega (arith, st.1)) ∙ stable (suc a) x a (omega arith) st.1 (omega (arith, st.1)) in
        let result : t b ≡ fuel_type m v x b = own b (omega (arith, st.3)) ∙ stable (suc b) x b (omega arith) st.3 (omega (arith, st.3)) in
        cc (meaning_node m t v q, meaning_node m t v q', argument, result)

    own_meet : Meets m 0 t v
    unfolding line_type fuel_type
    own_meet =
        record {
          types_agree = λ x h. subst (TypeAgrees (free m v) (assignment m t v) (type_at m x)) (sym (own x h)) (agrees x (type_at m x) (wf.types_stand x h) h);
          params_agree = λ p h. (sym (meaning_node m t v (param_at m p).qualifier), refl);
          rows_meet = λ i below h. let z : ⊥ = omega arith in absurd z;
        }

  pub lines_meet : Meets m 0 line_type v
  lines_meet = own_meet line_type (λ x h. refl)

-- Row 0 names no row: it has its parameter's type, or INT.
first_type : Machine → (ℕ → Ty ℕ) → Term → Ty ℕ
first_type m t (Lam p b) = int
first_type m t (App f a) = int
first_type m t (Op o l r) = int
first_type m t (Var p) = t (param_at m p).typerow
first_type m t (Num n) = int
first_type m t (Enc s n) = int

module _ (m : Machine) (wf : WellFormed m) where
  abbrev lined : ℕ → Ty ℕ
  lined = line_type m wf (λ x. 0)

  -- Each type row has its own type, and row 0 what it can have.
  abbrev opening : ℕ → Ty ℕ
  opening x = cond (ltb x 64) (lined x) (first_type m lined (term_at m 0))

  opening_line : (x : ℕ) → x < 64 → opening x ≡ lined x
  opening_line x h = rw (lt-ltb x 64 h)

  first_holds : (term : Term) → TermStands (words m.schemes) (length m.params) 0 term → opening (row_type 0) ≡ first_type m lined term →
      RowHolds 0 term (param_at m (parameter_of term)).qualifier (param_at m (parameter_of term)).typerow opening (λ x. 0)
  unfolding first_type
  first_holds (Lam p b) st e = let z : ⊥ = omega (arith, st.1) in absurd z
  first_holds (App f a) st e = let z : ⊥ = omega (arith, st.0) in absurd z
  first_holds (Op o l r) st e = let z : ⊥ = omega (arith, st.1) in absurd z
  first_holds (Var p) st e = (refl, e ∙ sym (opening_line _ (omega (arith, (wf.params_stand p st).1, wf.types_fit))))
  first_holds (Num n) st e = e
  first_holds (Enc s n) st e = (refl, e)

  pub first_row_typable : 0 < length m.terms → Typable (erased (ruling m)) m 1
  first_row_typable h =
      some_erased m wf 1 opening
      (meets_more m opening (λ x. 0) 0 (own_meet m wf (λ x. 0) opening (λ x l. opening_line x (omega (arith, wf.types_fit))))
      (first_holds (term_at m 0) (wf.terms_stand 0 h) refl))
