-- The number of the first check that fails, one way of the code at a time.
use Prim.Native.Nat.{ℕ, ◌≤◌, ◌<◌}
use native.Mathlib.Omega.{arith}
use mathlib.Core.Bool.{Bool, true, false, not, ◌&&◌}
use mathlib.Core.List.{List, [], ◌∷◌}
use mathlib.Core.Path.{◌≡◌, refl, sym, ap, ◌∙◌}
use Rattle.std.proofs.Common.{Result, Err}
use lib.Dec.{eqb, ltb}
use lib.ListN.{length}
use borrow.Author.Tests.{eq-eqb, ne_eqb, lt-ltb, le-ltb}
use Rattle.model.specs.Lists.{any_of, all_of}
use Rattle.model.specs.Machine.{Machine, children, named, binds, parts, used, bound, twice, first_failing, type_refusal, param_refusal, term_refusal}
use Rattle.model.specs.declared.TypeForm.{TypeForm}
use Rattle.model.specs.declared.Param.{Param}
use Rattle.model.specs.declared.Term.{Term}
use Rattle.checks.specs.declared.refusal.Refusal.{Refusal}
use Rattle.checks.specs.declared.refusal.Refusal.TheVariants.{NoForm, NotNext, ListFull, TypeUndeclared, ParameterUndeclared, ChildNotBelow, ChildUsed, ParameterBound, NoTermRow, CodeTooHigh}
use Rattle.checks.specs.Refused.{refusal_number, number_of}

pub fails : (n : ℕ) (holds : Bool) (rest : List (ℕ × Bool)) → holds ≡ false → first_failing ((n, holds) ∷ rest) ≡ n
unfolding first_failing
fails n holds rest h = simp h

pub holding : (n : ℕ) (holds : Bool) (rest : List (ℕ × Bool)) → holds ≡ true → first_failing ((n, holds) ∷ rest) ≡ first_failing rest
unfolding first_failing
holding n holds rest h = simp h

two_fail : (a b : Bool) (k : ℕ) (rest : List (ℕ × Bool)) → k ≡ first_failing ((2, a) ∷ (3, b) ∷ []) → (k ≡ 0 → ⊥) → k ≡ first_failing ((2, a) ∷ (3, b) ∷ rest)
unfolding first_failing
two_fail true true k rest is h = absurd (h is)
two_fail true false k rest is h = is
two_fail false b k rest is h = is

two_hold : (a b : Bool) (k : ℕ) (rest : List (ℕ × Bool)) → k ≡ first_failing ((2, a) ∷ (3, b) ∷ []) → k ≡ 0 → first_failing ((2, a) ∷ (3, b) ∷ rest) ≡ first_failing rest
unfolding first_failing
two_hold true true k rest is h = refl
two_hold true false k rest is h = let z : ⊥ = omega arith in absurd z
two_hold false b k rest is h = let z : ⊥ = omega arith in absurd z

-- No refusal has the number of what is accepted.
pub refusal_some : (refusal : Refusal) → refusal_number refusal ≡ 0 → ⊥
refusal_some NoForm e = omega arith
refusal_some NotNext e = omega arith
refusal_some ListFull e = omega arith
refusal_some TypeUndeclared e = omega arith
refusal_some ParameterUndeclared e = omega arith
refusal_some ChildNotBelow e = omega arith
refusal_some ChildUsed e = omega arith
refusal_some ParameterBound e = omega arith
refusal_some NoTermRow e = omega arith
refusal_some CodeTooHigh e = omega arith

-- `?` hands on the refusal that it found.
pub passed_on : {T : Type 0} (result : Result T Refusal) (refusal : Refusal) → result ≡ Err refusal → number_of result ≡ refusal_number refusal
passed_on result refusal e = ap number_of e

-- Checks 2 and 3.
module _ (own n limit : ℕ) where
  abbrev pub place : List (ℕ × Bool) → List (ℕ × Bool)
  place rest = (2, eqb own n) ∷ (3, ltb n limit) ∷ rest

  pub not_next : (own ≡ n → ⊥) → 2 ≡ first_failing (place [])
  not_next h = sym (fails 2 _ _ (ne_eqb own n h))

  pub no_room : own ≡ n → limit ≤ n → 3 ≡ first_failing (place [])
  no_room e h = sym (holding 2 _ _ (eq-eqb own n e) ∙ fails 3 _ _ (le-ltb n limit h))

  pub placed : own ≡ n → n < limit → 0 ≡ first_failing (place [])
  unfolding first_failing
  placed e h = simp (eq-eqb own n e, lt-ltb n limit h)

  -- The later checks count only where these two hold.
  pub misplaced : (k : ℕ) (rest : List (ℕ × Bool)) → k ≡ first_failing (place []) → (k ≡ 0 → ⊥) → k ≡ first_failing (place rest)
  misplaced = two_fail (eqb own n) (ltb n limit)

  pub in_place : (k : ℕ) (rest : List (ℕ × Bool)) → k ≡ first_failing (place []) → k ≡ 0 → first_failing (place rest) ≡ first_failing rest
  in_place = two_hold (eqb own n) (ltb n limit)

module _ (m : Machine) (own : ℕ) (form : TypeForm) (n k : ℕ) (count : n ≡ length m.types) (is : k ≡ first_failing (place own n 64 [])) where
  pub type_misplaced : (k ≡ 0 → ⊥) → k ≡ type_refusal m own form
  unfolding type_refusal
  type_misplaced h = rw (← count) (misplaced own n 64 k _ is h)

  module _ (holds : k ≡ 0) (below : Bool) (test : below ≡ all_of (λ t. ltb t own) (parts form)) where
    type_rest : type_refusal m own form ≡ first_failing ((4, below) ∷ [])
    unfolding type_refusal
    type_rest = rw (← count, test) (in_place own n 64 k _ is holds)

    pub type_accepted : below ≡ true → 0 ≡ type_refusal m own form
    unfolding first_failing
    type_accepted h = sym (type_rest ∙ simp h)

    pub part_not_below : below ≡ false → 4 ≡ type_refusal m own form
    part_not_below h = sym (type_rest ∙ fails 4 below [] h)

module _ (m : Machine) (own : ℕ) (param : Param) (n k : ℕ) (count : n ≡ length m.params) (is : k ≡ first_failing (place own n 64 [])) where
  pub param_misplaced : (k ≡ 0 → ⊥) → k ≡ param_refusal m own param
  unfolding param_refusal
  param_misplaced h = rw (← count) (misplaced own n 64 k _ is h)

  module _ (holds : k ≡ 0) (rows : ℕ) (declared : rows ≡ length m.types) where
    param-rest : param_refusal m own param ≡ first_failing ((4, ltb param.typerow rows) ∷ [])
    unfolding param_refusal
    param-rest = rw (← count, declared) (in_place own n 64 k _ is holds)

    pub param_accepted : param.typerow < rows → 0 ≡ param_refusal m own param
    unfolding first_failing
    param_accepted h = sym (param-rest ∙ simp (lt-ltb _ _ h))

    pub type_undeclared : rows ≤ param.typerow → 4 ≡ param_refusal m own param
    type_undeclared h = sym (param-rest ∙ fails 4 _ [] (le-ltb _ _ h))

module _ (m : Machine) (own : ℕ) (term : Term) (n k : ℕ) (count : n ≡ length m.terms) (is : k ≡ first_failing (place own n 256 [])) where
  pub term_misplaced : (k ≡ 0 → ⊥) → k ≡ term_refusal m own term
  unfolding term_refusal
  term_misplaced h = rw (← count) (misplaced own n 256 k _ is h)

  module _ (holds : k ≡ 0) (declared : ℕ) (params : declared ≡ length m.params) (named-declared : Bool) (is5 : named-declared ≡ all_of (λ p. ltb p declared) (named term)) where
    after_place : term_refusal m own term ≡ first_failing (
        (5, named-declared)
        ∷ (6, all_of (λ c. ltb c own) (children term))
        ∷ (7, not (any_of (used m.terms) (children term)) && not (twice (children term)))
        ∷ (8, not (any_of (bound m.terms) (binds term)))
        ∷ [])
    unfolding term_refusal
    after_place = rw (← count, is5, params) (in_place own n 256 k _ is holds)

    pub refused_5 : named-declared ≡ false → 5 ≡ term_refusal m own term
    refused_5 h = sym (after_place ∙ fails 5 _ _ h)

    module _ (holds5 : named-declared ≡ true) (below : Bool) (is6 : below ≡ all_of (λ c. ltb c own) (children term)) where
      after_5 : term_refusal m own term ≡ first_failing (
          (6, below)
          ∷ (7, not (any_of (used m.terms) (children term)) && not (twice (children term)))
          ∷ (8, not (any_of (bound m.terms) (binds term)))
          ∷ [])
      after_5 = after_place ∙ holding 5 _ _ holds5 ∙ rw is6

      pub refused_6 : below ≡ false → 6 ≡ term_refusal m own term
      refused_6 h = sym (after_5 ∙ fails 6 _ _ h)

      module _ (holds6 : below ≡ true) (free : Bool) (is7 : free ≡ (not (any_of (used m.terms) (children term)) && not (twice (children term)))) where
        after_6 : term_refusal m own term ≡ first_failing ((7, free) ∷ (8, not (any_of (bound m.terms) (binds term))) ∷ [])
        after_6 = after_5 ∙ holding 6 _ _ holds6 ∙ rw is7

        pub refused_7 : free ≡ false → 7 ≡ term_refusal m own term
        refused_7 h = sym (after_6 ∙ fails 7 _ _ h)

        module _ (holds7 : free ≡ true) (unbound : Bool) (is8 : unbound ≡ not (any_of (bound m.terms) (binds term))) where
          after_7 : term_refusal m own term ≡ first_failing ((8, unbound) ∷ [])
          after_7 = after_6 ∙ holding 7 _ _ holds7 ∙ rw is8

          pub refused_8 : unbound ≡ false → 8 ≡ term_refusal m own term
          refused_8 h = sym (after_7 ∙ fails 8 _ _ h)

          pub term_accepted : unbound ≡ true → 0 ≡ term_refusal m own term
          unfolding first_failing
          term_accepted h = sym (after_7 ∙ simp h)
