-- The loops over pairs of lines: two may be like one another only where they are one.
use Prim.Native.Nat.{ℕ, ◌≤◌, ◌<◌}
use mathlib.Core.Bool.{Bool, true, false}
use mathlib.Core.List.{List}
use mathlib.Core.Path.{◌≡◌, refl, sym, ◌∙◌}
use lib.Dec.{eqb}
use borrow.Author.Tests.{eq-eqb, ne_eqb}
use Rattle.scheme.specs.Lists.{implies}
use Rattle.scheme.proofs.Every.{every_true, every_false}
use Rattle.model.specs.Lists.{same}
use Rattle.schemes.specs.Lines.{name_at}
use Rattle.schemes.specs.Pairs.{same_name, alone, apart}

-- Two names.
pub same_name_lem : (file : List ℕ) (i j : ℕ) (s t : List ℕ) (p : Bool) → s ≡ name_at file i → t ≡ name_at file j → p ≡ same s t → p ≡ same_name file i j
unfolding same_name
same_name_lem file i j s t p is-s is-t is = cc

module _ (like : ℕ → ℕ → Bool) where
  unfoldable pub Differ : ℕ → ℕ → Type 0
  Differ i j = implies (like i j) (eqb i j) ≡ true

  -- One pair.
  pub differ_one : (i j : ℕ) → i ≡ j → Differ i j
  unfolding Differ
  differ_one i j e = by (like i j)
    where
      by : (b : Bool) → implies b (eqb i j) ≡ true
      by true = eq-eqb i j e
      by false = refl

  pub differ_not : (i j : ℕ) (p : Bool) → p ≡ like i j → p ≡ false → Differ i j
  unfolding Differ
  differ_not i j p is e = let e' : like i j ≡ false = sym is ∙ e in rw e' refl

  -- All pairs of one.
  module _ (n i j : ℕ) where
    pub alone_false : j < n → (p : Bool) → p ≡ like i j → p ≡ true → (i ≡ j → ⊥) → false ≡ alone like n i
    unfolding alone
    alone_false below p is e other =
        let e' : like i j ≡ true = sym is ∙ e in
        every_false n (λ j. implies (like i j) (eqb i j)) j below (rw e' (ne_eqb i j other))

    pub alone_true : n ≤ j → ((k : ℕ) → k < j → Differ i k) → true ≡ alone like n i
    unfolding alone Differ
    alone_true past h = every_true n (λ j. implies (like i j) (eqb i j)) j past h

  -- All pairs.
  module _ (n i : ℕ) where
    pub apart_false : i < n → (p : Bool) → p ≡ alone like n i → p ≡ false → false ≡ apart like n
    unfolding apart
    apart_false below p is e = every_false n (λ i. alone like n i) i below (sym is ∙ e)

    pub apart_true : n ≤ i → ((k : ℕ) → k < i → alone like n k ≡ true) → true ≡ apart like n
    unfolding apart
    apart_true past h = every_true n (λ i. alone like n i) i past h
