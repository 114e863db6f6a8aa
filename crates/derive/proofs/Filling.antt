-- Arrays filled in place by place, and the three cases of what a qualifier supports.
use Prim.Native.Nat.{ℕ, ◌+◌, ◌-◌, ◌/◌, ◌%◌, ◌<◌, ◌≤◌}
use native.Mathlib.Omega.{arith}
use mathlib.Core.Bool.{Bool, true, false}
use mathlib.Core.List.{List}
use mathlib.Core.Path.{◌≡◌, refl, sym}
use lib.Dec.{eqb, ltb}
use lib.ListN.{get_or, set}
use borrow.Author.Tests.{eq-eqb, ne_eqb, lt-ltb, le-ltb, ltb-true, ltb-false}
use Rattle.std.specs.Prelude.{Some, None}
use Rattle.std.proofs.lemmas.Option.{cond_some, none-some}
use Rattle.scheme.specs.Filled.{Filled}
use Rattle.scheme.proofs.Filling.{filled_more, filled_skip}
use Rattle.derive.specs.declared.Bits.{Bits}
use Rattle.derive.specs.Orders.{bits_at, supports_at, best, best_of, both_below, Members, IsBest, MeetsFound, HighestFound}
use Rattle.derive.proofs.Searching.{best_most}

module _ (bits : List Bits) where
  pub supports_plain : (c o : ℕ) → c ≡ 0 → eqb c 0 ≡ supports_at bits c o
  unfolding supports_at
  supports_plain c o e = rw (eq-eqb c 0 e) refl

  pub supports_digit : (c o : ℕ) → (c ≡ 0 → ⊥) → o < 5 → get_or (bits_at bits (c - 1)) o false ≡ supports_at bits c o
  unfolding supports_at
  supports_digit c o n below = rw (ne_eqb c 0 n, lt-ltb o 5 below) refl

  pub supports_none : (c o : ℕ) → (c ≡ 0 → ⊥) → 5 ≤ o → ltb o 5 ≡ supports_at bits c o
  unfolding supports_at
  supports_none c o n past = rw (ne_eqb c 0 n, le-ltb o 5 past) refl

module _ (order : List Bool) (words : ℕ) where
  -- What a member's search gives: a code, which is the best, or that there is none.
  pub best_some : (members : List Bool) (c : ℕ) → Some c ≡ best_of order words members → (c ≡ best order words members) × (c < words)
  unfolding best_of
  best_some members c e =
      let both = cond_some (ltb (best order words members) words) (best order words members) c (sym e) in
      (sym both.1, omega (arith, both.1, ltb-true _ _ both.0))

  pub best_none : (members : List Bool) → None ≡ best_of order words members → words ≡ best order words members
  unfolding best_of
  best_none members e = go (ltb (best order words members) words) refl
    where
      go : (b : Bool) → ltb (best order words members) words ≡ b → words ≡ best order words members
      go true is = absurd (none-some (best order words members) (rw is at e))
      go false is = omega (arith, best_most order words members _ refl, ltb-false _ _ is)

  -- The meets in the first n places.
  abbrev pub MeetsTo : List ℕ → ℕ → Type 0
  MeetsTo meets n = Filled 0 81 (λ i c. i / 9 < words → i % 9 < words → IsBest order words (both_below order (i / 9) (i % 9)) c × (c < words)) n meets

  pub meets_more : (meets : List ℕ) (members : List Bool) (n c : ℕ) → MeetsTo meets n → n < 81 → Members (both_below order (n / 9) (n % 9)) 9 members → Some c ≡ best_of order words members → MeetsTo (set meets n c) (n + 1)
  meets_more meets members n c t room m e = filled_more t room (λ _ _. let is = best_some members c e in ((members, m, is.0), is.1))

  pub meets_skip : (meets : List ℕ) (n : ℕ) → MeetsTo meets n → (n / 9 < words → words ≤ n % 9) → MeetsTo meets (n + 1)
  meets_skip meets n t past = filled_skip t (λ a b. absurd (let p = past a in omega arith))

  pub meets_missing : (members : List Bool) (n : ℕ) → n / 9 < words → n % 9 < words → Members (both_below order (n / 9) (n % 9)) 9 members → None ≡ best_of order words members → MeetsFound order words 81 None
  meets_missing members n a b m e = (n, a, b, (members, m, best_none members e))

  -- The highest of the first n operations.
  module _ (bits : List Bits) where
    abbrev pub HighestTo : List ℕ → ℕ → Type 0
    HighestTo highest n = Filled 0 5 (λ o c. IsBest order words (λ c. supports_at bits c o) c × (c < words)) n highest

    pub highest_more : (highest : List ℕ) (members : List Bool) (n c : ℕ) → HighestTo highest n → n < 5 → Members (λ c. supports_at bits c n) 9 members → Some c ≡ best_of order words members → HighestTo (set highest n c) (n + 1)
    highest_more highest members n c t room m e = filled_more t room (let is = best_some members c e in ((members, m, is.0), is.1))

    pub highest_missing : (members : List Bool) (n : ℕ) → n < 5 → Members (λ c. supports_at bits c n) 9 members → None ≡ best_of order words members → HighestFound order bits words 5 None
    highest_missing members n below m e = (n, below, (members, m, best_none members e))
