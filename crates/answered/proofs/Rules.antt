-- The ruling of a scheme table, tabulated from the table's own definitions.
use Prim.Native.Nat.{ℕ, ◌+◌, ◌*◌, ◌/◌, ◌%◌, ◌≤◌, ◌<◌}
use native.Mathlib.Omega.{arith}
use mathlib.Core.Bool.{Bool, ◌&&◌}
use mathlib.Core.List.{List, [], ◌∷◌, ◌++◌}
use mathlib.Core.Path.{◌≡◌, refl, ap₂, ◌∙◌}
use lib.ListN.{length, get_or, get_or-append}
use lib.Seq.{get_or-append-add}
use Rattle.scheme.specs.Lists.{implies, every}
use Rattle.scheme.specs.Schemes.{SchemeTable, words, below, greatest, top_of, meet_of, highest_of}
use Rattle.scheme.specs.Rule.{meet_at, highest_at, top_at, words_at, Ruled}
use Rattle.scheme.proofs.Every.{first_most}
use Rattle.answered.proofs.Entries.{tabulated, length_tabulated, get_d_tabulated, each_joined, each-cons, each_tabulated}

module _ (T : SchemeTable) where
  abbrev meets : List ℕ
  meets = tabulated 81 (λ i. meet_of T (i / 9) (i % 9))

  abbrev others : List ℕ
  others = tabulated 5 (highest_of T) ++ (top_of T ∷ words T ∷ [])

  abbrev pub rule_of : List ℕ
  rule_of = meets ++ others

  pub rule_length : length rule_of ≡ 88
  rule_length = refl

  -- Where no qualifier is the greatest, the number of the words is given: so all entries are bytes, those of no codes too.
  greatest_most : (test : ℕ → Bool) → greatest T test ≤ words T
  unfolding greatest
  greatest_most test = first_most (words T) (λ c. test c && every (words T) (λ d. implies (test d) (below T d c)))

  module _ (few : length T.names ≤ 8) where
    pub rule_ruled : Ruled T rule_of
    unfolding meet_at highest_at top_at words_at
    rule_ruled =
        record {
          words_same = refl;
          top_same = refl;
          meets_same = λ a b ha hb.
              let inside : a * 9 + b < 81 = omega arith in
              let row : (a * 9 + b) / 9 ≡ a = omega arith in
              let place : (a * 9 + b) % 9 ≡ b = omega arith in
              get_or-append meets others 0 (a * 9 + b) (simp length_tabulated inside)
              ∙ get_d_tabulated 81 (λ i. meet_of T (i / 9) (i % 9)) 0 (a * 9 + b) inside
              ∙ ap₂ (meet_of T) row place;
          highest_same = λ o h.
              get_or-append-add meets others o 0
              ∙ get_or-append (tabulated 5 (highest_of T)) (top_of T ∷ words T ∷ []) 0 o (simp length_tabulated h)
              ∙ get_d_tabulated 5 (highest_of T) 0 o h;
        }

    pub rule_bytes : (i : ℕ) → get_or rule_of i 0 < 256
    rule_bytes =
        each_joined (λ b. b < 256) 0 (omega arith) meets others
        (each_tabulated (λ b. b < 256) 0 (omega arith) 81 (λ i. meet_of T (i / 9) (i % 9)) (λ i. small _))
        (each_joined (λ b. b < 256) 0 (omega arith) (tabulated 5 (highest_of T)) (top_of T ∷ words T ∷ [])
        (each_tabulated (λ b. b < 256) 0 (omega arith) 5 (highest_of T) (λ o. small _))
        (each-cons (λ b. b < 256) 0 (omega arith) (top_of T) (words T ∷ []) (small _) (each-cons (λ b. b < 256) 0 (omega arith) (words T) [] (omega arith) (λ i. omega arith))))
      where
        small : (test : ℕ → Bool) → greatest T test < 256
        small test = omega (arith, greatest_most test)
