-- What is found in the array of the order is what the scheme table's definitions say.
use Prim.Native.Nat.{ℕ, zero, suc, ◌+◌, ◌-◌, ◌*◌, ◌/◌, ◌%◌, ◌<◌, ◌≤◌}
use native.Mathlib.Omega.{arith}
use mathlib.Core.Bool.{Bool, true, false, ◌&&◌, and-false}
use mathlib.Core.List.{List}
use mathlib.Core.Path.{◌≡◌, refl, sym, ap, ◌∙◌}
use lib.Dec.{ltb}
use lib.ListN.{get_or, replicate, get_or-replicate}
use borrow.Author.Tests.{lt-ltb, le-ltb}
use Rattle.std.specs.Prelude.{Some, None, Ok, Err}
use Rattle.scheme.specs.Lists.{implies, every, first}
use Rattle.scheme.specs.Schemes.{SchemeTable, words, supports, below, greatest, exists, top_of, meet_of, highest_of, has_meets, has_highest}
use Rattle.scheme.proofs.Every.{and_both, every_of, every_fails, every_same, first-same}
use Rattle.scheme.proofs.Schemes.{wider, below_wider}
use Rattle.model.specs.Machine.{first_failing}
use Rattle.derive.specs.declared.Bits.{Bits}
use Rattle.derive.specs.declared.Missing.TheVariants.{Meet, Highest}
use Rattle.derive.specs.Orders.{order_at, Member, supports_at, wider_at, above_all, best, best_of, both_below, Ordered, IsBest, MeetsFound, HighestFound}
use Rattle.derive.specs.Derives.{Holds, Derives}
use Rattle.derive.proofs.Filling.{best_some, best_none}

module _ (T : SchemeTable) (n : ℕ) (bits : List Bits) (order : List Bool) (few : n ≤ 9) (holds : Holds T n bits) (ordered : Ordered bits 81 order) where
  supports_same : (c o : ℕ) → c < n → supports_at bits c o ≡ supports T c o
  unfolding supports_at
  supports_same zero o h = refl
  supports_same (suc i) o h = let e : suc i - 1 ≡ i = omega arith in let same = holds.same i (omega arith) in rw (e, same) refl

  wider_same : (a b : ℕ) → a < n → b < n → wider_at bits a b ≡ wider T a b
  unfolding wider_at
  wider_same a b h k = every_same 6 (λ o. implies (supports_at bits b o) (supports_at bits a o)) (λ o. implies (supports T b o) (supports T a o)) (λ o below. cc (supports_same a o h, supports_same b o k))

  pub order_same : (a b : ℕ) → a < n → b < n → order_at order a b ≡ below T a b
  order_same a b h k =
      let row : (a * 9 + b) / 9 ≡ a = omega arith in
      let place : (a * 9 + b) % 9 ≡ b = omega arith in
      let code : ltb a (words T) ≡ true = lt-ltb a (words T) (omega (arith, holds.counted)) in
      ordered.held (a * 9 + b) (omega arith) ∙ rw (row, place, below_wider T a b, code) (wider_same a b h k)

  best_same : (test : ℕ → Bool) (members : List Bool) → ((c : ℕ) → c < n → Member members c ≡ test c) → best order n members ≡ greatest T test
  unfolding best greatest above_all
  best_same test members same =
      first-same n (λ c. Member members c && every n (λ d. implies (Member members d) (order_at order d c))) (λ c. test c && every n (λ d. implies (test d) (below T d c))) (λ c h. cc (same c h, every_same n (λ d. implies (Member members d) (order_at order d c)) (λ d. implies (test d) (below T d c)) (λ d k. cc (same d k, order_same d c k h))))
      ∙ ap (λ (k : ℕ). first k (λ c. test c && every k (λ d. implies (test d) (below T d c)))) (sym holds.counted)

  is_best : (test test' : ℕ → Bool) (c : ℕ) → IsBest order n test c → ((k : ℕ) → k < n → test k ≡ test' k) → c ≡ greatest T test'
  is_best test test' c (members, m, e) same = e ∙ best_same test' members (λ k h. m.held k (omega arith) ∙ same k h)

  is_meet : (a b c : ℕ) → a < n → b < n → IsBest order n (both_below order a b) c → c ≡ meet_of T a b
  unfolding both_below
  is_meet a b c h k best = is_best (both_below order a b) _ c best (λ d below. cc (order_same d a below h, order_same d b below k))

  is_highest : (o c : ℕ) → IsBest order n (λ c. supports_at bits c o) c → c ≡ highest_of T o
  is_highest o c best = is_best (λ c. supports_at bits c o) _ c best (λ d below. supports_same d o below)

  is_top : (members : List Bool) (c : ℕ) → members ≡ replicate 9 true → c ≡ best order n members → c ≡ top_of T
  is_top members c all e = e ∙ best_same (λ c. true) members (λ k h. rw all (get_or-replicate 9 k true false (omega arith)))

  exists_code : (c : ℕ) → c < n → exists T c ≡ true
  exists_code c h = lt-ltb c (words T) (omega (arith, holds.counted))

  missing_code : (c : ℕ) → c ≡ n → exists T c ≡ false
  missing_code c e = le-ltb c (words T) (omega (arith, holds.counted))

  missing_meets : (a b : ℕ) → a < n → b < n → exists T (meet_of T a b) ≡ false → has_meets T ≡ false
  unfolding has_meets
  missing_meets a b h k gone =
      let none : every (words T) (λ a. every (words T) (λ b. exists T (meet_of T a b))) ≡ false =
      every_fails (words T) (λ a. every (words T) (λ b. exists T (meet_of T a b))) a (omega (arith, holds.counted))
      (every_fails (words T) (λ b. exists T (meet_of T a b)) b (omega (arith, holds.counted)) gone) in
      rw none (and-false (exists T (top_of T)))

  missing_highest : (o : ℕ) → o < 5 → exists T (highest_of T o) ≡ false → has_highest T ≡ false
  unfolding has_highest
  missing_highest o h gone = every_fails 5 (λ o. exists T (highest_of T o)) o h gone

  -- The four ends of the function.
  module _ (members : List Bool) (all : members ≡ replicate 9 true) where
    pub no_top : None ≡ best_of order n members → Derives T (Err Meet)
    unfolding first_failing has_meets
    no_top none =
        let missing : exists T (top_of T) ≡ false = missing_code _ (sym (is_top members n all (best_none order n members none))) in
        record { refusal = rw missing refl; derived = tt }

    pub no_meets : MeetsFound order n 81 None → Derives T (Err Meet)
    unfolding first_failing
    no_meets at =
        let a : ℕ = at.0 / 9 in
        let b : ℕ = at.0 % 9 in
        let gone : exists T (meet_of T a b) ≡ false = missing_code _ (sym (is_meet a b n at.1 at.2 at.3)) in
        let none : has_meets T ≡ false = missing_meets a b at.1 at.2 gone in
        record { refusal = rw none refl; derived = tt }

    module _ (top : ℕ) (is : Some top ≡ best_of order n members) (meets : List ℕ) (meets_found : MeetsFound order n 81 (Some meets)) where
      top_same : top ≡ top_of T
      top_same = is_top members top all (best_some order n members top is).0

      meets_same : (a b : ℕ) → a < n → b < n → (get_or meets (a * 9 + b) 0 ≡ meet_of T a b) × (get_or meets (a * 9 + b) 0 < n)
      meets_same a b h k =
          let row : (a * 9 + b) / 9 ≡ a = omega arith in
          let place : (a * 9 + b) % 9 ≡ b = omega arith in
          let best = meets_found (a * 9 + b) (omega arith) (omega arith) (omega arith) in
          (is_meet a b _ h k (rw (row, place) at best.0), best.1)

      all_meet : has_meets T ≡ true
      unfolding has_meets
      all_meet =
          and_both (exists T (top_of T)) (every (words T) (λ a. every (words T) (λ b. exists T (meet_of T a b))))
          (exists_code (top_of T) (omega (arith, top_same, best_some order n members top is)))
          (every_of (words T) (λ a. every (words T) (λ b. exists T (meet_of T a b))) (λ a h.
          every_of (words T) (λ b. exists T (meet_of T a b)) (λ b k.
          let m = meets_same a b (omega (arith, holds.counted)) (omega (arith, holds.counted)) in exists_code (meet_of T a b) (omega (arith, m.0, m.1)))))

      pub no_highest : HighestFound order bits n 5 None → Derives T (Err Highest)
      unfolding first_failing
      no_highest at =
          let gone : exists T (highest_of T at.0) ≡ false = missing_code _ (sym (is_highest at.0 n at.2)) in
          let none : has_highest T ≡ false = missing_highest at.0 at.1 gone in
          record { refusal = rw (all_meet, none) refl; derived = tt }

      module _ (highest : List ℕ) (highest_found : HighestFound order bits n 5 (Some highest)) where
        all_highest : has_highest T ≡ true
        unfolding has_highest
        all_highest =
            every_of 5 (λ o. exists T (highest_of T o)) (λ o h.
            let best = highest_found o h in
            let same : get_or highest o 0 ≡ highest_of T o = is_highest o (get_or highest o 0) best.0 in
            exists_code (highest_of T o) (omega (arith, same, best.1)))

        pub derived_all : Derives T (Ok (record { meets = meets; highest = highest; top = top }))
        unfolding first_failing
        derived_all =
            record {
              refusal = rw (all_meet, all_highest) refl;
              derived = record {
                meets = λ a b below-a below-b. (meets_same a b (omega (arith, holds.counted)) (omega (arith, holds.counted))).0;
                highest = λ o below. (is_highest o _ (highest_found o below).0);
                top = top_same;
              };
            }
