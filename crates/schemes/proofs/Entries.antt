-- The bytes of a ruling, and that they rule the table that they were derived of.
use Prim.Native.Nat.{ℕ, ◌+◌, ◌-◌, ◌*◌, ◌≤◌}
use native.Mathlib.Omega.{arith}
use mathlib.Core.List.{[], ◌∷◌, ◌++◌}
use mathlib.Core.Path.{◌≡◌, refl, sym, ◌∙◌}
use lib.ListN.{length, get_or, set}
use borrow.Rule.Slice.PartMut.{put_mid}
use Rattle.std.proofs.lemmas.List.{take_at, drop_at, set-append_right, get_or-append_right, get_or_append_left}
use Rattle.scheme.specs.Schemes.{SchemeTable, words}
use Rattle.scheme.specs.Rule.{meet_at, highest_at, top_at, words_at, Ruled}
use Rattle.derive.specs.Derives.{IsDerived}
use Rattle.derive.specs.declared.Derived.{Derived}

module _ (d : Derived) (n : ℕ) (meets : length d.meets ≡ 81) (highest : length d.highest ≡ 5) where
  -- The meets, the highest schemes, the greatest qualifier and the count are what the four writes leave of the zeros.
  written_bytes : set (set (put_mid 81 5 (d.meets ++ (0 ∷ 0 ∷ 0 ∷ 0 ∷ 0 ∷ 0 ∷ 0 ∷ [])) d.highest) 86 d.top) 87 n ≡ d.meets ++ (d.highest ++ (d.top ∷ n ∷ []))
  written_bytes =
      rw (
        take_at d.meets (0 ∷ 0 ∷ 0 ∷ 0 ∷ 0 ∷ 0 ∷ 0 ∷ []) 81 meets,
        drop_at d.meets (0 ∷ 0 ∷ 0 ∷ 0 ∷ 0 ∷ 0 ∷ 0 ∷ []) 81 meets,
        set-append_right d.meets (d.highest ++ (0 ∷ 0 ∷ [])) 81 86 d.top meets (omega arith),
        set-append_right d.highest (0 ∷ 0 ∷ []) 5 5 d.top highest (omega arith),
        set-append_right d.meets (d.highest ++ (d.top ∷ 0 ∷ [])) 81 87 n meets (omega arith),
        set-append_right d.highest (d.top ∷ 0 ∷ []) 5 6 n highest (omega arith),
      )
      refl

  -- An entry past the meets.
  past_meets : (o : ℕ) → get_or (d.meets ++ (d.highest ++ (d.top ∷ n ∷ []))) (81 + o) 0 ≡ get_or (d.highest ++ (d.top ∷ n ∷ [])) o 0
  past_meets o =
      let back : 81 + o - 81 ≡ o = omega arith in
      get_or-append_right d.meets (d.highest ++ (d.top ∷ n ∷ [])) 81 (81 + o) 0 meets (omega arith) ∙ rw back refl

  pub ruled : (T : SchemeTable) → words T ≡ n → n ≤ 9 → IsDerived T d → Ruled T (set (set (put_mid 81 5 (d.meets ++ (0 ∷ 0 ∷ 0 ∷ 0 ∷ 0 ∷ 0 ∷ 0 ∷ [])) d.highest) 86 d.top) 87 n)
  unfolding meet_at highest_at top_at words_at
  ruled T counted few is =
      rw written_bytes
      (record {
        words_same = past_meets 6 ∙ get_or-append_right d.highest (d.top ∷ n ∷ []) 5 6 0 highest (omega arith) ∙ sym counted;
        top_same = past_meets 5 ∙ get_or-append_right d.highest (d.top ∷ n ∷ []) 5 5 0 highest (omega arith) ∙ is.top;
        meets_same = λ a b ha hb. get_or_append_left d.meets (d.highest ++ (d.top ∷ n ∷ [])) 0 (a * 9 + b) (omega (arith, counted)) ∙ is.meets a b ha hb;
        highest_same = λ o h. past_meets o ∙ get_or_append_left d.highest (d.top ∷ n ∷ []) 0 o (omega arith) ∙ is.highest o h;
      })
