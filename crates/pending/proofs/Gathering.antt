-- The pairs of the lines: what one pair adds, what one row adds, and one sort of pairs behind another.
use Prim.Native.Nat.{ℕ, ◌+◌, ◌*◌, ◌<◌, ◌≤◌}
use native.Mathlib.Decide.{dec_lt}
use native.Mathlib.Omega.{arith}
use mathlib.Core.List.{List}
use mathlib.Core.Logic.{◌⊎◌, inl, inr}
use mathlib.Core.Path.{◌≡◌, refl, sym, ap, ◌∙◌}
use lib.ListN.{get_or}
use Rattle.layout.specs.Kinds.{int_kind}
use Rattle.forest.specs.Pairs.{Notes, left_at, right_at}
use Rattle.forest.proofs.Links.{by_eq}
use Rattle.graph.specs.Types.{kind_at}
use Rattle.pending.specs.Lines.{FormPair, argument, result, ParamPair, param, Added, noted, left_out, OnePair, PairOf, Adds}

-- The pair of q and x has a place, or its type is INT.
abbrev Placed : List ℕ → Notes → ℕ → ℕ → ℕ → ℕ → Type 0
Placed k N from to q x = ((j : ℕ) × (from ≤ j) × (j < to) × (left_at N j ≡ q) × (right_at N j ≡ x)) ⊎ (kind_at k x ≡ int_kind)

-- There is no pair of the sort, and nothing is added.
pub adds_none : {S : ℕ → ℕ → Type 0} {k : List ℕ} {N : Notes} {n most : ℕ} → ((q x : ℕ) → S q x → ⊥) → Adds S k N N n most n
adds_none none =
    record {
      gathered =
          record {
            rising = omega arith;
            sound = λ j low high. absurd (omega arith);
            complete = λ q x s. absurd (none q x s);
          };
      few = omega arith;
      earlier = λ j h. (refl, refl);
    }

pub adds_one : {k : List ℕ} {N N' : Notes} {n q x n' : ℕ} → Added k N N' n q x n' → Adds (OnePair q x) k N N' n 1 n'
adds_one {N' = N'} {n} (noted new) =
    record {
      gathered =
          record {
            rising = omega (arith, new.next);
            sound = λ j low high.
                let e : j ≡ n = omega (arith, new.next) in
                (ap (left_at N') e ∙ new.newest.0, ap (right_at N') e ∙ new.newest.1);
            complete = λ q x s. inl (n, omega arith, omega (arith, new.next), new.newest.0 ∙ sym s.0, new.newest.1 ∙ sym s.1);
          };
      few = omega (arith, new.next);
      earlier = new.earlier;
    }
adds_one {k} (left_out same stays int) =
    record {
      gathered =
          record {
            rising = omega arith;
            sound = λ j low high. absurd (omega arith);
            complete = λ q x s. inr (ap (kind_at k) s.1 ∙ int);
          };
      few = omega arith;
      earlier = λ j h. (ap (λ (M : Notes). left_at M j) same, ap (λ (M : Notes). right_at M j) same);
    }

-- The pairs of S, and behind them those of S', are those of U.
adds_then : {S S' U : ℕ → ℕ → Type 0} {k : List ℕ} {N N₁ N₂ : Notes} {n n₁ n₂ m m' most : ℕ} →
    ((q x : ℕ) → S q x ⊎ S' q x → U q x) → ((q x : ℕ) → U q x → S q x ⊎ S' q x) → m + m' ≤ most →
    Adds S k N N₁ n m n₁ → Adds S' k N₁ N₂ n₁ m' n₂ → Adds U k N N₂ n most n₂
adds_then {S} {S'} {U} {k} {N} {N₁} {N₂} {n} {n₁} {n₂} into outof sum one two =
    record {
      gathered =
          record {
            rising = omega (arith, one.gathered.rising, two.gathered.rising);
            sound = λ j low high. into _ _ (sound j low high (dec_lt j n₁));
            complete = λ q x u. complete q x (outof q x u);
          };
      few = omega (arith, one.few, two.few);
      earlier = λ j h.
          let later = two.earlier j (omega (arith, one.gathered.rising)) in
          (later.0 ∙ (one.earlier j h).0, later.1 ∙ (one.earlier j h).1);
    }
  where
    sound : (j : ℕ) → n ≤ j → j < n₂ → Dec (j < n₁) → S (left_at N₂ j) (right_at N₂ j) ⊎ S' (left_at N₂ j) (right_at N₂ j)
    sound j low high (yes below) = inl (rw ((two.earlier j below).0, (two.earlier j below).1) (one.gathered.sound j low below))
    sound j low high (no above) = inr (two.gathered.sound j (omega arith) high)

    first : (q x : ℕ) → Placed k N₁ n n₁ q x → Placed k N₂ n n₂ q x
    first q x (inl (j, low, high, left, right)) =
        let later = two.earlier j high in
        inl (j, low, omega (arith, two.gathered.rising), later.0 ∙ left, later.1 ∙ right)
    first q x (inr int) = inr int

    second : (q x : ℕ) → Placed k N₂ n₁ n₂ q x → Placed k N₂ n n₂ q x
    second q x (inl (j, low, high, left, right)) = inl (j, omega (arith, one.gathered.rising), high, left, right)
    second q x (inr int) = inr int

    complete : (q x : ℕ) → S q x ⊎ S' q x → Placed k N₂ n n₂ q x
    complete q x (inl s) = first q x (one.gathered.complete q x s)
    complete q x (inr s) = second q x (two.gathered.complete q x s)

-- One more row.
module _ {k kids : List ℕ} where
  pub forms_more : {N N₁ N₂ : Notes} {x n₁ n₂ : ℕ} → Adds (FormPair k kids x) k N N₁ 0 (2 * x) n₁ → Adds (PairOf k kids x) k N₁ N₂ n₁ 2 n₂ → Adds (FormPair k kids (x + 1)) k N N₂ 0 (2 * (x + 1)) n₂
  forms_more {x = x} = adds_then into outof (omega arith)
    where
      into : (q a : ℕ) → FormPair k kids x q a ⊎ PairOf k kids x q a → FormPair k kids (x + 1) q a
      into _ _ (inl (argument {d} h arrow)) = argument {d = d} (omega arith) arrow
      into _ _ (inl (result {d} h arrow)) = result {d = d} (omega arith) arrow
      into q a (inr (arrow, inl same)) = rw (same.0, same.1) (argument {d = x} (omega arith) arrow)
      into q a (inr (arrow, inr same)) = rw (same.0, same.1) (result {d = x} (omega arith) arrow)

      outof : (q a : ℕ) → FormPair k kids (x + 1) q a → FormPair k kids x q a ⊎ PairOf k kids x q a
      outof _ _ (argument {d} h arrow) =
          by_eq d x
          (λ same. rw (sym same) (inr (arrow, inl (refl, refl))))
          (λ other. inl (argument {d = d} (omega arith) arrow))
      outof _ _ (result {d} h arrow) =
          by_eq d x
          (λ same. rw (sym same) (inr (arrow, inr (refl, refl))))
          (λ other. inl (result {d = d} (omega arith) arrow))

-- One more parameter.
module _ {qualifiers typerows k : List ℕ} where
  pub params_more : {N N₁ N₂ : Notes} {p n n₁ n₂ : ℕ} → Adds (ParamPair qualifiers typerows p) k N N₁ n p n₁ → Added k N₁ N₂ n₁ (get_or qualifiers p 0) (get_or typerows p 0) n₂ → Adds (ParamPair qualifiers typerows (p + 1)) k N N₂ n (p + 1) n₂
  params_more {p = p} before new = adds_then into outof (omega arith) before (adds_one new)
    where
      into : (q x : ℕ) → ParamPair qualifiers typerows p q x ⊎ OnePair (get_or qualifiers p 0) (get_or typerows p 0) q x → ParamPair qualifiers typerows (p + 1) q x
      into _ _ (inl (param {p = r} h)) = param {p = r} (omega arith)
      into q x (inr e) = rw (e.0, e.1) (param {p = p} (omega arith))

      outof : (q x : ℕ) → ParamPair qualifiers typerows (p + 1) q x → ParamPair qualifiers typerows p q x ⊎ OnePair (get_or qualifiers p 0) (get_or typerows p 0) q x
      outof _ _ (param {p = r} h) =
          by_eq r p
          (λ same. inr (ap (λ (s : ℕ). get_or qualifiers s 0) same, ap (λ (s : ℕ). get_or typerows s 0) same))
          (λ other. inl (param {p = r} (omega arith)))
