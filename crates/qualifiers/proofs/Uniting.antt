-- What the exits of `root`, `join`, `unite` and `unite_all` leave, and what a row leaves that puts its new node under another.
use Prim.Native.Nat.{ℕ, ◌<◌, ◌≤◌, ◌+◌}
use native.Mathlib.Omega.{arith}
use borrow.Author.Count.{below_more}
use borrow.Author.Tests.{eqb-true}
use mathlib.Core.Bool.{Bool, true, false, true≢false, false≢true}
use mathlib.Core.List.{List}
use mathlib.Core.Path.{◌≡◌, refl, sym, ap, subst, ◌∙◌}
use lib.ListN.{get_or, set}
use lib.Seq.{set-get_or, get_or-set_other}
use Rattle.std.specs.Prelude.{Result, Ok, Err, is_ok}
use Rattle.layout.specs.Layout.{nodes}
use Rattle.scheme.specs.Rule.{words_at, top_at, meet_at}
use Rattle.scheme.proofs.Rule.{meet_is_left}
use Rattle.forest.specs.Forest.{up, Forest, Linked, Found, Rooted, Hung, TwoRoots}
use Rattle.forest.specs.Pairs.{PairsBelow, notes_of}
use Rattle.forest.proofs.Links.{by_eq, up_same, up_other, linked-into, linked-outof, linked-joins, root_reaches, reach-same, shorter-into, shorter-outof}
use Rattle.qualifiers.specs.Classes.{Qualifiers, bound_at, Classes, Untouched, Imposed, United, ClassOf, UnitedAll, qualifiers_of}
use Rattle.qualifiers.specs.declared.Apart.{Apart}
use Rattle.qualifiers.proofs.Bounds.{sinks_along, put_under_keeps, put_under_stays, lowered, lowered_stays}

-- A node put directly under its root: roots, bounds and readings stay.
pub record Shortened (R p p' : List ℕ) (x r : ℕ) : Type 0 where
  pub low : r ≤ x
  pub under : up p' x ≡ r
  pub root : up p' r ≡ r
  pub roots : (z : ℕ) → up p z ≡ z → up p' z ≡ z
  pub classes : (b : List ℕ) → Classes R (qualifiers_of p b) → Classes R (qualifiers_of p' b)
  pub into : (v : ℕ → ℕ) → Linked p v → Linked p' v
  pub outof : (v : ℕ → ℕ) → Linked p' v → Linked p v

found_shortened : {R p : List ℕ} → Forest p → (x r : ℕ) → x < nodes → Found p x r → Shortened R p (set p x r) x r
found_shortened {R} {p} f x r node found =
    let stays : (z : ℕ) → up p z ≡ z → up (set p x r) z ≡ z =
    λ z root. by_eq z x (λ e. cc (up_same f x r node, root_reaches {x = x} {r = r} (cc) found.reached)) (λ n. up_other f x r node z n ∙ root) in
    record {
      low = found.low;
      under = up_same f x r node;
      root = stays r found.root;
      roots = stays;
      classes = λ b k. put_under_keeps k x r node found.low (λ h. root_reaches (k.constants x h) found.reached) (sinks_along k node found.reached);
      into = shorter-into f node found;
      outof = shorter-outof f node found;
    }

pub shortened : {R p p' b : List ℕ} {x r : ℕ} → Classes R (qualifiers_of p b) → x < nodes → Rooted p p' x r → Shortened R p p' x r
shortened {R} {p} {x = x} {r} k node rooted = subst (λ (l : List ℕ). Shortened R p l x r) (sym rooted.shorter) (found_shortened k.forest x r node rooted.found)

module _ {R p b : List ℕ} (k : Classes R (qualifiers_of p b)) (low high : ℕ) (roots : TwoRoots p low high) where
  joined : words_at R ≤ high → United R (qualifiers_of p b) (qualifiers_of (set p high low) (set b low (meet_at R (bound_at b low) (bound_at b high)))) low high true
  joined free =
      let l = lowered k.lattice b k.size k.codes low (bound_at b high) (omega (arith, roots.less, roots.node)) (k.codes high roots.node) in
      let joins : (v : ℕ → ℕ) → Linked (set p high low) v → v high ≡ v low = linked-joins k.forest high low roots.node in
      record {
        classes =
            put_under_keeps (l.classes p k roots.low_root) high low roots.node
            (omega (arith, roots.less))
            (λ constant. absurd (omega arith))
            (cc (l.fits, l.off high (λ e. omega (arith, roots.less))));
        into = λ _ v linked e. linked-into k.forest high low roots.node v linked (sym e);
        outof = λ _ v linked. (linked-outof k.forest high low roots.node v linked (ap v (sym roots.high_root)), sym (joins v linked));
        bounds_into = λ _ v linked bounded. l.into v bounded (cc (bounded high roots.node, joins v linked));
        bounds_outof = λ _ v linked bounded. (l.outof v bounded).0;
        clash = λ e. absurd (true≢false e);
        stays = λ m below u. put_under_stays k.forest high low roots.node below.1 (lowered_stays l below.0 u);
      }

  -- RAND bounds nothing, so the smaller root keeps its bound.
  joined_rand : words_at R ≤ high → bound_at b high ≡ top_at R → United R (qualifiers_of p b) (qualifiers_of (set p high low) b) low high true
  joined_rand free rand =
      let code = k.codes low (omega (arith, roots.less, roots.node)) in
      let same : meet_at R (bound_at b low) (bound_at b high) ≡ bound_at b low =
      ap (meet_at R (bound_at b low)) rand ∙ eqb-true _ _ (meet_is_left k.lattice (bound_at b low) (top_at R) code k.lattice.top_code ∙ k.lattice.top_greatest (bound_at b low) code) in
      subst (λ (b' : List ℕ). United R (qualifiers_of p b) (qualifiers_of (set p high low) b') low high true) (ap (set b low) same ∙ set-get_or b low 0) (joined free)

-- What `join` and `unite` answer: the root of the class that they made, or that the two classes stay apart.
abbrev Made : (R p b p' b' : List ℕ) (x y at : ℕ) → Result ℕ Apart → Type 0
Made R p b p' b' x y at r = United R (qualifiers_of p b) (qualifiers_of p' b') x y (is_ok r) × ClassOf b (qualifiers_of p' b') at r

made_root : {R p b p' b' : List ℕ} {x y at r : ℕ} → r < nodes → United R (qualifiers_of p b) (qualifiers_of p' b') x y true → up p' r ≡ r → ((v : ℕ → ℕ) → Linked p' v → v r ≡ v at) → r ≤ at →
    ((z : ℕ) → (z ≡ r → ⊥) → bound_at b' z ≡ bound_at b z) → Made R p b p' b' x y at (Ok r)
made_root node u root holds low others = (u, record { node = node; root = root; holds = holds; low = low; others = others })

module _ {R p b : List ℕ} (k : Classes R (qualifiers_of p b)) (low high : ℕ) (roots : TwoRoots p low high) where
  put_low : {b' : List ℕ} → United R (qualifiers_of p b) (qualifiers_of (set p high low) b') low high true → ((z : ℕ) → (z ≡ low → ⊥) → bound_at b' z ≡ bound_at b z) → Made R p b (set p high low) b' low high low (Ok low)
  put_low u others =
      made_root (omega (arith, roots.less, roots.node)) u
      (up_other k.forest high low roots.node low (λ e. omega (arith, roots.less)) ∙ roots.low_root)
      (λ v _. refl) (omega arith) others

  pub join_meets : words_at R ≤ high → Made R p b (set p high low) (set b low (meet_at R (bound_at b low) (bound_at b high))) low high low (Ok low)
  join_meets free = put_low (joined k low high roots free) (λ z n. get_or-set_other b low z _ 0 n)

united_turned : {R p b p' b' : List ℕ} {x y : ℕ} {r : Bool} → United R (qualifiers_of p b) (qualifiers_of p' b') y x r → United R (qualifiers_of p b) (qualifiers_of p' b') x y r
united_turned u =
    record {
      classes = u.classes;
      into = λ done v linked e. u.into done v linked (sym e);
      outof = λ done v linked. let out = u.outof done v linked in (out.0, sym out.1);
      bounds_into = u.bounds_into;
      bounds_outof = u.bounds_outof;
      clash = λ two v own linked e. u.clash two v own linked (sym e);
      stays = λ m below. u.stays m (below.1, below.0);
    }

-- Both nodes were put under their roots, which the readings do not tell from them.
module _ {R p p₁ p₂ b : List ℕ} {x y a c : ℕ} (asked : Classes R (qualifiers_of p b) × ((x < nodes) × (y < nodes))) (one : Rooted p p₁ x a) (two : Rooted p₁ p₂ y c) where
  first : Shortened R p p₁ x a
  first = shortened asked.0 asked.1.0 one

  second : Shortened R p₁ p₂ y c
  second = shortened (first.classes b asked.0) asked.1.1 two

  kept : Classes R (qualifiers_of p₂ b)
  kept = second.classes b (first.classes b asked.0)

  into_both : (v : ℕ → ℕ) → Linked p v → Linked p₂ v
  into_both v linked = second.into v (first.into v linked)

  outof_both : (v : ℕ → ℕ) → Linked p₂ v → Linked p v
  outof_both v linked = first.outof v (second.outof v linked)

  stays_both : {m : ℕ} → Untouched R m (qualifiers_of p b) → Untouched R m (qualifiers_of p₂ b)
  stays_both u = record { own = λ z from h. second.roots z (first.roots z (u.own z from h)); unbound = u.unbound }

  same_x : (v : ℕ → ℕ) → Linked p₂ v → v x ≡ v a
  same_x v linked = second.outof v linked x asked.1.0 ∙ ap v first.under

  same_y : (v : ℕ → ℕ) → Linked p₂ v → v y ≡ v c
  same_y v linked = linked y asked.1.1 ∙ ap v second.under

  -- What `join` asks, by which root is the smaller.
  pub roots_rising : a < c → Classes R (qualifiers_of p₂ b) × TwoRoots p₂ a c
  roots_rising less =
      (kept, record { less = less; node = omega (arith, second.low, asked.1); low_root = second.roots a first.root; high_root = second.root })

  pub roots_falling : c < a → Classes R (qualifiers_of p₂ b) × TwoRoots p₂ c a
  roots_falling less =
      (kept, record { less = less; node = omega (arith, first.low, asked.1); low_root = second.root; high_root = second.roots a first.root })

  united_already : a ≡ c → United R (qualifiers_of p b) (qualifiers_of p₂ b) x y true
  united_already e =
      record {
        classes = kept;
        into = λ _ v linked _. into_both v linked;
        outof = λ _ v linked. (outof_both v linked, same_x v linked ∙ ap v e ∙ sym (same_y v linked));
        bounds_into = λ _ v linked bounded. bounded;
        bounds_outof = λ _ v linked bounded. bounded;
        clash = λ e. absurd (true≢false e);
        stays = λ m _. stays_both;
      }

  united_roots : {p' b' : List ℕ} {r : Bool} → United R (qualifiers_of p₂ b) (qualifiers_of p' b') a c r → United R (qualifiers_of p b) (qualifiers_of p' b') x y r
  united_roots u =
      let up_to : (v : ℕ → ℕ) → Linked p₂ v → v x ≡ v y → v a ≡ v c = λ v linked e. sym (same_x v linked) ∙ e ∙ same_y v linked in
      record {
        classes = u.classes;
        into = λ done v linked e. let after = into_both v linked in u.into done v after (up_to v after e);
        outof = λ done v linked.
            let out = u.outof done v linked in
            (outof_both v out.0, same_x v out.0 ∙ out.1 ∙ sym (same_y v out.0));
        bounds_into = u.bounds_into;
        bounds_outof = u.bounds_outof;
        clash = λ two v own linked e. let after = into_both v linked in u.clash two v own after (up_to v after e);
        stays = λ m below untouched. u.stays m (omega (arith, first.low, below), omega (arith, second.low, below)) (stays_both untouched);
      }

  -- The class's root is that of y as well.
  class_up : (p' b' : List ℕ) {at : ℕ} (r : Result ℕ Apart) → at ≤ c → (is_ok r ≡ true → (v : ℕ → ℕ) → Linked p' v → (v at ≡ v y)) → ClassOf b (qualifiers_of p' b') at r → ClassOf b (qualifiers_of p' b') y r
  class_up p' b' (Ok r) low same found =
      record {
        node = found.node;
        root = found.root;
        holds = λ v linked. found.holds v linked ∙ same refl v linked;
        low = omega (arith, found.low, second.low);
        others = found.others;
      }
  class_up p' b' (Err e) low same found = found

  pub unite_already : a ≡ c → Made R p b p₂ b x y y (Ok a)
  unite_already e =
      made_root (omega (arith, first.low, asked.1)) (united_already e) (second.roots a first.root)
      (λ v linked. ap v e ∙ sym (same_y v linked)) (omega (arith, second.low)) (λ z _. refl)

  pub unite_rising : {p' b' : List ℕ} (r : Result ℕ Apart) → a < c → Made R p₂ b p' b' a c a r → Made R p b p' b' x y y r
  unite_rising r less made = (
    united_roots made.0,
    class_up _ _ r (omega arith) (λ done v linked. let out = made.0.outof done v linked in out.1 ∙ sym (same_y v out.0)) made.1,
  )

  pub unite_falling : {p' b' : List ℕ} (r : Result ℕ Apart) → Made R p₂ b p' b' c a c r → Made R p b p' b' x y y r
  unite_falling r made = (
    united_roots (united_turned made.0),
    class_up _ _ r (omega arith) (λ done v linked. sym (same_y v (made.0.outof done v linked).0)) made.1,
  )

-- A node made one with another's root is made one with the other.
united_below : {R p b p' b' : List ℕ} {x y r : ℕ} → Found p y r → United R (qualifiers_of p b) (qualifiers_of p' b') x r true → United R (qualifiers_of p b) (qualifiers_of p' b') x y true
united_below found u =
    record {
      classes = u.classes;
      into = λ done v linked e. u.into done v linked (e ∙ reach-same v linked found.reached);
      outof = λ done v linked. let out = u.outof done v linked in (out.0, out.1 ∙ sym (reach-same v out.0 found.reached));
      bounds_into = u.bounds_into;
      bounds_outof = u.bounds_outof;
      clash = λ e. absurd (true≢false e);
      stays = λ m below. u.stays m (below.0, omega (arith, found.low, below));
    }

-- What holds of every reading is imposed by nothing.
pub imposed_none : {R : List ℕ} {Q : Qualifiers} {E : (ℕ → ℕ) → Type 0} {Below : ℕ → Type 0} → Classes R Q → ((v : ℕ → ℕ) → E v) → Imposed R Q Q E Below true
imposed_none k holds =
    record {
      classes = k;
      into = λ _ v linked _. linked;
      outof = λ _ v linked. (linked, holds v);
      bounds_into = λ _ v linked bounded. bounded;
      bounds_outof = λ _ v linked bounded. bounded;
      clash = λ e. absurd (true≢false e);
      stays = λ m _ untouched. untouched;
    }

-- A root that is put under itself stays a class of its own.
united_self : {R p p' b : List ℕ} {x : ℕ} → Classes R (qualifiers_of p b) → up p x ≡ x → Hung p p' x x → United R (qualifiers_of p b) (qualifiers_of p' b) x x true
united_self {R} {p} {b = b} {x} k root hung =
    subst (λ (l : List ℕ). United R (qualifiers_of p b) (qualifiers_of l b) x x true)
    (sym (hung.under ∙ ap (set p x) (root_reaches root hung.found.reached ∙ sym root) ∙ set-get_or p x 0))
    (imposed_none k (λ v. refl))

module _ {R p p' b : List ℕ} {x y : ℕ} (k : Classes R (qualifiers_of p b)) (free : words_at R ≤ x) (node : x < nodes) (root : up p x ≡ x) (unbound : bound_at b x ≡ top_at R) where
  new_above : y < x → Hung p p' x y → United R (qualifiers_of p b) (qualifiers_of p' b) x y true
  new_above less hung =
      let roots : TwoRoots p hung.root x =
      record { less = omega (arith, hung.found.low); node = node; low_root = hung.found.root; high_root = root } in
      subst (λ (l : List ℕ). United R (qualifiers_of p b) (qualifiers_of l b) x y true) (sym hung.under) (united_below hung.found (united_turned (joined_rand k hung.root x roots free unbound)))

  -- A new node, which nothing bounds, was put under the root above a smaller one or above itself.
  pub new_alike : y ≤ x → Hung p p' x y → United R (qualifiers_of p b) (qualifiers_of p' b) x y true
  new_alike low hung =
      by_eq y x
      (λ e. subst (λ (z : ℕ). United R (qualifiers_of p b) (qualifiers_of p' b) x z true) (sym e) (united_self k root (subst (Hung p p' x) e hung)))
      (λ n. new_above (omega arith) hung)

-- Fewer nodes are untouched.
pub untouched_more : {R p b : List ℕ} {m n : ℕ} → m ≤ n → Untouched R m (qualifiers_of p b) → Untouched R n (qualifiers_of p b)
untouched_more more u = record { own = λ z from. u.own z (omega arith); unbound = λ z from. u.unbound z (omega arith) }

-- E was imposed and then F: together G, which asks for both. Where F clashes G may ask for more.
pub imposed_both : {R : List ℕ} {Q Q₁ Q₂ : Qualifiers} {E F G : (ℕ → ℕ) → Type 0} {B C D : ℕ → Type 0} {r : Bool} → Imposed R Q Q₁ E B true → Imposed R Q₁ Q₂ F C r
    → ((v : ℕ → ℕ) → G v → E v × F v) → (r ≡ true → (v : ℕ → ℕ) → E v → F v → G v) → ((m : ℕ) → D m → B m × C m) → Imposed R Q Q₂ G D r
imposed_both one two split join below =
    record {
      classes = two.classes;
      into = λ done v linked g. let parts = split v g in two.into done v (one.into refl v linked parts.0) parts.1;
      outof = λ done v linked.
          let last = two.outof done v linked in
          let out = one.outof refl v last.0 in
          (out.0, join done v out.1 last.1);
      bounds_into = λ done v linked bounded. two.bounds_into done v linked (one.bounds_into refl v (two.outof done v linked).0 bounded);
      bounds_outof = λ done v linked bounded. one.bounds_outof refl v (two.outof done v linked).0 (two.bounds_outof done v linked bounded);
      clash = λ apart v own linked g. let parts = split v g in two.clash apart v own (one.into refl v linked parts.0) parts.1;
      stays = λ m d untouched. let parts = below m d in two.stays m parts.1 (one.stays m parts.0 untouched);
    }

module _ {R p b p₁ b₁ p₂ b₂ left right : List ℕ} {i : ℕ} {r : Bool} (all : UnitedAll R (qualifiers_of p b) (qualifiers_of p₁ b₁) (notes_of left right) i true) (u : United R (qualifiers_of p₁ b₁) (qualifiers_of p₂ b₂) (get_or left i 0) (get_or right i 0) r) where
  -- The pairs before i lie below m, and so does pair i.
  below_on : {n : ℕ} → i < n → (m : ℕ) → PairsBelow m (notes_of left right) n → PairsBelow m (notes_of left right) i × ((get_or left i 0 < m) × (get_or right i 0 < m))
  below_on less m below = (
    record { left_below = λ j h. below.left_below j (omega arith); right_below = λ j h. below.right_below j (omega arith) },
    (below.left_below i less, below.right_below i less),
  )

  pub all_more : r ≡ true → UnitedAll R (qualifiers_of p b) (qualifiers_of p₂ b₂) (notes_of left right) (i + 1) true
  all_more done =
      imposed_both all (rw done at u)
      (λ v alike. ((λ j h. alike j (omega arith)), alike i (omega arith)))
      (λ _ v. below_more (λ j. v (get_or left j 0) ≡ v (get_or right j 0)) i)
      (below_on (omega arith))

  pub all_clash : {n : ℕ} → i < n → r ≡ false → UnitedAll R (qualifiers_of p b) (qualifiers_of p₂ b₂) (notes_of left right) n false
  all_clash less two =
      imposed_both all (rw two at u)
      (λ v alike. ((λ j h. alike j (omega arith)), alike i less))
      (λ e. absurd (false≢true e))
      (below_on less)
