-- The names of an accepted scheme table are in capitals, so that no byte below `A` stands in one.
use Prim.Native.Nat.{ℕ, ◌≤◌, ◌<◌}
use native.Mathlib.Omega.{arith}
use mathlib.Core.Bool.{true, false, not, ◌&&◌, ◌||◌}
use mathlib.Core.List.{List, [], ◌∷◌}
use mathlib.Core.Path.{◌≡◌, refl, sym, ap, ap₂, ◌∙◌}
use lib.Dec.{leb}
use lib.ListN.{length}
use borrow.Author.Tests.{leb-true, ne_eqb}
use Rattle.scheme.specs.Lists.{bytes, same, all_of}
use Rattle.scheme.specs.Schemes.{is_capital, is_name}
use Rattle.scheme.proofs.Every.{and_left, and_right, and_both}
use Rattle.model.specs.Lists.{contains}
use Rattle.model.specs.Word.{capitals}
use Rattle.model.proofs.Lists.{same_self}
use Rattle.model.proofs.Capitals.{capital_before}

name_letters : (s : List ℕ) → is_name s ≡ true → all_of is_capital s ≡ true
unfolding is_name
name_letters s h = and_right (leb 1 (length s) && leb (length s) 5) _ (and_left _ (not (same s (bytes "PLAIN"))) h)

letter_range : (b : ℕ) → is_capital b ≡ true → (65 ≤ b) × (b ≤ 90)
letter_range b h = (leb-true 65 b (and_left _ (leb b 90) h), leb-true b 90 (and_right (leb 65 b) _ h))

letters_stay : (s : List ℕ) → all_of is_capital s ≡ true → capitals s ≡ s
letters_stay [] h = refl
letters_stay (b ∷ bs) h =
    let range = letter_range b (and_left _ (all_of is_capital bs) h) in
    ap₂ ◌∷◌ (sym (capital_before b (omega (arith, range.1)))) (letters_stay bs (and_right (is_capital b) _ h))

letters_without : (c : ℕ) → c < 65 → (s : List ℕ) → all_of is_capital s ≡ true → contains c s ≡ false
letters_without c low [] h = refl
letters_without c low (b ∷ bs) h =
    let range = letter_range b (and_left _ (all_of is_capital bs) h) in
    ap₂ ◌||◌ (ne_eqb c b (λ e. omega (arith, range.0))) (letters_without c low bs (and_right (is_capital b) _ h))

-- The same of all names, as tests.
pub names_stay : (names : List (List ℕ)) → all_of is_name names ≡ true → all_of (λ s. same (capitals s) s) names ≡ true
names_stay [] h = refl
names_stay (s ∷ names) h =
    let stays = letters_stay s (name_letters s (and_left _ (all_of is_name names) h)) in
    and_both _ _ (ap (λ (t : List ℕ). same t s) stays ∙ same_self s) (names_stay names (and_right (is_name s) _ h))

pub names_without : (c : ℕ) → c < 65 → (names : List (List ℕ)) → all_of is_name names ≡ true → all_of (λ s. not (contains c s)) names ≡ true
names_without c low [] h = refl
names_without c low (s ∷ names) h =
    and_both _ _ (ap not (letters_without c low s (name_letters s (and_left _ (all_of is_name names) h)))) (names_without c low names (and_right (is_name s) _ h))
