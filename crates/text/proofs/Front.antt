-- A text is decided by its front: 384 adds at most are accepted, and a line of more than 64 bytes is refused for its first 65.
use Prim.Native.Nat.{ℕ, zero, suc, ◌+◌, ◌-◌, ◌*◌, ◌≤◌, ◌<◌}
use native.Mathlib.Omega.{arith}
use native.Mathlib.Decide.{dec_le}
use mathlib.Core.Bool.{Bool, true, false, cond}
use mathlib.Core.List.{List, [], ◌∷◌}
use mathlib.Core.Path.{◌≡◌, refl, sym, ap, ◌∙◌}
use lib.Dec.{eqb}
use lib.ListN.{length, take, drop, length-take}
use lib.Seq.{take-nil, take-take}
use borrow.Author.Tests.{eqb-true}
use Rattle.scheme.specs.Schemes.{SchemeTable, Sound}
use Rattle.model.specs.Machine.{Machine, fresh_machine, added}
use Rattle.model.specs.Session.{adds}
use Rattle.model.specs.Text.{lines_of, stopped, load_from, load, Prints, Returns}
use Rattle.model.proofs.Limits.{Within, fresh_within, answers_within}
use Rattle.model.proofs.Lists.{drop-take}
use Rattle.model.proofs.LongLines.{long_refused}
use Rattle.lines.specs.Lines.{line_length}
use Rattle.lines.proofs.Lines.{line_length_most, line_length_front, lines-first}
use Rattle.text.proofs.Accepted.{entries, fresh_entries, added_longer, entries_most}
use Rattle.text.proofs.Turns.{load_line}

-- The first line of a front that holds it with its line feed.
front_first : (room : ℕ) (s : List ℕ) → 0 < length s → line_length s < room →
    lines_of (take room s) ≡ take (line_length s) s ∷ lines_of (take (room - suc (line_length s)) (drop (suc (line_length s)) s))
front_first room s h fits =
    let some : 0 < length (take room s) = simp length-take (omega arith) in
    let same : line_length (take room s) ≡ line_length s = omega (arith, line_length_front room s) in
    let inside : line_length s ≤ room = omega arith in
    lines-first (take room s) some ∙ rw (same, take-take (line_length s) room s inside, drop-take (suc (line_length s)) room s)

-- "line longer than 64 bytes"
long_stops : (m : Machine) (n : ℕ) (s : List ℕ) → 64 < line_length s → load_from m n (lines_of s) ≡ stopped 1 n
long_stops m n s h =
    let within : line_length s ≤ length s = line_length_most s in
    let long : 64 < length (take (line_length s) s) = simp length-take (omega arith) in
    ap (load_from m n) (lines-first s (omega arith)) ∙ load_line m n (take (line_length s) s) _ ∙ simp (long_refused m (take (line_length s) s) long)

-- The same line, and then the same where it is accepted.
line_same : (m : Machine) (n : ℕ) (s : List ℕ) (rest rest' : List (List ℕ)) →
    ((added m s).number ≡ 0 → load_from (added m s).machine (n + 1) rest ≡ load_from (added m s).machine (n + 1) rest') → load_from m n (s ∷ rest) ≡ load_from m n (s ∷ rest')
line_same m n s rest rest' same = load_line m n s rest ∙ by (eqb (added m s).number 0) refl ∙ sym (load_line m n s rest')
  where
    by : (t : Bool) → eqb (added m s).number 0 ≡ t →
        cond t (load_from (added m s).machine (n + 1) rest) (stopped (added m s).number n) ≡ cond t (load_from (added m s).machine (n + 1) rest') (stopped (added m s).number n)
    by true e = same (eqb-true (added m s).number 0 e)
    by false e = refl

-- One line, where the front of each rest decides it.
abbrev Decided : Machine → ℕ → ℕ → Type 0
Decided m n least = (room : ℕ) (s : List ℕ) → least ≤ room → load_from m n (lines_of (take room s)) ≡ load_from m n (lines_of s)

first_decided : (m : Machine) (n k : ℕ) → ((s : List ℕ) → (added m s).number ≡ 0 → Decided (added m s).machine (n + 1) k) → Decided m n (k + 65)
first_decided m n k rest room [] h = ap (λ (s : List ℕ). load_from m n (lines_of s)) (take-nil room)
first_decided m n k rest room (b ∷ bs) h = go (b ∷ bs) (omega arith) (dec_le (line_length (b ∷ bs)) 64)
  where
    go : (s : List ℕ) → 0 < length s → Dec (line_length s ≤ 64) → load_from m n (lines_of (take room s)) ≡ load_from m n (lines_of s)
    go s some (yes short) =
        ap (load_from m n) (front_first room s some (omega arith))
        ∙ line_same m n (take (line_length s) s) _ _ (λ e. rest (take (line_length s) s) e (room - suc (line_length s)) (drop (suc (line_length s)) s) (omega arith))
        ∙ sym (ap (load_from m n) (lines-first s some))
    go s some (no long) = long_stops m n (take room s) (omega (arith, line_length_front room s)) ∙ sym (long_stops m n s (omega arith))

-- With room for k entries, k + 1 lines decide.
decided : (k : ℕ) (m : Machine) (n : ℕ) → Within m → entries m + k ≡ 384 → Decided m n (k * 65 + 65)
decided zero m n w full =
    first_decided m n 0 λ s e.
    let z : ⊥ = omega (arith, full, added_longer m s e, entries_most (added m s).machine (answers_within m w adds)) in
    absurd z
decided (suc k) m n w left =
    first_decided m n (suc k * 65) λ s e room rest h.
    decided k (added m s).machine (n + 1) (answers_within m w adds) (omega (arith, left, added_longer m s e)) room rest (omega arith)

-- 385 lines of at most 64 bytes and a line feed.
pub load-front : (T : SchemeTable) → Sound T → (text : List ℕ) → load T (take 25025 text) ≡ load T text
load-front T sound text = decided 384 (fresh_machine T) 1 (fresh_within T sound) (omega (arith, fresh_entries T)) 25025 text (omega arith)

-- What is printed and returned of a text rests on what its lines load as, and on nothing else of it.
module _ {T : SchemeTable} {text text' : List ℕ} (loads : load T text ≡ load T text') where
  pub prints_loaded : {out : List ℕ} → Prints T text out → Prints T text' out
  prints_loaded (Prints.refused_add e) = Prints.refused_add (sym loads ∙ e)
  prints_loaded (Prints.refused_inference e j n) = Prints.refused_inference (sym loads ∙ e) j n
  prints_loaded (Prints.reported e j) = Prints.reported (sym loads ∙ e) j

  pub returns_loaded : {buffer b : List ℕ} {n : ℕ} → Returns T text buffer n b → Returns T text' buffer n b
  returns_loaded (Returns.short h) = Returns.short h
  returns_loaded (Returns.refused_add h e) = Returns.refused_add h (sym loads ∙ e)
  returns_loaded (Returns.refused_inference h e i n) = Returns.refused_inference h (sym loads ∙ e) i n
  returns_loaded (Returns.reported h e i z) = Returns.reported h (sym loads ∙ e) i z

module _ {T : SchemeTable} (sound : Sound T) {text : List ℕ} where
  pub prints_front : {out : List ℕ} → Prints T (take 25025 text) out → Prints T text out
  prints_front = prints_loaded (load-front T sound text)

  pub returns_front : {buffer b : List ℕ} {n : ℕ} → Returns T (take 25025 text) buffer n b → Returns T text buffer n b
  returns_front = returns_loaded (load-front T sound text)
