-- An add of more than 64 bytes is refused with 1 and changes nothing.
use Prim.Native.Nat.{ℕ, ◌<◌}
use mathlib.Core.List.{List}
use mathlib.Core.Path.{◌≡◌, refl, ap, ◌∙◌}
use lib.ListN.{length}
use borrow.Author.Tests.{lt-leb}
use Rattle.model.specs.Line.{choose, line_of}
use Rattle.model.specs.Machine.{Machine, Change, settled, entered, added}
use Rattle.model.specs.declared.Line.TheVariants.{NoForm}

-- None of the forms is refused with 1, and nothing changes.
pub no_form_entered : (m : Machine) → entered m NoForm ≡ record { number = 1; machine = m }
unfolding entered settled
no_form_entered m = refl

-- "line longer than 64 bytes"
long_no_form : (names : List (List ℕ)) (s : List ℕ) → 64 < length s → line_of names s ≡ NoForm
unfolding line_of choose
long_no_form names s h = simp (lt-leb (length s) 64 h)

pub long_entered : (m : Machine) (s : List ℕ) → 64 < length s → added m s ≡ record { number = 1; machine = m }
unfolding added
long_entered m s h = ap (entered m) (long_no_form m.schemes.names s h) ∙ no_form_entered m

pub long_refused : (m : Machine) (s : List ℕ) → 64 < length s → (added m s).number ≡ 1
long_refused m s h = ap (λ (c : Change). c.number) (long_entered m s h)
