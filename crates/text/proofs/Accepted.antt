-- An accepted add makes one of the lists longer by one, so that no more than 384 are accepted.
use Prim.Native.Nat.{ℕ, ◌+◌, ◌≤◌}
use native.Mathlib.Omega.{arith}
use mathlib.Core.List.{List}
use mathlib.Core.Path.{◌≡◌, refl, ap}
use lib.ListN.{length, length-append}
use borrow.Author.Tests.{eq-eqb}
use Rattle.scheme.specs.Schemes.{SchemeTable}
use Rattle.model.specs.Line.{line_of}
use Rattle.model.specs.Machine.{Machine, fresh_machine, Change, settled, entered, added}
use Rattle.model.specs.declared.Line.{Line}
use Rattle.model.specs.declared.Line.TheVariants.{TypeLine, ParamLine, TermLine, NoForm}
use Rattle.model.proofs.Limits.{Within}
use Rattle.model.proofs.LongLines.{no_form_entered}

-- How many entries stand.
unfoldable pub entries : Machine → ℕ
entries m = length m.types + length m.params + length m.terms

pub fresh_entries : (T : SchemeTable) → entries (fresh_machine T) ≡ 0
unfolding entries
fresh_entries T = refl

settled_zero : (m : Machine) (number : ℕ) (after : Machine) → (settled m number after).number ≡ 0 → (settled m number after).machine ≡ after
unfolding settled
settled_zero m number after e = simp (eq-eqb number 0 e)

entered_longer : (m : Machine) (line : Line) → (entered m line).number ≡ 0 → entries (entered m line).machine ≡ entries m + 1
unfolding entered entries
entered_longer m (TypeLine i form) e = simp (settled_zero m _ _ e, length-append) (omega arith)
entered_longer m (ParamLine p param) e = simp (settled_zero m _ _ e, length-append) (omega arith)
entered_longer m (TermLine i term) e = simp (settled_zero m _ _ e, length-append) (omega arith)
entered_longer m NoForm e = let z : ⊥ = omega (arith, ap (λ (c : Change). c.number) (no_form_entered m)) in absurd z

pub added_longer : (m : Machine) (s : List ℕ) → (added m s).number ≡ 0 → entries (added m s).machine ≡ entries m + 1
unfolding added
added_longer m s e = entered_longer m (line_of m.schemes.names s) e

pub entries_most : (m : Machine) → Within m → entries m ≤ 384
unfolding entries
entries_most m w = omega (arith, w.types, w.params, w.terms)
