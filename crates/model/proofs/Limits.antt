-- The machine's lists never pass 64, 64 and 256: an add to a full list is refused with 3.
use Prim.Native.Nat.{ℕ, ◌+◌, ◌≤◌}
use native.Mathlib.Omega.{arith}
use mathlib.Core.Bool.{Bool, true}
use mathlib.Core.List.{List, ◌∷◌}
use mathlib.Core.Path.{◌≡◌}
use lib.Dec.{ltb, leb}
use Rattle.scheme.specs.Schemes.{SchemeTable, Sound}
use Rattle.scheme.proofs.Schemes.{sound_short}
use Rattle.model.specs.Lists.{all_of}
use lib.ListN.{length, length-append, length-take, length-set}
use borrow.Author.Tests.{ltb-true}
use Rattle.model.specs.Line.{line_of}
use Rattle.model.specs.Machine.{Machine, fresh_machine, first_failing, type_refusal, param_refusal, term_refusal, entered, added, redeclared, taken_back}
use Rattle.model.specs.WellFormed.{WellFormed}
use Rattle.model.specs.Session.{Call, Outcome, Answers, adds, redeclares, takes_back, infers}
use Rattle.model.specs.declared.Line.{Line}
use Rattle.model.specs.declared.Line.TheVariants.{TypeLine, ParamLine, TermLine, NoForm}
use Rattle.model.proofs.Checks.{passed, settled_keeps}

pub record Within (m : Machine) : Type 0 where
  pub types : length m.types ≤ 64
  pub params : length m.params ≤ 64
  pub terms : length m.terms ≤ 256
  pub names : all_of (λ s. leb (length s) 5) m.schemes.names ≡ true

pub well_formed_within : (m : Machine) → WellFormed m → Within m
well_formed_within m w = record { types = w.types_fit; params = w.params_fit; terms = w.terms_fit; names = sound_short w.schemes_sound }

pub fresh_within : (T : SchemeTable) → Sound T → Within (fresh_machine T)
fresh_within T sound = record { names = sound_short sound; types = omega arith; params = omega arith; terms = omega arith }

-- An add that is accepted found room: its second check is that of the list's length.
room : (own : Bool) (n limit : ℕ) (rest : List (ℕ × Bool)) → first_failing ((2, own) ∷ (3, ltb n limit) ∷ rest) ≡ 0 → n + 1 ≤ limit
room own n limit rest e = omega (arith, ltb-true n limit (passed 3 (ltb n limit) rest (omega arith) (passed 2 own ((3, ltb n limit) ∷ rest) (omega arith) e).1).0)

module _ (m : Machine) (w : Within m) where
  pub entered_within : (line : Line) → Within (entered m line).machine
  unfolding entered type_refusal param_refusal term_refusal
  entered_within (TypeLine i form) =
      settled_keeps Within m _ _ w (λ e. record { names = w.names; types = simp length-append (room _ _ _ _ e); params = w.params; terms = w.terms })
  entered_within (ParamLine p param) =
      settled_keeps Within m _ _ w (λ e. record { names = w.names; types = w.types; params = simp length-append (room _ _ _ _ e); terms = w.terms })
  entered_within (TermLine i term) =
      settled_keeps Within m _ _ w (λ e. record { names = w.names; types = w.types; params = w.params; terms = simp length-append (room _ _ _ _ e) })
  entered_within NoForm = settled_keeps Within m _ _ w (λ e. w)

  pub answers_within : {call : Call} {o : Outcome} {after : Machine} → Answers m call o after → Within after
  unfolding added redeclared taken_back
  answers_within (adds {line}) = entered_within (line_of m.schemes.names line)
  answers_within redeclares = settled_keeps Within m _ _ w (λ e. record { names = w.names; types = w.types; params = simp length-set w.params; terms = w.terms })
  answers_within takes_back = settled_keeps Within m _ _ w (λ e. record { names = w.names; types = w.types; params = w.params; terms = simp length-take (omega arith) })
  answers_within (infers i) = w
