-- The entries of a machine as bytes, ten for each of 64 type rows, 64 parameters and 256 term rows.
use Rattle.std.specs.Prelude.{ℕ, zero, suc, ◌+◌, ◌-◌, ◌*◌, ◌/◌, ◌%◌, cond, List, [], ◌∷◌, ltb, length}
use Rattle.std.proofs.lemmas.List.Edits.{sets}
use Rattle.model.specs.Machine.{Machine, type_at, param_at, term_at}
use Rattle.model.specs.declared.TypeForm.{TypeForm}
use Rattle.model.specs.declared.TypeForm.TheVariants.{Int, Any, Arrow}
use Rattle.model.specs.declared.Param.{Param}
use Rattle.model.specs.declared.Term.{Term}
use Rattle.model.specs.declared.Term.TheVariants.{Lam, App, Op, Var, Num, Enc}

-- Where no entry stands.
abbrev pub blank : List ℕ
blank = 0 ∷ 0 ∷ 0 ∷ 0 ∷ 0 ∷ 0 ∷ 0 ∷ 0 ∷ 0 ∷ 0 ∷ []

-- A kind, a code, and two numbers of two bytes, or one of four, the lowest byte first.
abbrev pub pair_bytes : ℕ → ℕ → ℕ → ℕ → List ℕ
pair_bytes kind code x y = kind ∷ code ∷ (x % 256) ∷ (x / 256) ∷ (y % 256) ∷ (y / 256) ∷ 0 ∷ 0 ∷ 0 ∷ 0 ∷ []

abbrev pub number_bytes : ℕ → ℕ → ℕ → List ℕ
number_bytes kind code n = pair_bytes kind code (n % 65536) (n / 65536)

abbrev pub type_bytes : TypeForm → List ℕ
type_bytes Int = 1 ∷ 0 ∷ 0 ∷ 0 ∷ 0 ∷ 0 ∷ 0 ∷ 0 ∷ 0 ∷ 0 ∷ []
type_bytes Any = 2 ∷ 0 ∷ 0 ∷ 0 ∷ 0 ∷ 0 ∷ 0 ∷ 0 ∷ 0 ∷ 0 ∷ []
type_bytes (Arrow q t q' t') = 3 ∷ q ∷ (t % 256) ∷ (t / 256) ∷ q' ∷ (t' % 256) ∷ (t' / 256) ∷ 0 ∷ 0 ∷ 0 ∷ []

abbrev pub param_bytes : Param → List ℕ
param_bytes param = 1 ∷ param.qualifier ∷ (param.typerow % 256) ∷ (param.typerow / 256) ∷ param.floor ∷ 0 ∷ 0 ∷ 0 ∷ 0 ∷ 0 ∷ []

abbrev pub term_bytes : Term → List ℕ
term_bytes (Lam p b) = pair_bytes 1 0 p b
term_bytes (App f a) = pair_bytes 2 0 f a
term_bytes (Op o l r) = pair_bytes 3 o l r
term_bytes (Var p) = pair_bytes 4 0 p 0
term_bytes (Num n) = number_bytes 5 0 n
term_bytes (Enc s n) = number_bytes 6 s n

unfoldable pub entry_at : Machine → ℕ → List ℕ
entry_at m k =
    cond (ltb k 64) (cond (ltb k (length m.types)) (type_bytes (type_at m k)) blank)
    (cond (ltb k 128) (cond (ltb (k - 64) (length m.params)) (param_bytes (param_at m (k - 64))) blank)
    (cond (ltb (k - 128) (length m.terms)) (term_bytes (term_at m (k - 128))) blank))

-- n entries, from entry k on.
unfoldable pub dumped_from : Machine → ℕ → ℕ → List ℕ → List ℕ
dumped_from m k zero l = l
dumped_from m k (suc n) l = dumped_from m (k + 1) n (sets l (k * 10) (entry_at m k))

-- All 384 entries, where there is room for them.
unfoldable pub dumped : Machine → List ℕ → List ℕ
dumped m l = cond (ltb (length l) 3840) l (dumped_from m 0 384 l)
