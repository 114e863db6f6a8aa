-- Typings as readings of numbered nodes, over numbers for qualifiers.
use Rattle.std.specs.Prelude.{ℕ, ◌+◌, ◌<◌, ◌≤◌, true, cond, ◌≡◌, List, length, get_or}
use Rattle.scheme.specs.Schemes.{words}
use Rattle.scheme.specs.Rule.{highest_at, under}
use Rattle.scheme.specs.Operation.{keeps}
use Rattle.model.specs.Machine.{Machine, param_at, term_at}
use Rattle.model.specs.Typing.{Ty, int, arrow, Rules, Assignment, Follows, FunctionsPlain}
use Rattle.model.specs.Inference.{Slot, variable, param, row, Shape}
use Rattle.model.specs.declared.Term.{Term}
use Rattle.layout.specs.Layout.{row_type, row_qualifier, nodes}
use Rattle.layout.specs.Kinds.{unknown, int_kind, first_arrow}
use Rattle.layout.specs.Readings.{Constant, Coded}
use Rattle.model.specs.declared.Term.TheVariants.{Lam, App, Op, Var, Num, Enc}

-- What the nodes give each slot.
abbrev pub assignment : Machine → (ℕ → Ty ℕ) → (ℕ → ℕ) → Assignment ℕ
assignment m t v =
    record {
      variable = λ k. v (k + words m.schemes);
      type = t;
      param = λ p. record { qualifier = v (param_at m p).qualifier; type = t (param_at m p).typerow };
      row = λ i. record { qualifier = v (row_qualifier i); type = t (row_type i) };
    }

-- Rules in which a word means what the reading gives its node, and no operation asks for a bound.
abbrev pub free : Machine → (ℕ → ℕ) → Rules
free m v = record { Q = ℕ; words = words m.schemes; word = v; Fits = λ o q. Unit {0} }

-- The reading meets the lines T and P and the first k rows, but for "at or below".
abbrev pub Meets : Machine → ℕ → (ℕ → Ty ℕ) → (ℕ → ℕ) → Type 0
Meets m k t v = Follows (free m v) m k (assignment m t v)

-- Functions are PLAIN in the reading of the lines and the first k rows.
abbrev pub Plain : Machine → ℕ → (ℕ → Ty ℕ) → (ℕ → ℕ) → Type 0
Plain m k t v = FunctionsPlain (free m v) m k (assignment m t v)

-- "at or below" in the first k rows.
abbrev pub RowFits : List ℕ → Term → (ℕ → ℕ) → Type 0
RowFits R (Lam p b) v = Unit {0}
RowFits R (App f a) v = Unit {0}
RowFits R (Op o l r) v = under R (v (row_qualifier l)) (highest_at R o) ≡ true
RowFits R (Var p) v = Unit {0}
RowFits R (Num n) v = Unit {0}
RowFits R (Enc s n) v = Unit {0}

abbrev pub FitsAll : List ℕ → Machine → ℕ → (ℕ → ℕ) → Type 0
FitsAll R m k v = (i : ℕ) → i < k → i < length m.terms → RowFits R (term_at m i) v

-- The rule of row i at its nodes; q and ty are the nodes of the parameter that the row names, if it names one.
abbrev pub RowHolds : ℕ → Term → ℕ → ℕ → (ℕ → Ty ℕ) → (ℕ → ℕ) → Type 0
RowHolds i (Lam p b) q ty t v = (v (row_qualifier i) ≡ v 0) × (t (row_type i) ≡ arrow (v q) (t ty) (v (row_qualifier b)) (t (row_type b)))
RowHolds i (App f a) q ty t v = t (row_type f) ≡ arrow (v (row_qualifier a)) (t (row_type a)) (v (row_qualifier i)) (t (row_type i))
RowHolds i (Op o l r) q ty t v =
    (t (row_type l) ≡ int)
    × (t (row_type r) ≡ int)
    × (v (row_qualifier r) ≡ v (row_qualifier l))
    × (v (row_qualifier i) ≡ cond (keeps o) (v (row_qualifier l)) (v 0))
    × (t (row_type i) ≡ int)
RowHolds i (Var p) q ty t v = (v (row_qualifier i) ≡ v q) × (t (row_type i) ≡ t ty)
RowHolds i (Num n) q ty t v = t (row_type i) ≡ int
RowHolds i (Enc s n) q ty t v = (v (row_qualifier i) ≡ v s) × (t (row_type i) ≡ int)

-- The parameter that a row names, if it names one.
abbrev pub parameter_of : Term → ℕ
parameter_of (Lam p b) = p
parameter_of (App f a) = 0
parameter_of (Op o l r) = 0
parameter_of (Var p) = p
parameter_of (Num n) = 0
parameter_of (Enc s n) = 0

-- What a list of the parameters' nodes has for the parameter that a row names.
abbrev pub node_named : List ℕ → Term → ℕ
node_named l term = get_or l (parameter_of term) 0

-- The words and shapes that codes and kinds of nodes give the slots.
abbrev pub node_word : Machine → (ℕ → ℕ) → Slot → ℕ
node_word m w (variable k) = w (k + words m.schemes)
node_word m w (param p) = w (param_at m p).qualifier
node_word m w (row i) = w (row_qualifier i)

unfoldable pub kind_shape : ℕ → Shape
kind_shape ℕ.zero = Shape.any
kind_shape (ℕ.suc ℕ.zero) = Shape.int
kind_shape (ℕ.suc (ℕ.suc d)) = Shape.arrow

abbrev pub node_shape : Machine → (ℕ → ℕ) → Slot → Shape
node_shape m kind (variable k) = Shape.int
node_shape m kind (param p) = kind_shape (kind (param_at m p).typerow)
node_shape m kind (row i) = kind_shape (kind (row_type i))

-- A solution of the whole program.
pub record Solution (R : List ℕ) (m : Machine) (t : ℕ → Ty ℕ) (v : ℕ → ℕ) : Type 0 where
  pub meets : Meets m (length m.terms) t v
  pub plain : Plain m (length m.terms) t v
  pub constant : Constant (words m.schemes) v
  pub coded : Coded (words m.schemes) v
  pub fits : FitsAll R m (length m.terms) v

-- w is the greatest of all solutions' qualifiers, and kind says each node's shape in them.
pub record Solved (R : List ℕ) (m : Machine) (w kind : ℕ → ℕ) : Type 0 where
  pub above : (t : ℕ → Ty ℕ) (v : ℕ → ℕ) → Solution R m t v → (x : ℕ) → x < nodes → under R (v x) (w x) ≡ true
  pub ints : (t : ℕ → Ty ℕ) (v : ℕ → ℕ) → Solution R m t v → (x : ℕ) → x < nodes → kind x ≡ int_kind → t x ≡ int
  pub arrows : (t : ℕ → Ty ℕ) (v : ℕ → ℕ) → Solution R m t v → (x : ℕ) → x < nodes → first_arrow ≤ kind x →
      (q : ℕ) × (a : Ty ℕ) × (r : ℕ) × (b : Ty ℕ) × (t x ≡ arrow q a r b)
  -- with INT for all that is unknown there is a solution that has w
  pub attained : (t : ℕ → Ty ℕ) × Solution R m t w × ((x : ℕ) → x < nodes → kind x ≡ unknown → t x ≡ int)
  -- where a node is unknown, some solution makes it an arrow
  pub function : (x : ℕ) → x < nodes → kind x ≡ unknown → (t : ℕ → Ty ℕ) × (v : ℕ → ℕ) × Solution R m t v × (t x ≡ arrow 0 int 0 int)
