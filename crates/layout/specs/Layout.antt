-- The solver's nodes: which stand for what, and how many places its arrays have. Another layout is a change of this file and of src/lib.rt.
use Rattle.std.specs.Prelude.{ℕ, ◌+◌}

-- A type's node is its type row, 0 to 63; then come the term rows'.
abbrev pub row_type : ℕ → ℕ
row_type i = i + 64

-- A qualifier's node is its code, those of at most nine words and then of 64 variables; then come the term rows'.
abbrev pub row_qualifier : ℕ → ℕ
row_qualifier i = i + 73

-- Where the qualifiers of the rows begin whose types begin at n.
abbrev pub qualifiers_from : ℕ → ℕ
qualifiers_from n = n + 9

-- So many nodes are there of each sort, for 256 term rows: the qualifiers need more than the types.
abbrev pub nodes : ℕ
nodes = 329

-- So many descriptors of arrows: the descriptor of a row has the number of its type's node.
abbrev pub descriptors : ℕ
descriptors = 320

-- A descriptor has four parts.
abbrev pub part_places : ℕ
part_places = 1280

-- The pairs that one row can note: two of its own, and two for each time that two classes of types are made one.
abbrev pub pair_places : ℕ
pair_places = 660

-- The pairs that can be pending: two of each type row, and one of each parameter and each term row.
abbrev pub pending_places : ℕ
pending_places = 448
