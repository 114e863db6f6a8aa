-- The order of nine qualifiers as an array of nine by nine, and what is found in it.
use Rattle.std.specs.Prelude.{ℕ, ◌+◌, ◌-◌, ◌*◌, ◌/◌, ◌%◌, ◌<◌, Bool, false, cond, ◌&&◌, ◌||◌, Option, Some, None, List, [], ◌≡◌, eqb, ltb, get_or}
use Rattle.scheme.specs.Lists.{implies, every, first}
use Rattle.scheme.specs.Filled.{Filled}
use Rattle.derive.specs.declared.Bits.{Bits}

-- Whether a is at or below b.
abbrev pub order_at : List Bool → ℕ → ℕ → Bool
order_at order a b = get_or order (a * 9 + b) false

abbrev pub Member : List Bool → ℕ → Bool
Member members c = get_or members c false

-- The digits of the scheme with a place in the array.
abbrev pub bits_at : List Bits → ℕ → List Bool
bits_at bits i = (get_or bits i (record { bits = [] })).bits

unfoldable pub supports_at : List Bits → ℕ → ℕ → Bool
supports_at bits c o = eqb c 0 || (ltb o 5 && get_or (bits_at bits (c - 1)) o false)

unfoldable pub wider_at : List Bits → ℕ → ℕ → Bool
wider_at bits a b = every 6 (λ o. implies (supports_at bits b o) (supports_at bits a o))

unfoldable pub above_all : List Bool → ℕ → List Bool → ℕ → Bool
above_all order words members c = every words (λ d. implies (Member members d) (order_at order d c))

unfoldable pub best : List Bool → ℕ → List Bool → ℕ
best order words members = first words (λ c. Member members c && above_all order words members c)

-- The same, where there is one.
unfoldable pub best_of : List Bool → ℕ → List Bool → Option ℕ
best_of order words members = cond (ltb (best order words members) words) (Some (best order words members)) None

unfoldable pub both_below : List Bool → ℕ → ℕ → ℕ → Bool
both_below order a b c = order_at order c a && order_at order c b

-- The members are those that pass the test, of the first n.
abbrev pub Members : (ℕ → Bool) → ℕ → List Bool → Type 0
Members test n members = Filled false 9 (λ c b. b ≡ test c) n members

-- The first n places of the order.
abbrev pub Ordered : List Bits → ℕ → List Bool → Type 0
Ordered bits n order = Filled false 81 (λ i b. b ≡ wider_at bits (i / 9) (i % 9)) n order

-- c is the best of those that pass the test, whatever array of members they are found by.
abbrev pub IsBest : List Bool → ℕ → (ℕ → Bool) → ℕ → Type 0
IsBest order words test c = (members : List Bool) × Members test 9 members × (c ≡ best order words members)

-- The meets of the pairs in the first n places, or two qualifiers that have none.
abbrev pub MeetsFound : List Bool → ℕ → ℕ → Option (List ℕ) → Type 0
MeetsFound order words n (Some meets) = (i : ℕ) → i < n → i / 9 < words → i % 9 < words → IsBest order words (both_below order (i / 9) (i % 9)) (get_or meets i 0) × (get_or meets i 0 < words)
MeetsFound order words n None = (i : ℕ) × (i / 9 < words) × (i % 9 < words) × IsBest order words (both_below order (i / 9) (i % 9)) words

-- The highest of the first n operations, or one that has none.
abbrev pub HighestFound : List Bool → List Bits → ℕ → ℕ → Option (List ℕ) → Type 0
HighestFound order bits words n (Some highest) = (o : ℕ) → o < n → IsBest order words (λ c. supports_at bits c o) (get_or highest o 0) × (get_or highest o 0 < words)
HighestFound order bits words n None = (o : ℕ) × (o < 5) × IsBest order words (λ c. supports_at bits c o) words
