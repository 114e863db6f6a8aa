-- Floors, said of typings.
-- Document 02, a).
use Rattle.std.specs.Prelude.{ℕ, ◌<◌, length}
use Rattle.model.specs.Machine.{Machine}
use Rattle.model.specs.Typing.{Assignment}
use Rattle.model.specs.Inference.{ruling, Slot, Shape, Types, GreatestTyping, MeetsFloor, FloorsMet, FloorMissed}

-- The scheme that the typing gives each parameter is "at or above the floor".
abbrev pub MeetsFloors : (m : Machine) → Assignment (ruling m).Q → Type 0
MeetsFloors m s = (p : ℕ) → p < length m.params → MeetsFloor (ruling m) m p (s.param p).qualifier

-- "some typing meets every floor"
abbrev pub SomeMeetsFloors : Machine → Type 0
SomeMeetsFloors m = (s : Assignment (ruling m).Q) × Types (ruling m) m s × MeetsFloors m s

-- "the greatest typing meets every floor"
abbrev pub GreatestMeetsFloors : Machine → Type 0
GreatestMeetsFloors m = (word : Slot → ℕ) × (shape : Slot → Shape) × GreatestTyping (ruling m) m word shape × FloorsMet (ruling m) m word

-- The program has typings, and the greatest one misses a floor: p is the lowest parameter whose floor it misses.
abbrev pub GreatestMissesFloor : Machine → ℕ → Type 0
GreatestMissesFloor m p = (word : Slot → ℕ) × (shape : Slot → Shape) × GreatestTyping (ruling m) m word shape × FloorMissed (ruling m) m word p
