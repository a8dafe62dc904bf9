-- Which ties sets of earlier units say, one set for each unit.
use Rattle.std.specs.Prelude.{ℕ, ◌-◌, ◌^◌, ◌<◌, Bool, ◌&&◌, List, slice_index}
use Rattle.rules.specs.Units.{label, has}

-- a stands earlier than b: both are labels, and the set of b has a
abbrev pub tied_by : ℕ → List ℕ → ℕ → ℕ → Bool
tied_by n sets a b = label n a && (label n b && has (slice_index sets (b - 1)) a)

-- no set has a unit above n
abbrev pub OnUnits : ℕ → List ℕ → Type 0
OnUnits n sets = (k : ℕ) → slice_index sets k < 2 ^ n
