-- The two places that a move is about.
use Rattle.std.specs.Prelude.{ℕ, ◌-◌, Bool, slice_index_or}
use Rattle.rules.specs.Moves.{chosen}

-- the places of the move with the number i, from 1, among the pairs that pass a test
abbrev pub place_pair : (ℕ → ℕ → Bool) → ℕ → ℕ → ℕ × ℕ
place_pair test n i = slice_index_or (chosen test n) (i - 1) (0, 0)
