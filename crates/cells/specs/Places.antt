-- Where the mark of a pair lies in half a square.
use Rattle.std.specs.Prelude.{ℕ, ◌+◌, ◌-◌, ◌*◌, ◌/◌, min, max}

-- the pairs of the higher label come after all pairs of lower labels
abbrev pub place : ℕ → ℕ → ℕ
place a b = (max a b - 1) * (max a b - 2) / 2 + (min a b - 1)
