-- Tables over sets that hold the rulebook's cells.
use Rattle.std.specs.Prelude.{◌≡◌, ℕ, ◌^◌, ◌<◌, Bool, List, ℤ, slice_index, slice_index_or}
use Rattle.rules.specs.Yardsticks.{Merit}
use Rattle.rules.specs.Ranking.{total_cell, count_cell}

-- the tables of totals and of counts hold the cell of every set of n units
pub record Filled {T : Type 0} (numbers : T → List ℤ) (y : Merit) (p : ℕ → ℕ → ℕ) (tied : ℕ → ℕ → Bool) (n : ℕ) (totals : List T) (counts : List ℕ) : Type 0 where
  pub total : (A : ℕ) (d : T) → A < 2 ^ n → numbers (slice_index_or totals A d) ≡ total_cell y p tied n A
  pub count : (A : ℕ) → A < 2 ^ n → slice_index counts A ≡ count_cell y p tied n A
