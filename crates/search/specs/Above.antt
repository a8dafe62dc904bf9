-- Tables over sets that are filled from the full set down to some set.
use Rattle.std.specs.Prelude.{◌≡◌, ℕ, ◌+◌, ◌^◌, ◌<◌, ◌≤◌, Bool, true, false, cond, List, length, ℤ, Option, Some, None, slice_index, slice_index_or}
use Rattle.rules.specs.Units.{with_unit}
use Rattle.rules.specs.Yardsticks.{Merit}
use Rattle.rules.specs.Orders.{ready, circular}
use Rattle.rules.specs.Ranking.{total_cell, count_cell}
use Rattle.rules.specs.Recurrence.{led}
use Rattle.marks.specs.declared.marks.Marks.{Marks}
use Rattle.marks.specs.declared.ties.Ties.{Ties}
use Rattle.marks.specs.Numbers.{units_of, numbers_of}
use Rattle.marks.specs.Tied.{tied_units, tied_of}

-- the tables hold the cells of the sets of n units whose number is at least a
pub record FilledFrom {T : Type 0} (numbers : T → List ℤ) (y : Merit) (p : ℕ → ℕ → ℕ) (tied : ℕ → ℕ → Bool) (n a : ℕ) (totals : List T) (counts : List ℕ) : Type 0 where
  pub total : (A : ℕ) (d : T) → a ≤ A → A < 2 ^ n → numbers (slice_index_or totals A d) ≡ total_cell y p tied n A
  pub count : (A : ℕ) → a ≤ A → A < 2 ^ n → slice_index counts A ≡ count_cell y p tied n A

-- marks and ties of the same units, without a circle
pub record Sound (m : Marks) (t : Ties) : Type 0 where
  pub same : tied_units t ≡ units_of m
  pub straight : circular (tied_of t) (units_of m) ≡ false

-- both tables have a cell for each set
pub record Room {T : Type 0} (n : ℕ) (totals : List T) (counts : List ℕ) : Type 0 where
  pub for_totals : 2 ^ n ≤ length totals
  pub for_counts : 2 ^ n ≤ length counts

-- v is the cell of the set A: its total and its count
pub record CellOf {T : Type 0} (numbers : T → List ℤ) (y : Merit) (m : Marks) (t : Ties) (A : ℕ) (v : T × ℕ) : Type 0 where
  pub total : numbers v.0 ≡ total_cell y (numbers_of m) (tied_of t) (units_of m) A
  pub count : v.1 ≡ count_cell y (numbers_of m) (tied_of t) (units_of m) A

-- the unit j may come next after A: v are the total that is reached with it, and in how many ways
pub record Led {T : Type 0} (numbers : T → List ℤ) (y : Merit) (m : Marks) (t : Ties) (A j : ℕ) (v : T × ℕ) : Type 0 where
  pub free : ready (tied_of t) (units_of m) A j ≡ true
  pub total : numbers v.0 ≡ led y (numbers_of m) (tied_of t) (units_of m) A j
  pub count : v.1 ≡ count_cell y (numbers_of m) (tied_of t) (units_of m) (with_unit A j)

-- the better of what was found and of one way more, by an order of the totals: of equal totals the counts add up
abbrev pub better : {T : Type 0} → (T → T → Bool) → Option (T × ℕ) → T × ℕ → T × ℕ
better exceeds None w = w
better exceeds (Some v) w = cond (exceeds w.0 v.0) w (v.0, cond (exceeds v.0 w.0) v.1 (v.1 + w.1))
