-- What is read off filled tables of a sheet, in the rulebook's words.
use Rattle.std.specs.Prelude.{ℕ, cond, List, [], slice_index_or}
use Rattle.rules.specs.Orders.{ready, ready_units}
use Rattle.rules.specs.Yardsticks.{Merit}
use Rattle.rules.specs.Ranking.{listed, count_cell}
use Rattle.rules.specs.Recurrence.{turn, led_count}
use Rattle.marks.specs.declared.marks.Marks.{Marks}
use Rattle.marks.specs.declared.ties.Ties.{Ties}
use Rattle.marks.specs.Numbers.{units_of, numbers_of}
use Rattle.marks.specs.Tied.{tied_of}

module _ (y : Merit) (m : Marks) (t : Ties) where
  -- the count in the cell of a set
  abbrev pub ways_count : ℕ → ℕ
  ways_count A = count_cell y (numbers_of m) (tied_of t) (units_of m) A

  -- how many ways that reach the best go on with j: none if it is not ready
  abbrev pub ways_with : ℕ → ℕ → ℕ
  ways_with A j =
      cond (ready (tied_of t) (units_of m) A j) (led_count y (numbers_of m) (tied_of t) (units_of m) A j) 0

  -- the unit that comes next in the way with the number k, from 0, and the number of its rest
  abbrev pub next_turn : ℕ → ℕ → ℕ × ℕ
  next_turn A k =
      turn (led_count y (numbers_of m) (tied_of t) (units_of m) A) (ready_units (tied_of t) (units_of m) A) k

  -- the best order with the number k, from 0
  abbrev pub listed_order : ℕ → List ℕ
  listed_order k = slice_index_or (listed y (numbers_of m) (tied_of t) (units_of m) 0) k []
