-- A closed set with the tables above it: what a unit leads to that may come next.
use Rattle.std.proofs.Common.{◌≡◌, ℕ, ◌<◌, Bool, true, List, length, get_or, ℤ, sym, ap, ◌∙◌, subst₂}
use Rattle.rules.specs.Units.{label}
use Rattle.rules.specs.Yardsticks.{Lawful, Within}
use Rattle.rules.specs.Orders.{ready}
use Rattle.marks.specs.declared.marks.Marks.{Marks}
use Rattle.marks.specs.declared.ties.Ties.{Ties}
use Rattle.marks.specs.Numbers.{units_of, numbers_of}
use Rattle.marks.specs.Tied.{tied_units, tied_of}
use Rattle.yardsticks.specs.declared.yardstick.Yardstick.{Ghosts}
use Rattle.yardsticks.specs.Merits.{merit_of}
use Rattle.search.specs.declared.tables.Stage.{Stage}
use Rattle.search.specs.Above.{Led}
use Rattle.search.proofs.Placing.{put}
use Rattle.search.proofs.Cells as cells
use Rattle.search.proofs.Cells.{Here, Next}

module _ {S T : Type 0} {y : Ghosts S T} (law : Lawful (merit_of y)) (s : Stage S T y) where
  abbrev m : Marks
  m = s.tables.sheet.marks.now

  abbrev t : Ties
  t = s.tables.sheet.ties.now

  pub here : Here (merit_of y) m t s.placed
  here = record { law = law; sound = s.tables.sheet.sound; below = s.within; shut = s.shut }

  -- the ties say the same of the units of the marks
  pub same_ready : (j : ℕ) (b : Bool) → b ≡ ready (tied_of t) (tied_units t) s.placed j → b ≡ ready (tied_of t) (units_of m) s.placed j
  same_ready j b e = e ∙ ap (λ (k : ℕ). ready (tied_of t) k s.placed j) s.tables.sheet.sound.same

  module _ (j : ℕ) (unit : label (units_of m) j ≡ true) (may : true ≡ ready (tied_of t) (tied_units t) s.placed j) where
    free : ready (tied_of t) (units_of m) s.placed j ≡ true
    free = sym (same_ready j true may)

    next : Next m t s.placed j
    next = record { unit = unit; free = free }

    module _ {k : ℕ} (e : k ≡ put s.placed j) where
      pub in_totals : k < length s.tables.totals.now
      in_totals = cells.in_room here next s.above e _ s.tables.room.for_totals

      pub in_counts : k < length s.tables.counts.now
      in_counts = cells.in_room here next s.above e _ s.tables.room.for_counts

      module _ {u x : T} (step : y.numbers u ≡ y.meaning (numbers_of m) (units_of m) s.placed j) (read : x ≡ get_or s.tables.totals.now k x) where
        -- the sum of the step and what is read fits
        pub adds : Within 21 y.caps (y.numbers u) × (Within 21 y.caps (y.numbers x) × Within 21 y.caps (y.plus (y.numbers u) (y.numbers x)))
        adds =
            subst₂ (λ (u v : List ℤ). Within 21 y.caps u × (Within 21 y.caps v × Within 21 y.caps (y.plus u v)))
            (sym step) (sym (cells.read_total here next s.above e read)) (cells.near here next)

        pub led : {v : T} → y.numbers v ≡ y.plus (y.numbers u) (y.numbers x)
            → Led y.numbers (merit_of y) m t s.placed j (v, get_or s.tables.counts.now k 0)
        led sum = record {
          free = free;
          total = cells.told here next s.above e read step sum;
          count = cells.read_count here next s.above e;
        }
