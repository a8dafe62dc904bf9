-- What improving an order answers, and what it leaves in the row.
use Rattle.std.specs.Prelude.{◌≡◌, ℕ, ◌≤◌, Bool, true, false, cond, ◌↔◌, List, ◌++◌, length, drop, ℤ, Some, None, Option, Result, MatchResult, ◌==◌, nat_lt}
use Rattle.rules.specs.Orders.{Order, is_order, keeps}
use Rattle.rules.specs.Yardsticks.{Merit}
use Rattle.rules.specs.Moves.{Moves, Improved, settled, improved}
use Rattle.rules.specs.Theorems.{Improves}
use Rattle.marks.specs.declared.marks.Marks.{Marks}
use Rattle.marks.specs.declared.ties.Ties.{Ties}
use Rattle.marks.specs.Numbers.{units_of, numbers_of}
use Rattle.marks.specs.Tied.{tied_units, tied_of}
use Rattle.yardsticks.specs.Totals.{order_of, total_of}
use Rattle.moves.specs.declared.improve.MoveFault.{MoveFault}
use Rattle.moves.specs.declared.improve.MoveFault.TheVariants.{Units, Short, NoOrder, Against}
use Rattle.moves.specs.declared.improve.Improvement.{Improvement}

-- the first that holds, of different units, too short a row, no order, and an order against the ties
abbrev pub first_fault : Bool → Bool → Bool → Bool → Option MoveFault
first_fault same short order ties =
    cond same (cond short (Some Short) (cond order (cond ties None (Some Against)) (Some NoOrder))) (Some Units)

-- why there is no answer, if there is none
abbrev pub fault : Marks → Ties → List ℕ → Option MoveFault
fault m t row =
    first_fault (tied_units t == units_of m) (nat_lt (length row) (units_of m)) (is_order (units_of m) (order_of m row))
    (keeps (tied_of t) (order_of m row))

module _ (k : Moves) (y : Merit) (m : Marks) (t : Ties) where
  -- no move gives a better order
  abbrev pub settled_at : List ℕ → Bool
  settled_at = settled k y (numbers_of m) (tied_of t) (units_of m)

  -- what at most `limit` moves make of an order
  abbrev pub improved_by : ℕ → List ℕ → Improved
  improved_by = improved k y (numbers_of m) (tied_of t) (units_of m)

  -- what improving means, for the order in the first places of a row
  abbrev pub ImprovesBy : ℕ → List ℕ → Type 0
  ImprovesBy limit row = Improves k y (numbers_of m) (tied_of t) (units_of m) limit (order_of m row)

  -- no move gives a tie-keeping order of greater total
  abbrev pub NoneBetter : List ℕ → Type 0
  NoneBetter o =
      (i : ℕ) → 1 ≤ i → i ≤ k.many (units_of m) → keeps (tied_of t) (k.moved (units_of m) i o) ≡ true
      → y.exceeds (total_of y m (k.moved (units_of m) i o)) (total_of y m o) ≡ false

  -- what improving is asked to start from: marks and ties of the same units, and in the row a tie-keeping order of a known total
  pub record Startable {T : Type 0} (numbers : T → List ℤ) (start : T) (row : List ℕ) : Type 0 where
    pub same_units : tied_units t ≡ units_of m
    pub room : units_of m ≤ length row
    pub order : Order (units_of m) (order_of m row)
    pub ties : keeps (tied_of t) (order_of m row) ≡ true
    pub total : numbers start ≡ total_of y m (order_of m row)

  -- the moves made, the total reached, whether no move gives a better order; and the row, unchanged past the order
  pub record Reached {T : Type 0} (numbers : T → List ℤ) (limit : ℕ) (row after : List ℕ) (a : Improvement T) : Type 0 where
    pub made : a.made ≡ (improved_by limit (order_of m row)).made
    pub total : numbers a.total ≡ total_of y m (improved_by limit (order_of m row)).row
    pub settled : a.settled ≡ settled_at (improved_by limit (order_of m row)).row
    pub order : after ≡ (improved_by limit (order_of m row)).row ++ drop (units_of m) row

  -- an answer, and what it means
  pub record Answered {T : Type 0} (numbers : T → List ℤ) (limit : ℕ) (row after : List ℕ) (a : Improvement T) : Type 0 where
    pub no_fault : fault m t row ≡ None
    pub reached : Reached numbers limit row after a
    pub improves : ImprovesBy limit row
    pub settles : (a.settled ≡ true) ↔ NoneBetter (improved_by limit (order_of m row)).row

  -- the call, from the row before to the row after; a fault leaves the row as it was
  abbrev pub Improving : {T : Type 0} → (T → List ℤ) → ℕ → List ℕ → List ℕ → Result (Improvement T) MoveFault → Type 0
  Improving numbers limit row after r =
      MatchResult r (Answered numbers limit row after) (λ f. (fault m t row ≡ Some f) × (after ≡ row))
