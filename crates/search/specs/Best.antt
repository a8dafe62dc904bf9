-- What a search over sets answers, and what it leaves in the tables and the row.
use Rattle.std.specs.Prelude.{◌≡◌, ℕ, ◌-◌, ◌^◌, Bool, false, cond, ◌&&◌, ◌||◌, List, ◌++◌, length, drop, ℤ, Some, None, Option, Result, MatchResult, ◌==◌, nat_le, nat_lt}
use Rattle.rules.specs.Orders.{circular}
use Rattle.rules.specs.Yardsticks.{Merit}
use Rattle.rules.specs.Ranking.{best, listed}
use Rattle.marks.specs.declared.marks.Marks.{Marks}
use Rattle.marks.specs.declared.ties.Ties.{Ties}
use Rattle.marks.specs.Numbers.{units_of, numbers_of}
use Rattle.marks.specs.Tied.{tied_units, tied_of}
use Rattle.search.specs.declared.best.SearchFault.{SearchFault}
use Rattle.search.specs.declared.tables.Sheet.{Sheet}
use Rattle.search.specs.declared.best.SearchFault.TheVariants.{Units, Short, Circle, Number}
use Rattle.search.specs.Tables.{Filled}
use Rattle.search.specs.Listing.{listed_order}

-- a table has fewer cells than there are sets of n units, or the row fewer places than units
abbrev pub short : ℕ → ℕ → ℕ → ℕ → Bool
short n totals counts row = nat_lt totals (2 ^ n) || (nat_lt counts (2 ^ n) || nat_lt row n)

-- k is a number from 1 to the count
abbrev pub numbered : ℕ → ℕ → Bool
numbered count k = nat_le 1 k && nat_le k count

-- the first that holds, of different units, too little room, a circle, and a number that no order has
abbrev pub first_fault : Bool → Bool → Bool → Bool → Option SearchFault
first_fault same little circle number =
    cond same (cond little (Some Short) (cond circle (Some Circle) (cond number None (Some Number)))) (Some Units)

-- the sheet of m and t, where there is room for it; or the first of the three faults that leave the number open
abbrev pub Admits : Marks → Ties → ℕ → ℕ → ℕ → Result Sheet SearchFault → Type 0
Admits m t totals counts row r =
    MatchResult r (λ s. (s.marks.now ≡ m) × (s.ties.now ≡ t) × (short (units_of s.marks.now) totals counts row ≡ false))
    (λ f. (number : Bool)
    → first_fault (tied_units t == units_of m) (short (units_of m) totals counts row) (circular (tied_of t) (units_of m)) number ≡ Some f)

-- what the caller lends: the table of totals, the table of counts, and the row
pub record Lent (T : Type 0) : Type 0 where
  pub totals : List T
  pub counts : List ℕ
  pub row : List ℕ

module _ {T : Type 0} (numbers : T → List ℤ) (y : Merit) (m : Marks) (t : Ties) where
  -- how many orders reach the greatest total
  abbrev pub best_count : ℕ
  best_count = length (listed y (numbers_of m) (tied_of t) (units_of m) 0)

  -- why there is no answer, if there is none
  abbrev pub fault : ℕ → Lent T → Option SearchFault
  fault k s =
      first_fault (tied_units t == units_of m) (short (units_of m) (length s.totals) (length s.counts) (length s.row))
      (circular (tied_of t) (units_of m)) (numbered best_count k)

  -- the tables hold the cells of all sets; what lies past these stays
  pub record Refilled (s e : Lent T) : Type 0 where
    pub filled : Filled numbers y (numbers_of m) (tied_of t) (units_of m) e.totals e.counts
    pub totals_past : drop (2 ^ units_of m) e.totals ≡ drop (2 ^ units_of m) s.totals
    pub counts_past : drop (2 ^ units_of m) e.counts ≡ drop (2 ^ units_of m) s.counts

  -- an answer: the greatest total, the count, and in the row the order with the number k, from 1
  pub record Found (k : ℕ) (s e : Lent T) (v : T × ℕ) : Type 0 where
    pub no_fault : fault k s ≡ None
    pub greatest : numbers v.0 ≡ best y (numbers_of m) (tied_of t) (units_of m) 0
    pub counted : v.1 ≡ best_count
    pub tables : Refilled s e
    pub order : e.row ≡ listed_order y m t (k - 1) ++ drop (units_of m) s.row

  -- what a refusal leaves: all as it was, but the tables filled where only the number was wrong
  abbrev pub Left : Lent T → Lent T → SearchFault → Type 0
  Left s e Units = e ≡ s
  Left s e Short = e ≡ s
  Left s e Circle = e ≡ s
  Left s e Number = Refilled s e × (e.row ≡ s.row)

  -- the call with the number k, from what was lent to what it is after
  abbrev pub Searches : ℕ → Lent T → Lent T → Result (T × ℕ) SearchFault → Type 0
  Searches k s e r = MatchResult r (Found k s e) (λ f. (fault k s ≡ Some f) × Left s e f)
