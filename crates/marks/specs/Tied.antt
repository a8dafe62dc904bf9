-- What the ties of a sheet say, and what the calls do to that.
use Rattle.std.specs.Prelude.{◌≡◌, ℕ, ◌^◌, ◌<◌, ◌≤◌, Bool, true, false, cond, ◌&&◌, ◌↔◌, List, Ok, Err, Result, is_ok, take}
use Rattle.rules.specs.Units.{has}
use Rattle.rules.specs.Orders.{Order, Keeps}
use Rattle.rules.specs.Sheets.{same_tie}
use Rattle.marks.specs.declared.ties.Ties.{Ties}
use Rattle.marks.specs.declared.faults.MarkFault.{MarkFault}
use Rattle.marks.specs.declared.faults.MarkFault.TheVariants.{NoPair}
use Rattle.marks.specs.Cells.{pair}
use Rattle.marks.specs.TieSets.{tied_by}

-- for how many units the ties are
abbrev pub tied_units : Ties → ℕ
tied_units t = t.units.count

-- a stands earlier than b; false where one is no label of the sheet
abbrev pub tied_of : Ties → ℕ → ℕ → Bool
tied_of t = tied_by t.units.count t.before

-- n units without ties
pub record Untied (n : ℕ) (t : Ties) : Type 0 where
  pub size : tied_units t ≡ n
  pub ties : (x y : ℕ) → tied_of t x y ≡ false

-- the tie of a before b stands or does not, unless they are not two labels, which is refused; nothing else changes
pub record TieSet (t : Ties) (a b : ℕ) (stands : Bool) (r : Result (Unit {0}) MarkFault) (k : Ties) : Type 0 where
  pub answered : r ≡ cond (pair (tied_units t) a b) (Ok tt) (Err NoPair)
  pub size : tied_units k ≡ tied_units t
  pub ties : (x y : ℕ) → tied_of k x y ≡ cond (is_ok r && same_tie a b x y) stands (tied_of t x y)

-- the units tied before a unit, as a set: it has no unit above the labels
pub record EarlierSet (t : Ties) (unit r : ℕ) : Type 0 where
  pub units : (a : ℕ) → 1 ≤ a → has r a ≡ tied_of t a unit
  pub within : r < 2 ^ tied_units t

-- as many of a row as there are units
abbrev pub first_of : Ties → List ℕ → List ℕ
first_of t row = take (tied_units t) row

-- for an order, r says whether it keeps the ties
abbrev pub KeepsIf : Ties → List ℕ → Bool → Type 0
KeepsIf t o r = Order (tied_units t) o → (r ≡ true) ↔ Keeps (tied_of t) o
