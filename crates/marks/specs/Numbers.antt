-- What the marks of a sheet say, and what the calls do to that.
use Rattle.std.specs.Prelude.{◌≡◌, ℕ, cond, ◌&&◌, Ok, Err, Result, is_ok, nat_le}
use Rattle.rules.specs.Sheets.{same_pair}
use Rattle.marks.specs.declared.marks.Marks.{Marks}
use Rattle.marks.specs.declared.faults.MarkFault.{MarkFault}
use Rattle.marks.specs.declared.faults.MarkFault.TheVariants.{NoPair, High}
use Rattle.marks.specs.Cells.{pair, read}

-- how many units there are
abbrev pub units_of : Marks → ℕ
units_of m = m.units.count

-- the mark of two labels, 0 where one is no label of the sheet or both are the same
abbrev pub numbers_of : Marks → ℕ → ℕ → ℕ
numbers_of m = read m.units.count m.cells

-- the marks of n units, all 0
pub record Blank (n : ℕ) (m : Marks) : Type 0 where
  pub size : units_of m ≡ n
  pub marks : (x y : ℕ) → numbers_of m x y ≡ 0

-- whether a pair gets a mark: not if a and b are not two labels, and else not if d is above 10,000
abbrev pub put_answer : Marks → ℕ → ℕ → ℕ → Result (Unit {0}) MarkFault
put_answer m a b d = cond (pair (units_of m) a b) (cond (nat_le d 10000) (Ok tt) (Err High)) (Err NoPair)

-- the pair of a and b gets the mark d, unless it is refused; nothing else changes
pub record Put (m : Marks) (a b d : ℕ) (r : Result (Unit {0}) MarkFault) (k : Marks) : Type 0 where
  pub answered : r ≡ put_answer m a b d
  pub size : units_of k ≡ units_of m
  pub marks : (x y : ℕ) → numbers_of k x y ≡ cond (is_ok r && same_pair a b x y) d (numbers_of m x y)
